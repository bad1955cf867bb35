-- Blocks of numbers, written and read back.
use Prim.Native.Nat.{ℕ, zero, suc, ◌+◌, ◌*◌, ◌≤◌, ◌<◌}
use mathlib.Core.Path.{◌≡◌, refl, sym, ap, ◌∙◌}
use mathlib.Core.List.{List, [], ◌∷◌, ◌++◌, append_assoc, append-nil}
use native.Mathlib.Omega.{arith}
use lib.ListN.{length, get_or, take, drop}
use lib.Seq.{get_or-append-add, take-suc, split_at, length-take-le}
use Rattle.lists.specs.Lists.{gather, rows}
use Rattle.lists.proofs.Places.{length-gather, gather_append}
use Rattle.rules.specs.Sheets.{word_at, words_of, bytes_of}
use Rattle.writer.proofs.Back.{word_back, bytes_back}

-- a word past what stands before it
pub word-past : (p b : List ℕ) (j : ℕ) → word_at (p ++ b) (length p + j) ≡ word_at b j
word-past p b j =
    let x : length p + j + 1 ≡ length p + (j + 1) = omega arith in
    let y : length p + j + 2 ≡ length p + (j + 2) = omega arith in
    let z : length p + j + 3 ≡ length p + (j + 3) = omega arith in
    rw (x, y, z, get_or-append-add p b j 0, get_or-append-add p b (j + 1) 0, get_or-append-add p b (j + 2) 0, get_or-append-add p b (j + 3) 0) refl

-- one number after some numbers
pub word-at : (ws : List ℕ) (w : ℕ) (more : List ℕ) → w < 4294967296 → word_at (gather bytes_of ws ++ (bytes_of w ++ more)) (4 * length ws) ≡ w
word-at ws w more h =
    let l : 4 * length ws ≡ length (gather bytes_of ws) + 0 = omega (arith, length-gather bytes_of 4 (λ k. refl) ws) in
    ap (word_at (gather bytes_of ws ++ (bytes_of w ++ more))) l ∙ word-past (gather bytes_of ws) (bytes_of w ++ more) 0 ∙ word_back w more h

-- "Reading what was written": the first n numbers
pub record Words (ws : List ℕ) : Type 0 where
  pub each : (i : ℕ) → i < length ws → get_or ws i 0 < 4294967296

word_of : (ws more : List ℕ) → Words ws → (n : ℕ) → n < length ws → word_at (gather bytes_of ws ++ more) (4 * n) ≡ get_or ws n 0
word_of ws more h n l =
    let w = get_or ws n 0 in
    let e = split_at ws n 0 l in
    let k : length (take n ws) ≡ n = length-take-le n ws (omega arith) in
    let g : gather bytes_of ws ++ more ≡ gather bytes_of (take n ws) ++ (bytes_of w ++ (gather bytes_of (drop (suc n) ws) ++ more)) =
    ap (λ (v : List ℕ). gather bytes_of v ++ more) e ∙ ap (λ (v : List ℕ). v ++ more) (gather_append bytes_of (take n ws) (w ∷ drop (suc n) ws))
    ∙ append_assoc (gather bytes_of (take n ws)) (bytes_of w ++ gather bytes_of (drop (suc n) ws)) more in
    let m = word-at (take n ws) w (gather bytes_of (drop (suc n) ws) ++ more) (h.each n l) in
    ap (λ (v : List ℕ). word_at v (4 * n)) g ∙ ap (λ (j : ℕ). word_at (gather bytes_of (take n ws) ++ (bytes_of w ++ (gather bytes_of (drop (suc n) ws) ++ more))) (4 * j)) (sym k) ∙ m

pub words_back : (ws more : List ℕ) → Words ws → (n : ℕ) → n ≤ length ws → words_of (gather bytes_of ws ++ more) n ≡ take n ws
unfolding rows
words_back ws more h zero l = refl
words_back ws more h (suc n) l =
    ap (λ (v : List ℕ). v ++ (word_at (gather bytes_of ws ++ more) (4 * n) ∷ [])) (words_back ws more h n (omega arith))
    ∙ ap (λ (w : ℕ). take n ws ++ (w ∷ [])) (word_of ws more h n (omega arith))
    ∙ sym (take-suc ws n 0 (omega arith))

-- "writing what was read": the bytes of n numbers
pub record Bytes (c : List ℕ) : Type 0 where
  pub each : (i : ℕ) → i < length c → get_or c i 0 < 256

take-four : (c : List ℕ) (n : ℕ) → 4 * n + 4 ≤ length c → take (4 * (n + 1)) c ≡ take (4 * n) c ++ (get_or c (4 * n) 0 ∷ get_or c (4 * n + 1) 0 ∷ get_or c (4 * n + 2) 0 ∷ get_or c (4 * n + 3) 0 ∷ [])
take-four c n h =
    let e : 4 * (n + 1) ≡ suc (suc (suc (suc (4 * n)))) = omega arith in
    let x : suc (4 * n) ≡ 4 * n + 1 = omega arith in
    let y : suc (suc (4 * n)) ≡ 4 * n + 2 = omega arith in
    let z : suc (suc (suc (4 * n))) ≡ 4 * n + 3 = omega arith in
    rw (e, take-suc c (suc (suc (suc (4 * n)))) 0 (omega arith), take-suc c (suc (suc (4 * n))) 0 (omega arith), take-suc c (suc (4 * n)) 0 (omega arith), take-suc c (4 * n) 0 (omega arith), z, y, x)
    (simp append_assoc)

pub blocks-back : (c : List ℕ) → Bytes c → (n : ℕ) → 4 * n ≤ length c → gather bytes_of (words_of c n) ≡ take (4 * n) c
unfolding rows
blocks-back c h zero l = refl
blocks-back c h (suc n) l =
    let w = word_at c (4 * n) in
    let e : suc n ≡ n + 1 = omega arith in
    let b = bytes_back (get_or c (4 * n) 0) (get_or c (4 * n + 1) 0) (get_or c (4 * n + 2) 0) (get_or c (4 * n + 3) 0) (h.each _ (omega arith)) (h.each _ (omega arith)) (h.each _ (omega arith)) (h.each _ (omega arith)) in
    gather_append bytes_of (words_of c n) (w ∷ [])
    ∙ ap (λ (v : List ℕ). v ++ (bytes_of w ++ [])) (blocks-back c h n (omega arith))
    ∙ ap (λ (v : List ℕ). take (4 * n) c ++ v) (append-nil (bytes_of w) ∙ b)
    ∙ sym (ap (λ (k : ℕ). take (4 * k) c) e ∙ take-four c n (omega arith))
