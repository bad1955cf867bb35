-- How long a text can be: 38 bytes to a `v` line, 20 to an `f` line; and which lists have one.
use Prim.Native.Nat.{ℕ, zero, suc, ◌+◌, ◌*◌, ◌/◌, ◌%◌, ◌^◌, ◌≤◌, ◌<◌}
use mathlib.Core.Path.{◌≡◌, refl, sym, ◌∙◌}
use mathlib.Core.Bool.{Bool, true, false, not}
use mathlib.Core.List.{List, [], ◌∷◌, ◌++◌, map}
use native.Mathlib.Omega.{arith}
use native.Mathlib.Nat.{pow-suc, pow-zero, lt_of_le_of_lt}
use lib.Dec.{T, ltb, leb, lit<}
use lib.IntN.{ℤ, pos, negsuc, nat_abs}
use lib.ListN.{length, get_or, length-append}
use borrow.Author.Tests.{lt-ltb, le-leb, lt-leb, leb-true}
use Rattle.lists.specs.Lists.{pick, rows}
use Rattle.lists.proofs.Places.{find_none}
use Rattle.whole.specs.Whole.{reach, in_range}
use Rattle.listing.specs.Text.{digit, decimal, numeral, signed_numeral, line, vertex_line, face_line}
use Rattle.obj.specs.Form.{obj_text, has_text}
use Rattle.obj.proofs.Round.{Fits, fits}
use Rattle.obj.proofs.Lines.{none-there, by-corners, corner-is, has_of}

-- ---- a numeral

decimal-short : (t n k : ℕ) → n < 10 ^ suc k → length (decimal t n) ≤ suc k
unfolding decimal
decimal-short zero n k h = omega arith
decimal-short (suc t) n zero h = let l : n < 10 = omega (arith, pow-suc 10 0, pow-zero 10) in rw (lt-ltb n 10 l) (omega arith)
decimal-short (suc t) n (suc k) h = go (ltb n 10) (decimal-short t (n / 10) k (omega (arith, pow-suc 10 (suc k))))
  where
    go : (s : Bool) → length (decimal t (n / 10)) ≤ suc k → length (pick s (digit n) (decimal t (n / 10) ++ digit n)) ≤ suc (suc k)
    go true h = omega arith
    go false h = rw (length-append (decimal t (n / 10)) (digit n)) (omega arith)

coord-short : (n : ℕ) → n ≤ reach → length (numeral n) ≤ 10
unfolding numeral
coord-short n h = decimal-short 19 n 9 (lt_of_le_of_lt h (lit< tt))

corner-short : (n : ℕ) → n ≤ 32768 → length (numeral n) ≤ 5
unfolding numeral
corner-short n h = decimal-short 19 n 4 (lt_of_le_of_lt h (lit< tt))

signed-short : (x : ℤ) → nat_abs x ≤ reach → length (signed_numeral x) ≤ 11
unfolding signed_numeral
signed-short (pos n) h = omega (arith, coord-short n h)
signed-short (negsuc n) h = omega (arith, coord-short (suc n) h)

-- ---- a line, and lines

line-long : (w : ℕ) (x y z : List ℕ) → length (line (w ∷ []) x y z) ≡ length x + length y + length z + 5
line-long w x y z = simp length-append (omega arith)

rows_short : (g : ℕ → List ℕ) (m n : ℕ) → ((k : ℕ) → k < n → length (g k) ≤ m) → length (rows g n) ≤ m * n
unfolding rows
rows_short g m zero h = omega arith
rows_short g m (suc n) h = rw (length-append (rows g n) (g n)) (omega (arith, rows_short g m n (λ k l. h k (omega arith)), h n (omega arith)))

module _ (xs : List ℤ) (fs : List ℕ) (e : has_text xs fs ≡ true) where
  f : Fits xs fs
  f = fits xs fs e

  in-range : (i : ℕ) → i < length xs → nat_abs (get_or xs i (pos 0)) ≤ reach
  in-range i l = leb-true _ reach (twice (in_range (get_or xs i (pos 0))) (find_none (λ x. not (in_range x)) (pos 0) xs f.range i l))
    where
      twice : (b : Bool) → T (not (not b)) → b ≡ true
      twice true t = refl
      twice false t = absurd t

  vertex-short : (v : ℕ) → v < length xs / 3 → length (vertex_line xs v) ≤ 38
  unfolding vertex_line
  vertex-short v l =
      let x = get_or xs (3 * v) (pos 0) in let y = get_or xs (3 * v + 1) (pos 0) in let z = get_or xs (3 * v + 2) (pos 0) in
      rw (line-long 118 (signed_numeral x) (signed_numeral y) (signed_numeral z))
      (omega (arith, signed-short x (in-range (3 * v) (omega arith)), signed-short y (in-range (3 * v + 1) (omega arith)), signed-short z (in-range (3 * v + 2) (omega arith))))

  counted : (i : ℕ) → i < length fs → get_or (map suc fs) i 0 ≤ 32768
  counted i l = let h = (has_of xs fs e).small.each i l in omega (arith, corner-is fs i l)

  face-short : (k : ℕ) → k < length fs / 3 → length (face_line (map suc fs) k) ≤ 20
  unfolding face_line
  face-short k l =
      let a = get_or (map suc fs) (3 * k) 0 in let b = get_or (map suc fs) (3 * k + 1) 0 in let c = get_or (map suc fs) (3 * k + 2) 0 in
      rw (line-long 102 (numeral a) (numeral b) (numeral c))
      (omega (arith, corner-short a (counted (3 * k) (omega arith)), corner-short b (counted (3 * k + 1) (omega arith)), corner-short c (counted (3 * k + 2) (omega arith))))

  -- no text is longer
  pub text-short : length (obj_text xs fs) ≤ 1900544
  unfolding obj_text
  text-short =
      let v = f.few in let w = f.few-faces in
      rw (length-append (rows (vertex_line xs) (length xs / 3)) (rows (face_line (map suc fs)) (length fs / 3)))
      (omega (arith, rows_short (vertex_line xs) 38 (length xs / 3) vertex-short, rows_short (face_line (map suc fs)) 20 (length fs / 3) face-short))

-- ---- lists that have a text

pub has-text : (xs : List ℤ) (fs : List ℕ) → length xs % 3 ≡ 0 → length fs % 3 ≡ 0 → length xs / 3 ≤ 32768 → length fs / 3 ≤ 32768
    → ((i : ℕ) → i < length xs → nat_abs (get_or xs i (pos 0)) ≤ reach) → ((i : ℕ) → i < length fs → get_or fs i 0 < length xs / 3) → has_text xs fs ≡ true
has-text xs fs a b c d r q =
    sym (by-corners xs fs a b c d (sym (none-there (λ x. not (in_range x)) (pos 0) xs (λ j l. rw (le-leb (nat_abs (get_or xs j (pos 0))) reach (r j l))))))
    ∙ sym (none-there (λ v. leb (length xs / 3) v) 0 fs (λ j l. lt-leb (length xs / 3) (get_or fs j 0) (q j l)))
