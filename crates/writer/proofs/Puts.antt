-- Stores of numbers as bytes, one after the other.
use Rattle.rules.specs.Sheets.{bytes_of, unsigned, sheet_bytes}
use Prim.Native.Nat.{ℕ, ◌+◌, ◌*◌, ◌/◌, ◌≤◌, ◌<◌}
use mathlib.Core.Path.{◌≡◌, refl, sym, ap, ◌∙◌}
use mathlib.Core.List.{List, [], ◌∷◌, ◌++◌, map, append_assoc}
use native.Mathlib.Omega.{arith}
use native.Mathlib.Numerals.{add-one}
use lib.IntN.{ℤ}
use lib.ListN.{length, get_or, take, length-map, length-append}
use lib.Seq.{sets, take-suc, length-take-le, take_all}
use Rattle.lists.specs.Lists.{gather}
use Rattle.lists.proofs.Places.{length-gather, get_d_map}
use Rattle.lists.proofs.Stores.{sets-gather, sets-next}

-- ---- one number more

pub put-more : (ws l : List ℕ) (at k : ℕ) → k < length ws
    → sets (sets l at (gather bytes_of (take k ws))) (at + 4 * k) (bytes_of (get_or ws k 0)) ≡ sets l at (gather bytes_of (take (k + 1) ws))
put-more ws l at k h =
    let e : length (gather bytes_of (take k ws)) ≡ 4 * k = length-gather bytes_of 4 (λ w. refl) (take k ws) ∙ ap (λ (n : ℕ). 4 * n) (length-take-le k ws (omega arith)) in
    sets-gather bytes_of (take k ws) (get_or ws k 0) l at (at + 4 * k) (ap (λ (n : ℕ). at + n) e)
    ∙ ap (λ (v : List ℕ). sets l at (gather bytes_of v)) (sym (take-suc ws k 0 h) ∙ ap (λ (n : ℕ). take n ws) (sym (add-one k)))

pub put_last : (ws l : List ℕ) (at k : ℕ) → length ws ≤ k → sets l at (gather bytes_of (take k ws)) ≡ sets l at (gather bytes_of ws)
put_last ws l at k h = ap (λ (v : List ℕ). sets l at (gather bytes_of v)) (take_all k ws h)

-- the same of numbers that are no words yet
module _ {A : Type 0} (f : A → ℕ) (d : A) (xs : List A) (l : List ℕ) (at k : ℕ) where
  pub number-more : k < length xs → sets (sets l at (gather bytes_of (take k (map f xs)))) (at + 4 * k) (bytes_of (f (get_or xs k d))) ≡ sets l at (gather bytes_of (take (k + 1) (map f xs)))
  number-more h =
      ap (λ (w : ℕ). sets (sets l at (gather bytes_of (take k (map f xs)))) (at + 4 * k) (bytes_of w)) (sym (get_d_map f xs k d 0 h))
      ∙ put-more (map f xs) l at k (rw (length-map xs f) h)

-- ---- the three stores of a sheet

pub bytes-long : (ws : List ℕ) → length (gather bytes_of ws) ≡ 4 * length ws
bytes-long ws = length-gather bytes_of 4 (λ w. refl) ws

pub coords-long : (xs : List ℤ) → length (gather bytes_of (map unsigned xs)) ≡ 4 * length xs
coords-long xs = bytes-long (map unsigned xs) ∙ ap (λ (n : ℕ). 4 * n) (length-map xs unsigned)

pub sheet-long : (l : ℕ) (fs : List ℕ) (xs : List ℤ) → length (sheet_bytes l fs xs) ≡ 4 * length xs + 4 * length fs + 20
unfolding sheet_bytes
sheet-long l fs xs =
    let v = length xs / 3 in let f = length fs / 3 in
    let t = gather bytes_of (0 ∷ v ∷ 12 * v ∷ f ∷ l ∷ []) in
    length-append (gather bytes_of (map unsigned xs)) (gather bytes_of fs ++ t)
    ∙ omega (arith, coords-long xs, bytes-long fs, length-append (gather bytes_of fs) t)

pub sheet-put : (l : ℕ) (fs : List ℕ) (xs : List ℤ) (old : List ℕ)
    → sets (sets (sets old 0 (gather bytes_of (map unsigned xs))) (4 * length xs) (gather bytes_of fs)) (4 * length xs + 4 * length fs) (gather bytes_of (0 ∷ (length xs / 3) ∷ 12 * (length xs / 3) ∷ (length fs / 3) ∷ l ∷ []))
    ≡ sets old 0 (sheet_bytes l fs xs)
unfolding sheet_bytes
sheet-put l fs xs old =
    let v = length xs / 3 in let f = length fs / 3 in
    let a = gather bytes_of (map unsigned xs) in
    let b = gather bytes_of fs in
    let t = gather bytes_of (0 ∷ v ∷ 12 * v ∷ f ∷ l ∷ []) in
    ap (λ (s : List ℕ). sets s (4 * length xs + 4 * length fs) t) (sets-next a b old 0 (4 * length xs) (omega (arith, coords-long xs)))
    ∙ sets-next (a ++ b) t old 0 (4 * length xs + 4 * length fs) (omega (arith, length-append a b, coords-long xs, bytes-long fs))
    ∙ ap (sets old 0) (append_assoc a b t)
