-- Each byte that is read is spelled by what has been read: so a text that is read whole is the text of its lists.
use Prim.Native.Nat.{ℕ, suc, ◌+◌, ◌-◌, ◌*◌, ◌%◌, ◌≤◌}
use mathlib.Core.Path.{◌≡◌, refl, sym, ap, ◌∙◌}
use mathlib.Core.Bool.{Bool, true, false}
use mathlib.Core.List.{List, [], ◌∷◌, ◌++◌, append_assoc, append-nil}
use native.Mathlib.Omega.{arith}
use native.Mathlib.Nat.{lt_of_le_of_lt, zero-add}
use lib.Dec.{leb, eqb, lit<}
use lib.IntN.{ℤ, pos}
use lib.ListN.{length, length-append}
use borrow.Author.Tests.{lt-ltb, le-leb, lt-leb, eq-eqb, ne_eqb, eqb-false}
use Rattle.lists.specs.Lists.{pick}
use Rattle.whole.specs.Whole.{reach}
use Rattle.listing.specs.Text.{numeral, signed_numeral}
use Rattle.spots.specs.Spots.{turn, ends, after_number}
use Rattle.obj.specs.Reading.{Read, next}
use Rattle.spots.specs.declared.Spot.{Spot}
use Rattle.spots.specs.declared.Spot.TheVariants.{Line, AfterV, Coord, Minus, Above, Under, AfterF, Corner, Number, Stuck}
use Rattle.spots.proofs.Turns.{Digit}
use Rattle.obj.proofs.Decimals.{numeral-more}

-- ---- number i of its kind, with the letter before the first of a line and what ends it
abbrev pub lead : ℕ → ℕ → List ℕ
lead w i = pick (eqb (i % 3) 0) (w ∷ 32 ∷ []) []

abbrev pub piece : ℕ → ℕ → List ℕ → List ℕ
piece w i t = lead w i ++ (t ++ (ends i ∷ []))

unfoldable pub pieces : {A : Type 0} → ℕ → (A → List ℕ) → ℕ → List A → List ℕ
pieces w g i [] = []
pieces w g i (x ∷ xs) = piece w i (g x) ++ pieces w g (suc i) xs

pub pieces_more : {A : Type 0} (w : ℕ) (g : A → List ℕ) (i : ℕ) (xs : List A) (x : A) → pieces w g i (xs ++ (x ∷ [])) ≡ pieces w g i xs ++ piece w (i + length xs) (g x)
unfolding pieces
pieces_more {A} w g i [] x = let e : i ≡ i + 0 = omega arith in append-nil (piece w i (g x)) ∙ ap (λ (k : ℕ). piece w k (g x)) e
pieces_more {A} w g i (y ∷ xs) x =
    let e : suc i + length xs ≡ i + suc (length xs) = omega arith in
    ap (λ (l : List ℕ). piece w i (g y) ++ l) (pieces_more w g (suc i) xs x ∙ ap (λ (k : ℕ). pieces w g (suc i) xs ++ piece w k (g x)) e)
    ∙ sym (append_assoc (piece w i (g y)) (pieces w g (suc i) xs) (piece w (i + suc (length xs)) (g x)))

abbrev pub spelled_coords : List ℤ → List ℕ
spelled_coords xs = pieces 118 signed_numeral 0 xs

abbrev pub spelled_corners : List ℕ → List ℕ
spelled_corners fs = pieces 102 (λ c. numeral (suc c)) 0 fs

-- what has been read of a line's number
abbrev pub begun : ℕ → ℕ → Spot → List ℕ
begun i j Line = []
begun i j AfterV = 118 ∷ []
begun i j Coord = lead 118 i
begun i j Minus = lead 118 i ++ (45 ∷ [])
begun i j (Above n) = lead 118 i ++ numeral n
begun i j (Under n) = lead 118 i ++ (45 ∷ numeral n)
begun i j AfterF = 102 ∷ []
begun i j Corner = lead 102 j
begun i j (Number n) = lead 102 j ++ numeral n
begun i j Stuck = []

unfoldable pub spelled : Read → List ℕ
spelled s = spelled_coords s.coords ++ (spelled_corners s.corners ++ begun (length s.coords) (length s.corners) s.spot)

abbrev pub at : List ℤ → List ℕ → Spot → Read
at xs fs p = record { coords = xs; corners = fs; spot = p }

-- ---- tests
pub low : (t : Bool) → pick t 10 32 ≤ 32
low true = omega arith
low false = omega arith

pub ends_by : (i c : ℕ) → c ≡ ends i → leb 48 c ≡ false
ends_by i c e = go (eqb (i % 3) 2) e
  where
    go : (t : Bool) → c ≡ pick t 10 32 → leb 48 c ≡ false
    go true e = lt-leb 48 c (omega arith)
    go false e = lt-leb 48 c (omega arith)

-- ---- where a byte leads that no test stops
pub above-digit : (xs : List ℤ) (n c : ℕ) → Digit n c reach → next (at xs [] (Above n)) c ≡ at xs [] (Above (10 * n + (c - 48)))
unfolding next turn
above-digit xs n c d =
    let l = d.low in let u = d.high in
    simp (
      ne_eqb c (pick (eqb (length xs % 3) 2) 10 32) (λ z. omega (arith, low (eqb (length xs % 3) 2))),
      le-leb 48 c d.low,
      le-leb c 57 d.high,
      lt-ltb 0 n d.above,
      le-leb (10 * n + (c - 48)) reach d.within,
    )
    (ap (λ (l : List ℤ). at l [] (Above (10 * n + (c - 48)))) (append-nil xs))

pub above-end : (xs : List ℤ) (n : ℕ) → next (at xs [] (Above n)) (ends (length xs)) ≡ at (xs ++ (pos n ∷ [])) [] (after_number (length xs) Coord)
unfolding next turn
above-end xs n = simp (eq-eqb (ends (length xs)) (ends (length xs)) refl, ends_by (length xs) (ends (length xs)) refl)

-- ---- and what has been read then spells that byte too
pub above-digit-spelled : (xs : List ℤ) (n c : ℕ) → n ≤ reach → Digit n c reach → spelled (at xs [] (Above (10 * n + (c - 48)))) ≡ spelled (at xs [] (Above n)) ++ (c ∷ [])
unfolding spelled pieces
above-digit-spelled xs n c b d =
    let l = d.low in let u = d.high in
    let k : 48 + (c - 48) ≡ c = omega arith in
    let m = numeral-more n (c - 48) d.above (lt_of_le_of_lt b (lit< tt)) (omega arith) ∙ ap (λ (x : ℕ). numeral n ++ (x ∷ [])) k in
    simp (m, append_assoc)

pub after_last : (xs : List ℤ) (x : ℤ) (t : Bool) → eqb (length xs % 3) 2 ≡ t → begun (length (xs ++ (x ∷ []))) 0 (pick t Line Coord) ≡ []
after_last xs x true e = refl
after_last xs x false e =
    let f = eqb-false (length xs % 3) 2 e in
    rw (length-append xs (x ∷ []), ne_eqb ((length xs + 1) % 3) 0 (λ z. f (omega arith)))

pub above-end-spelled : (xs : List ℤ) (n : ℕ)
    → spelled (at (xs ++ (pos n ∷ [])) [] (after_number (length xs) Coord)) ≡ spelled (at xs [] (Above n)) ++ (ends (length xs) ∷ [])
unfolding spelled pieces signed_numeral
above-end-spelled xs n =
    rw (after_last xs (pos n) (eqb (length xs % 3) 2) refl, append-nil (spelled_coords (xs ++ (pos n ∷ []))), pieces_more 118 signed_numeral 0 xs (pos n))
    (simp (zero-add, append_assoc))
