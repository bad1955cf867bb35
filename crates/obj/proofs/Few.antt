-- What has been read is short: every place fits in 32 bits.
use Prim.Native.Nat.{ℕ, suc, ◌+◌, ◌*◌, ◌%◌, ◌≤◌}
use mathlib.Core.Path.{◌≡◌, refl}
use mathlib.Core.Bool.{Bool, true, false}
use mathlib.Core.List.{List, [], ◌∷◌, ◌++◌}
use native.Mathlib.Omega.{arith}
use lib.Dec.{eqb}
use Rattle.std.proofs.Common.{Option, None, Some}
use lib.ListN.{length, length-append}
use borrow.Author.Tests.{le-leb, lt-ltb}
use Rattle.lists.specs.Lists.{pick}
use Rattle.whole.specs.Whole.{reach}
use Rattle.listing.specs.Text.{numeral, signed_numeral}
use Rattle.listing.proofs.Laws.{numeral-few, signed-few}
use Rattle.spots.specs.Spots.{is_digit}
use Rattle.obj.specs.Reading.{Read}
use Rattle.obj.specs.Inside.{held_at, ended_by, coords_held, corners_held, fits}
use Rattle.obj.specs.declared.Held.{Held}
use Rattle.obj.specs.declared.Held.TheVariants.{Plus, Less, Corner as CornerOf}
use Rattle.spots.specs.declared.Spot.{Spot}
use Rattle.spots.specs.declared.Spot.TheVariants.{Line, AfterV, Coord, Minus, Above, Under, AfterF, Corner, Number, Stuck}
use Rattle.obj.proofs.Spelled.{lead, piece, pieces, begun, spelled, spelled_coords, spelled_corners}
use Rattle.obj.proofs.Sound.{Sound, at-line, at-v, at-coord, at-minus, at_above, at-below, at_f, at-corner, at-number}

lead-few : (w i : ℕ) → length (lead w i) ≤ 2
lead-few w i = go (eqb (i % 3) 0)
  where
    go : (t : Bool) → length (pick t (w ∷ 32 ∷ []) []) ≤ 2
    go true = omega arith
    go false = omega arith

piece-few : (w i : ℕ) (t : List ℕ) → length t ≤ 21 → length (piece w i t) ≤ 24
piece-few w i t h = simp (length-append) (omega (arith, lead-few w i))

pieces-few : {A : Type 0} (w : ℕ) (g : A → List ℕ) (i : ℕ) (xs : List A) → ((x : A) → length (g x) ≤ 21) → length (pieces w g i xs) ≤ 24 * length xs
unfolding pieces
pieces-few {A} w g i [] h = omega arith
pieces-few {A} w g i (x ∷ xs) h =
    rw (length-append (piece w i (g x)) (pieces w g (suc i) xs)) (omega (arith, piece-few w i (g x) (h x), pieces-few w g (suc i) xs h))

begun-few : (i j : ℕ) (p : Spot) → length (begun i j p) ≤ 23
begun-few i j Line = omega arith
begun-few i j AfterV = omega arith
begun-few i j Coord = omega (arith, lead-few 118 i)
begun-few i j Minus = rw (length-append (lead 118 i) (45 ∷ [])) (omega (arith, lead-few 118 i))
begun-few i j (Above n) = rw (length-append (lead 118 i) (numeral n)) (omega (arith, lead-few 118 i, numeral-few n))
begun-few i j (Under n) = rw (length-append (lead 118 i) (45 ∷ numeral n)) (omega (arith, lead-few 118 i, numeral-few n))
begun-few i j AfterF = omega arith
begun-few i j Corner = omega (arith, lead-few 102 j)
begun-few i j (Number n) = rw (length-append (lead 102 j) (numeral n)) (omega (arith, lead-few 102 j, numeral-few n))
begun-few i j Stuck = omega arith

corner-few : (c : ℕ) → length (numeral (suc c)) ≤ 21
corner-few c = omega (arith, numeral-few (suc c))

pub spelled-few : (s : Read) → length (spelled s) ≤ 24 * (length s.coords + length s.corners) + 23
unfolding spelled
spelled-few s =
    let b = begun (length s.coords) (length s.corners) s.spot in
    rw (length-append (spelled_coords s.coords) (spelled_corners s.corners ++ b), length-append (spelled_corners s.corners) b)
    (omega (
      arith,
      pieces-few 118 signed_numeral 0 s.coords signed-few,
      pieces-few 102 (λ c. numeral (suc c)) 0 s.corners corner-few,
      begun-few (length s.coords) (length s.corners) s.spot,
    ))

-- at most 32,768 lines of each kind
pub counts : (s : Read) → Sound s → (length s.coords ≤ 98304) × (length s.corners ≤ 98304)
counts _ (at-line xs fs g m k) = (g.few-coords, g.few-corners)
counts _ (at-v xs g m l) = (g.few-coords, g.few-corners)
counts _ (at-coord xs g l) = (g.few-coords, g.few-corners)
counts _ (at-minus xs g l) = (g.few-coords, g.few-corners)
counts _ (at_above xs n g l b) = (g.few-coords, g.few-corners)
counts _ (at-below xs n g l p b) = (g.few-coords, g.few-corners)
counts _ (at_f xs fs g m k v l) = (g.few-coords, g.few-corners)
counts _ (at-corner xs fs g m v l) = (g.few-coords, g.few-corners)
counts _ (at-number xs fs n g m l p b) = (g.few-coords, g.few-corners)

-- the number that a byte ends is one that the code can hold
held_fits : (s : Read) → Sound s → fits (held_at s.spot) ≡ true
held_fits _ (at-line xs fs g m k) = refl
held_fits _ (at-v xs g m l) = refl
held_fits _ (at-coord xs g l) = refl
held_fits _ (at-minus xs g l) = refl
held_fits _ (at_above xs n g l b) = le-leb n reach b
held_fits _ (at-below xs n g l p b) = le-leb n reach b
held_fits _ (at_f xs fs g m k v l) = refl
held_fits _ (at-corner xs fs g m v l) = refl
held_fits _ (at-number xs fs n g m l p b) = lt-ltb 0 n p

pub ended-fits : (s : Read) (c : ℕ) → Sound s → fits (ended_by s.spot c) ≡ true
ended-fits s c h = go (is_digit c)
  where
    go : (t : Bool) → fits (pick t None (held_at s.spot)) ≡ true
    go true = refl
    go false = held_fits s h

pub one-coord : (h : Option Held) → length (coords_held h) ≤ 1
one-coord None = omega arith
one-coord (Some (Plus n)) = omega arith
one-coord (Some (Less n)) = omega arith
one-coord (Some (CornerOf n)) = omega arith

pub one-corner : (h : Option Held) → length (corners_held h) ≤ 1
one-corner None = omega arith
one-corner (Some (Plus n)) = omega arith
one-corner (Some (Less n)) = omega arith
one-corner (Some (CornerOf n)) = omega arith
