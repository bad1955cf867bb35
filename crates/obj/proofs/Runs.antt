-- Digits that carry a number on, all at once: what holds before the first of them holds after the last.
use Prim.Native.Nat.{ℕ, ◌+◌, ◌-◌, ◌*◌, ◌/◌, ◌%◌, ◌≤◌, ◌<◌}
use mathlib.Core.Path.{◌≡◌, refl, sym, ap, ◌∙◌}
use mathlib.Core.Bool.{Bool, true, false, ◌&&◌}
use mathlib.Core.List.{List}
use native.Mathlib.Omega.{arith}
use native.Mathlib.Nat.{add-zero}
use lib.Dec.{ltb, leb, eqb}
use borrow.Author.Tests.{ne_eqb}
use lib.IntN.{ℤ}
use Rattle.std.proofs.Common.{Option, None, Some}
use lib.ListN.{length, get_or}
use lib.Seq.{sets}
use Rattle.lists.specs.Lists.{pick}
use Rattle.whole.specs.Whole.{reach}
use Rattle.spots.specs.Spots.{turn, is_stuck, is_digit, grows, ends}
use Rattle.obj.specs.Inside.{held_at, ended_by, coords_held, corners_held, Run, no_digit, one_more, Onward, stays, above, under, corner}
use Rattle.obj.specs.declared.Held.{Held}
use Rattle.spots.specs.declared.Spot.{Spot}
use Rattle.spots.specs.declared.Spot.TheVariants.{Above, Under, Number}
use Rattle.spots.proofs.Turns.{both, Digit, digit-of}
use Rattle.obj.proofs.Spelled.{low}
use Rattle.spots.proofs.Turns.{grown-some}
use Rattle.obj.proofs.Going.{Going, Filling, filling-more}

-- ---- the places

pub run_up : (b : List ℕ) (most n₀ k₀ n k : ℕ) → Run b most n₀ k₀ n k → k₀ ≤ k
run_up b most n₀ k₀ _ _ no_digit = omega arith
run_up b most n₀ k₀ _ _ (one_more n k r h e) = omega (arith, run_up b most n₀ k₀ n k r)

pub run-within : (b : List ℕ) (most n₀ k₀ n k : ℕ) → k₀ ≤ length b → Run b most n₀ k₀ n k → k ≤ length b
run-within b most n₀ k₀ _ _ l no_digit = l
run-within b most n₀ k₀ _ _ l (one_more n k r h e) = omega arith

pub onward-up : (b : List ℕ) (v k₀ : ℕ) (p q : Spot) (k : ℕ) → Onward b v k₀ p q k → k₀ ≤ k
onward-up b v k₀ _ _ _ (stays p) = omega arith
onward-up b v k₀ _ _ _ (above n₀ n k r) = run_up b reach n₀ k₀ n k r
onward-up b v k₀ _ _ _ (under n₀ n k r) = run_up b reach n₀ k₀ n k r
onward-up b v k₀ _ _ _ (corner n₀ n k r) = run_up b v n₀ k₀ n k r

pub onward-within : (b : List ℕ) (v k₀ : ℕ) (p q : Spot) (k : ℕ) → k₀ ≤ length b → Onward b v k₀ p q k → k ≤ length b
onward-within b v k₀ _ _ _ l (stays p) = l
onward-within b v k₀ _ _ _ l (above n₀ n k r) = run-within b reach n₀ k₀ n k l r
onward-within b v k₀ _ _ _ l (under n₀ n k r) = run-within b reach n₀ k₀ n k l r
onward-within b v k₀ _ _ _ l (corner n₀ n k r) = run-within b v n₀ k₀ n k l r

-- ---- as the code goes on

pub run_more : (b : List ℕ) (most n₀ k₀ n k c m : ℕ) → Run b most n₀ k₀ n k → c ≡ get_or b k 0 → k < length b → Some m ≡ pick (grows n c most) (Some (10 * n + (c - 48))) None
    → Run b most n₀ k₀ m (k + 1)
run_more b most n₀ k₀ n k c m r at h e =
    let g = grown-some n c most m e in
    rw (g.1, at) (one_more n k r h (ap (λ (x : ℕ). grows n x most) (sym at) ∙ g.0))

-- ---- one digit: where it leads, and that it ends no number

module _ (n c most : ℕ) (e : grows n c most ≡ true) where
  d : Digit n c most
  d = digit-of n c most e

  no_end : (i : ℕ) → c ≡ ends i → ⊥
  no_end i z = let l = d.low in omega (arith, low (eqb (i % 3) 2))

  ends-none : (p : Spot) → ended_by p c ≡ None
  ends-none p =
      let f = both (is_digit c && ltb 0 n) (leb (10 * n + (c - 48)) most) e in
      ap (λ (t : Bool). pick t None (held_at p)) (both (is_digit c) (ltb 0 n) f.0).0

-- ---- any number of them, once for each kind of number

as_is : (b : List ℕ) (p q : Spot) (i i' j j' k : ℕ) → p ≡ q → i ≡ i' → j ≡ j' → Going b p i j k → Going b q i' j' k
as_is b p q i i' j j' k e x y g =
    record { s = g.s; rest = g.rest; sound = g.sound; long = g.long; spot_is = g.spot_is ∙ e; coords-are = g.coords-are ∙ x; corners-are = g.corners-are ∙ y }

module _ (b : List ℕ) (i j most : ℕ) (so_far : ℕ → Spot) (free : (n : ℕ) → is_stuck (so_far n) ≡ false)
    (leads : (n c : ℕ) → grows n c most ≡ true → turn i j (so_far n) c ≡ so_far (10 * n + (c - 48))) where
  module _ (n c : ℕ) (e : grows n c most ≡ true) where
    same-coords : i + length (coords_held (ended_by (so_far n) c)) ≡ i
    same-coords = ap (λ (h : Option Held). i + length (coords_held h)) (ends-none n c most e (so_far n)) ∙ add-zero i

    same-corners : j + length (corners_held (ended_by (so_far n) c)) ≡ j
    same-corners = ap (λ (h : Option Held). j + length (corners_held h)) (ends-none n c most e (so_far n)) ∙ add-zero j

  module _ (xs₀ : List ℤ) (fs₀ : List ℕ) (xs : List ℤ) (fs : List ℕ) where
    filling-run : (n₀ k₀ n k : ℕ) → Filling b xs₀ fs₀ xs fs (so_far n₀) i j k₀ → Run b most n₀ k₀ n k → Filling b xs₀ fs₀ xs fs (so_far n) i j k
    unfolding as_is
    filling-run n₀ k₀ _ _ f no_digit = f
    filling-run n₀ k₀ _ _ f (one_more n k r h e) =
        let c = get_or b k 0 in
        let z = ends-none n c most e (so_far n) in
        let m =
        filling-more b xs₀ fs₀ xs fs (so_far n) i j k (filling-run n₀ k₀ n k f r) c refl h (ap is_stuck (leads n c e) ∙ free (10 * n + (c - 48))) xs fs
        (sym (ap (λ (l : Option Held). sets xs i (coords_held l)) z)) (sym (ap (λ (l : Option Held). sets fs j (corners_held l)) z)) in
        record { going = as_is b _ _ _ _ _ _ _ (leads n c e) (same-coords n c e) (same-corners n c e) m.going; coords-so = m.coords-so; corners-so = m.corners-so }

-- ---- the three kinds

module _ (i j n c : ℕ) where
  above-leads : grows n c reach ≡ true → turn i j (Above n) c ≡ Above (10 * n + (c - 48))
  unfolding turn
  above-leads e = rw (ne_eqb c (ends i) (no_end n c reach e i), e)

  under-leads : grows n c reach ≡ true → turn i j (Under n) c ≡ Under (10 * n + (c - 48))
  unfolding turn
  under-leads e = rw (ne_eqb c (ends i) (no_end n c reach e i), e)

  number-leads : grows n c (i / 3) ≡ true → turn i j (Number n) c ≡ Number (10 * n + (c - 48))
  unfolding turn
  number-leads e = rw (ne_eqb c (ends j) (no_end n c (i / 3) e j), e)

module _ (b : List ℕ) (i j : ℕ) (xs₀ : List ℤ) (fs₀ : List ℕ) (xs : List ℤ) (fs : List ℕ) where
  pub filling-onward : (p q : Spot) (k₀ k : ℕ) → Filling b xs₀ fs₀ xs fs p i j k₀ → Onward b (i / 3) k₀ p q k → Filling b xs₀ fs₀ xs fs q i j k
  filling-onward _ _ k₀ _ f (stays p) = f
  filling-onward _ _ k₀ _ f (above n₀ n k r) = filling-run b i j reach Above (λ m. refl) (above-leads i j) xs₀ fs₀ xs fs n₀ k₀ n k f r
  filling-onward _ _ k₀ _ f (under n₀ n k r) = filling-run b i j reach Under (λ m. refl) (under-leads i j) xs₀ fs₀ xs fs n₀ k₀ n k f r
  filling-onward _ _ k₀ _ f (corner n₀ n k r) = filling-run b i j (i / 3) Number (λ m. refl) (number-leads i j) xs₀ fs₀ xs fs n₀ k₀ n k f r
