-- Sums of raised coordinates, and the means that are rounded from them.
use Prim.Native.Nat.{ℕ, ◌+◌, ◌-◌, ◌*◌, min, max, ◌≤◌, ◌<◌}
use mathlib.Core.Path.{◌≡◌, refl, sym, ap, ◌∙◌}
use mathlib.Core.Bool.{Bool, true, false}
use mathlib.Core.List.{List, [], ◌∷◌, ◌++◌, map, map-append}
use native.Mathlib.Omega.{arith}
use native.Mathlib.Numerals.{add-one}
use native.Mathlib.Nat.{mul-le-mul_left}
use lib.ListN.{length, get_or, take, length-map}
use lib.Seq.{take-suc}
use lib.IntN.{ℤ, ◌+ℤ◌, +ℤ_idl, +ℤ_idr, +ℤ_assoc}
use borrow.Author.Tests.{leb-true, leb-false}
use lib.Dec.{leb, eqb}
use Rattle.lists.proofs.Places.{last-at}
use Rattle.whole.specs.Whole.{reach, nearest, raise, lower}
use Rattle.whole.proofs.Reading.{is-sub}
use Rattle.whole.proofs.Sums.{Raised, raised-add, raised-times, raised-as, rounded-is}
use Rattle.turns.specs.Turns.{most_valence}
use Rattle.rules.specs.Position.{Stage, refining, limit, ring_rule, rim_rule, out_of, sum, whole}
use Rattle.rules.specs.Levels.{ends, coord, three}
use Rattle.rules.proofs.Weights.{ring-adds-up, rim-adds-up}
use Rattle.weights.specs.Weights.{rule_of}
use Rattle.weights.specs.declared.micrometres.Share.{Share}
use Rattle.weights.specs.declared.micrometres.Whole3.{Whole3}
use Rattle.weights.specs.Lent.{by_ring, Stands3, sum_of, own, shared, mean, means, weighed_whole, weighted_whole, Whole, Shares, Readable}

-- what a contract says of a sum
pub raised_of : {s w : ℕ} {z : ℤ} → lower w s ≡ z → s ≤ w * (2 * reach) → Raised s w z
unfolding lower
raised_of {s} {w} e h = record { same = rw (sym e) (is-sub s (w * reach)); most = h }

-- one raised number, once
pub once : {s w : ℕ} {z : ℤ} → Raised s w z → Raised (1 * s) w z
once h = raised-as h (omega arith) refl

-- ---- one more at the end
sum_more : (l : List ℤ) (x : ℤ) → sum (l ++ (x ∷ [])) ≡ sum l +ℤ x
sum_more [] x = +ℤ_idr x ∙ sym (+ℤ_idl x)
sum_more (y ∷ l) x = ap (λ z. y +ℤ z) (sum_more l x) ∙ sym (+ℤ_assoc y (sum l) x)

-- the first and the last of a ring
pub ends-are : (vs : List ℕ) → 0 < length vs → ends vs ≡ get_or vs 0 0 ∷ get_or vs (length vs - 1) 0 ∷ []
ends-are vs h = ap (λ (k : ℕ). get_or vs 0 0 ∷ k ∷ []) (last-at 0 vs h)

-- one more of the first i entries of l, by what f gives of each
pub raised-more : {A : Type 0} (f : A → ℤ) (l : List A) (i : ℕ) (d : A) {s t : ℕ} → i < length l →
    Raised s i (sum (map f (take i l))) → Raised t 1 (f (get_or l i d)) → Raised (s + t) (i + 1) (sum (map f (take (i + 1) l)))
raised-more f l i d h a b =
    rw (add-one i, take-suc l i d h, map-append f (take i l) (get_or l i d ∷ []), sum_more (map f (take i l)) (f (get_or l i d)))
    (rw (add-one i) at (raised-add a b))

-- ---- what `rounded` gives of a sum of weight d
pub mean-is : {s d r : ℕ} {z : ℤ} → 0 < d → Raised s d z → r ≡ raise (nearest (lower d s) d) → lower 1 r ≡ nearest z d
mean-is h k e = rw e (rounded-is h k)

-- p with the weight 1 - k b, and with b the sum s of k others
module _ {b : Share} {k p s : ℕ} (h : Whole b k) (l : p ≤ 2 * reach) (m : s ≤ k * (2 * reach)) where
  -- it is not large
  pub blend-fits : own b k * p + b.each * s ≤ b.all * (2 * reach)
  blend-fits = omega (arith, ap (λ (x : ℕ). x * (2 * reach)) h.together, mul-le-mul_left (own b k) l, mul-le-mul_left b.each m)

  pub blend_is : {r : ℕ} → r ≡ raise (nearest (lower b.all (own b k * p + b.each * s)) b.all) → lower 1 r ≡ mean b k (lower 1 p) (lower k s)
  blend_is e =
      mean-is h.above
      (raised-as (raised-add (raised-times (own b k) (raised_of {z = lower 1 p} refl (omega arith))) (raised-times b.each (raised_of {z = lower k s} refl m))) refl (omega (arith, h.together)))
      e

few : (s : Stage) (b : Bool) (n : ℕ) → eqb n 3 ≡ b → n ≤ most_valence → out_of (ring_rule s n) ≤ 8 * most_valence
few refining true n e h = rw e (omega arith)
few refining false n e h = rw e (omega arith)
few limit true n e h = rw e (omega arith)
few limit false n e h = rw e (omega arith)

few-rim : (s : Stage) → out_of (rim_rule s) ≤ 8 * most_valence
few-rim refining = omega arith
few-rim limit = omega arith

-- the shares of a rule are a whole
pub shares_whole : (s : Stage) (rim : Bool) (n : ℕ) → 0 < n → n ≤ most_valence → Shares (shared (rule_of s rim n)) n
shares_whole s true n h k = let a = rim-adds-up s in record { above = a.above; few = few-rim s; together = a.all }
shares_whole s false n h k = let a = ring-adds-up s n h in record { above = a.above; few = few s (eqb n 3) n refl k; together = a.all }

-- and by the rule it is what the rule gives
pub vertex-whole : (s : Stage) (xs : List ℤ) (v : ℕ) (rim : Bool) (vs : List ℕ) → three whole (weighted_whole (shared (rule_of s rim (length vs))) xs v vs) ≡ three whole (by_ring whole s xs v rim vs)
vertex-whole s xs v true vs = refl
vertex-whole s xs v false vs =
    let e : (c : ℕ) → length (map (coord whole xs c) vs) ≡ length vs = λ c. length-map vs (coord whole xs c) in
    rw (e 0, e 1, e 2)
