-- The numbers of the edges.
use mathlib.Core.Path.{◌≡◌, refl, sym, ap}
use mathlib.Core.Logic.{◌↔◌}
use Prim.Native.Nat.{ℕ, ◌+◌, ◌-◌, ◌*◌, ◌<◌, ◌≤◌}
use native.Mathlib.Omega.{arith}
use mathlib.Core.List.{List}
use mathlib.Core.Option.{Option, none, some}
use lib.Dec.{T, leb→le}
use lib.ListN.{length, get_or}
use Rattle.lists.specs.Lists.{count, tally}
use Rattle.rules.specs.Mesh.{links, is_first, first_of, first_met, meeting, firsts}
use Rattle.lists.proofs.Places.{rank-inj}
use Rattle.lists.proofs.Counting.{Kept, kept}
use Rattle.rules.proofs.Sides.{length-links}
use Rattle.rules.proofs.Refine.{Good, Shares, itself, across, mid_of, edges, mid-below, middle-twin, middle-shares, meeting-first}

first-self : (s : ℕ) (o : Option ℕ) → T (is_first s o) → first_of s o ≡ s
first-self s none t = refl
first-self s (some x) t = omega (arith, leb→le s x t)

-- the side at which an edge is first met, by the edge's number
pub record FirstAt (v n : ℕ) (fs : List ℕ) (i s : ℕ) : Type 0 where
  pub below : s < 3 * n
  pub first : T (first_met (links fs) s)
  pub is : mid_of v fs s ≡ v + i

module _ (v n : ℕ) (fs : List ℕ) (g : Good v n fs) where
  -- middle s = middle t exactly where t is s or its link
  pub middle-iff : (s t : ℕ) → s < 3 * n → t < 3 * n → (mid_of v fs s ≡ mid_of v fs t) ↔ Shares fs s t
  middle-iff s t hs ht = (middle-shares v n fs g s t hs ht, back)
    where
      back : Shares fs s t → mid_of v fs s ≡ mid_of v fs t
      back (itself p) = ap (mid_of v fs) (sym p)
      back (across w) = middle-twin v n fs g s t hs w

  pub middle-range : (s : ℕ) → s < 3 * n → (v ≤ mid_of v fs s) × (mid_of v fs s < v + edges v n fs g)
  middle-range s h = (omega arith, mid-below v n fs g s h)

  -- the i-th of the first sides has the number i
  pub first-at : (i : ℕ) → i < edges v n fs g → FirstAt v n fs i (get_or (firsts (links fs)) i 0)
  first-at i h =
      let ls = links fs in
      let k : Kept (first_met ls) 0 (length ls) i (get_or (firsts ls) i 0) = kept (first_met ls) 0 (length ls) i h in
      let s = get_or (firsts ls) i 0 in
      let z : s - 0 ≡ s = omega arith in
      let r = rw z at k.rank in
      let m : meeting ls s ≡ s = first-self s (get_or ls s none) k.passes in
      record { below = omega (arith, k.below, length-links fs, g.size); first = k.passes; is = rw m (ap (λ (x : ℕ). v + x) r) }

  -- and the number of any side leads to the first of its edge
  pub first-of : (s : ℕ) → s < 3 * n → get_or (firsts (links fs)) (mid_of v fs s - v) 0 ≡ meeting (links fs) s
  first-of s h =
      let i = mid_of v fs s - v in
      let b : i < edges v n fs g = omega (arith, mid-below v n fs g s h) in
      let ls = links fs in
      let k : Kept (first_met ls) 0 (length ls) i (get_or (firsts ls) i 0) = kept (first_met ls) 0 (length ls) i b in
      let a = get_or (firsts ls) i 0 in
      let z : a - 0 ≡ a = omega arith in
      let r = rw z at k.rank in
      rank-inj (first_met ls) a (meeting ls s) k.passes (meeting-first v n fs g s h) (omega (arith, r))

  -- ---- for a loop over the sides in order: a first side gets the next number, and a later one has the number of its link

  pub middle-first : (s : ℕ) → T (first_met (links fs) s) → mid_of v fs s ≡ v + tally (first_met (links fs)) (count 0 s)
  middle-first s t = ap (λ (x : ℕ). v + tally (first_met (links fs)) (count 0 x)) (first-self s (get_or (links fs) s none) t)
