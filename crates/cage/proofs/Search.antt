-- The lowest place so far, while the search goes on.
use mathlib.Core.Path.{◌≡◌, refl, ap, ◌∙◌}
use Prim.Native.Nat.{ℕ, ◌+◌, ◌<◌}
use native.Mathlib.Omega.{arith}
use mathlib.Core.Bool.{Bool, true, false, not}
use mathlib.Core.Option.{Option, none, some}
use lib.Dec.{T}
use borrow.Author.Count.{below_more}
use lib.ListN.{get_or}
use Rattle.lists.specs.Lists.{lowest, count}
use Rattle.lists.proofs.Places.{length-count, get_or-count, find-some, lowest-none, lowest-is, lowest-all}
use Rattle.limits.proofs.Search.{passed, failed}
use Rattle.std.specs.Prelude.{Some, None}
use Rattle.std.specs.Option.{option_or}
use Rattle.std.specs.Bool.{then_some}
use Rattle.cage.specs.Fans.{place_of}

pub lowest-found : (p : ℕ → Bool) (n i : ℕ) → lowest p n ≡ some i → (i < n) × T (p i) × ((j : ℕ) → j < i → T (not (p j)))
lowest-found p n i e =
    let f = find-some p 0 (count 0 n) i e in
    let h : i < n = rw (length-count 0 n) at f.below in
    let at : (j : ℕ) → j < n → get_or (count 0 n) j 0 ≡ j = λ j k. get_or-count 0 n j 0 k ∙ omega arith in
    (h, rw (at i h) at f.passes, λ j k. rw (at j (omega arith)) at (f.before j k))

-- what was seen first below u, and at u
pub first_more : (p : ℕ → Bool) (u : ℕ) → option_or (place_of (lowest p u)) (then_some (p u) u) ≡ place_of (lowest p (u + 1))
first_more p u = go (lowest p u) refl (p u) refl
  where
    go : (o : Option ℕ) → lowest p u ≡ o → (b : Bool) → p u ≡ b → option_or (place_of o) (then_some b u) ≡ place_of (lowest p (u + 1))
    go none e true q = rw (lowest-is p (u + 1) u (omega arith) (passed _ q) (lowest-none p u e))
    go none e false q = rw (lowest-all p (u + 1) (below_more (λ j. T (not (p j))) u (lowest-none p u e) (failed _ q)))
    go (some i) e b q =
        let f = lowest-found p u i e in
        let l = f.0 in
        rw (lowest-is p (u + 1) i (omega arith) f.1 f.2)

-- a place is told as it was found
pub placed : (o : Option ℕ) (i : ℕ) → place_of o ≡ Some i → o ≡ some i
placed none i e = absurd (cc)
placed (some x) i e = let z : x ≡ i = cc in ap some z

pub unplaced : (o : Option ℕ) → place_of o ≡ None → o ≡ none
unplaced none e = refl
unplaced (some x) e = absurd (cc)
