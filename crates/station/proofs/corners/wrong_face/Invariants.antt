use Prim.Native.Nat.{ℕ, ◌-◌, ◌≤◌, ◌<◌}
use mathlib.Core.Path.{◌≡◌, sym, ap, ◌∙◌}
use mathlib.Core.Bool.{Bool, true, not}
use native.Mathlib.Omega.{arith}
use lib.Dec.{T}
use borrow.Author.Rules.{rules}
use borrow.Author.Count.{below_more}
use borrow.Author.Tests.{not-false}
use Rattle.lists.proofs.Places.{lowest-is, lowest-all}
use Rattle.station.specs.Acceptance.{same_face}
use Rattle.station.specs.Far.{wrong_face}
use Rattle.station.proofs.corners.wrong_face.Given as goal

abbrev pub invariant-loop-f : goal.invariant-loop-f
invariant-loop-f l = (l.f ≤ l.nf) × ((j : ℕ) → j < l.f → same_face l.ours l.theirs j ≡ true)
