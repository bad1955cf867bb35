use mathlib.Core.Path.{◌≡◌}
use mathlib.Core.Bool.{false}
use Prim.Native.Nat.{ℕ, ◌<◌}
use Rattle.lists.specs.Lists.{lowest, found}
use Rattle.rules.specs.Refusals.{same_set}
use Rattle.scans.proofs.list.doubled.Given as goal

abbrev pub invariant-loop-f : goal.invariant-loop-f
invariant-loop-f l = (j : ℕ) → j < l.f → found (lowest (same_set l.indices j) j) ≡ false
