use Prim.Native.Nat.{ℕ, ◌<◌}
use mathlib.Core.Path.{◌≡◌}
use mathlib.Core.Bool.{false}
use Rattle.rules.specs.Refusals.{same_set}
use Rattle.scans.proofs.list.set_before.Given as goal

abbrev pub invariant-loop-g : goal.invariant-loop-g
invariant-loop-g l = (j : ℕ) → j < l.g → same_set l.indices l.f j ≡ false
