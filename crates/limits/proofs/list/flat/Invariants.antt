use Prim.Native.Nat.{ℕ, ◌<◌}
use mathlib.Core.Path.{◌≡◌}
use mathlib.Core.Bool.{false}
use Rattle.rules.specs.Refusals.{equal_corners}
use Rattle.limits.proofs.list.flat.Given as goal

abbrev pub invariant-loop-f : goal.invariant-loop-f
invariant-loop-f l = (j : ℕ) → j < l.f → equal_corners l.indices j ≡ false
