use mathlib.Core.Path.{◌≡◌}
use mathlib.Core.Bool.{false}
use Prim.Native.Nat.{ℕ, ◌<◌}
use Rattle.rules.specs.Mesh.{sides}
use Rattle.rules.specs.Refusals.{used_before}
use Rattle.scans.proofs.list.reused.Given as goal

abbrev pub invariant-loop-s : goal.invariant-loop-s
invariant-loop-s l = (j : ℕ) → j < l.s → used_before (sides l.indices) j ≡ false
