use Prim.Native.Nat.{ℕ, ◌<◌}
use mathlib.Core.Path.{◌≡◌}
use mathlib.Core.Bool.{false}
use Rattle.rules.specs.Mesh.{side}
use Rattle.rules.specs.Refusals.{same}
use Rattle.scans.proofs.list.used_before.Given as goal

abbrev pub invariant-loop-t : goal.invariant-loop-t
invariant-loop-t l = (j : ℕ) → j < l.t → same (record { from = l.a; to = l.b }) (side l.indices j) ≡ false
