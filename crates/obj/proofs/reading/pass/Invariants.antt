use Prim.Native.Nat.{◌-◌, ◌≤◌}
use mathlib.Core.Path.{◌≡◌}
use lib.ListN.{length}
use Rattle.obj.proofs.Going.{Filling}
use Rattle.obj.proofs.reading.pass.Given as goal

abbrev pub invariant-loop-at : goal.invariant-loop-at
invariant-loop-at l = (l.at ≤ length l.text) × Filling l.text l.initial.coords l.initial.corners l.coords l.corners l.spot l.i l.j l.at × (length l.coords ≡ length l.initial.coords) × (length l.corners ≡ length l.initial.corners)

abbrev pub decreases-loop-at : goal.decreases-loop-at
decreases-loop-at l = length l.text - l.at
