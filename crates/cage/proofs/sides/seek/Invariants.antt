use Prim.Native.Nat.{◌-◌, ◌≤◌, ◌<◌}
use mathlib.Core.Path.{◌≡◌}
use Rattle.rules.specs.Mesh.{corner}
use Rattle.cage.specs.Chains.{last_below, runs}
use Rattle.cage.proofs.sides.seek.Given as goal

abbrev pub invariant-loop-h : goal.invariant-loop-h
invariant-loop-h l = (l.h ≤ l.head) × (last_below (runs l.indices (corner l.indices (l.head - 1)) l.b) l.head ≡ last_below (runs l.indices (corner l.indices (l.head - 1)) l.b) l.h) × (0 < l.h → corner l.indices (l.h - 1) ≡ corner l.indices (l.head - 1))

abbrev pub decreases-loop-h : goal.decreases-loop-h
decreases-loop-h l = l.h
