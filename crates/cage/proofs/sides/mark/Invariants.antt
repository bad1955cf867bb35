use Prim.Native.Nat.{◌-◌, ◌≤◌, ◌<◌}
use mathlib.Core.Path.{◌≡◌}
use lib.ListN.{length}
use Rattle.rules.specs.Mesh.{corner}
use Rattle.cage.specs.Chains.{Marked, Met, Repeat, Least}
use Rattle.cage.proofs.sides.mark.Given as goal

abbrev pub invariant-loop-h : goal.invariant-loop-h
invariant-loop-h l = (l.h ≤ length l.indices) × (0 < l.h → corner l.indices (l.h - 1) ≡ l.u) × (length l.marks ≡ length l.initial.marks) × Marked l.indices l.marks × Met l.indices l.u l.h l.marks × (l.seen ≤ l.low) × Repeat l.indices l.seen × Least l.indices l.u l.h l.seen

abbrev pub decreases-loop-h : goal.decreases-loop-h
decreases-loop-h l = l.h
