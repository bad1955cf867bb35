use Prim.Native.Nat.{suc, ◌-◌, ◌≤◌}
use mathlib.Core.Path.{◌≡◌}
use mathlib.Core.List.{map}
use lib.ListN.{length, get_or}
use Rattle.rules.specs.Mesh.{links}
use Rattle.outlines.specs.Loops.{around}
use Rattle.outlines.specs.Pieces.{Painted, vertex_of}
use Rattle.outlines.proofs.rim.mark_loop.Given as goal

abbrev pub invariant-loop-w : goal.invariant-loop-w
invariant-loop-w l = (l.n ≤ length (around l.indices (links l.indices) l.first)) × (l.w ≡ get_or (map suc (around l.indices (links l.indices) l.first)) l.n 0) × Painted (vertex_of l.indices l.first) l.n l.k l.marks l.initial.marks

abbrev pub decreases-loop-w : goal.decreases-loop-w
decreases-loop-w l = length (around l.indices (links l.indices) l.first) - l.n
