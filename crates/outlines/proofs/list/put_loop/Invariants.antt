use Prim.Native.Nat.{suc, ◌-◌, ◌≤◌}
use mathlib.Core.Path.{◌≡◌}
use mathlib.Core.List.{map}
use lib.ListN.{length, get_or, take}
use lib.Seq.{sets}
use Rattle.lists.specs.Lists.{gather}
use Rattle.rules.specs.Mesh.{links}
use Rattle.outlines.specs.Loops.{around}
use Rattle.outlines.specs.Pieces.{stored}
use Rattle.outlines.proofs.list.put_loop.Given as goal

abbrev pub invariant-loop-w : goal.invariant-loop-w
invariant-loop-w l = (l.n ≤ length (around l.indices (links l.indices) l.first)) × (l.w ≡ get_or (map suc (around l.indices (links l.indices) l.first)) l.n 0) × (length l.list ≡ length l.initial.list) × (l.list ≡ sets l.initial.list l.at (gather (stored l.levels l.out) (take l.n (around l.indices (links l.indices) l.first))))

abbrev pub decreases-loop-w : goal.decreases-loop-w
decreases-loop-w l = length (around l.indices (links l.indices) l.first) - l.n
