use Prim.Native.Nat.{◌*◌, ◌≤◌}
use mathlib.Core.Path.{◌≡◌}
use lib.ListN.{length}
use lib.Seq.{sets}
use Rattle.lists.specs.Lists.{count, gather, part}
use Rattle.rules.specs.Position.{whole}
use Rattle.creases.specs.Moves.{sharp_old}
use Rattle.creases.proofs.points.old_points.Given as goal

abbrev pub invariant-loop-u : goal.invariant-loop-u
invariant-loop-u l = (l.u ≤ l.nv) × ((length l.work ≡ length l.initial.work) × (l.work ≡ sets l.initial.work l.to (gather (sharp_old whole l.words l.at l.marks l.nf (part l.from (3 * l.nv) l.initial.work) l.nv) (count 0 l.u))))
