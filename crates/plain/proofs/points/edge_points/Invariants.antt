use Prim.Native.Nat.{◌+◌, ◌*◌, ◌≤◌}
use mathlib.Core.Path.{◌≡◌}
use lib.ListN.{length}
use lib.Seq.{sets}
use Rattle.lists.specs.Lists.{count, keep, gather, part}
use Rattle.rules.specs.Mesh.{links, first_met}
use Rattle.rules.specs.Position.{whole}
use Rattle.creases.specs.Moves.{sharp_edge_at}
use Rattle.plain.proofs.points.edge_points.Given as goal

abbrev pub invariant-loop-s : goal.invariant-loop-s
invariant-loop-s l = (l.s ≤ 3 * l.nf) × ((length l.work ≡ length l.initial.work) × ((l.k ≡ length (keep (first_met (links (part l.at (3 * l.nf) l.words))) (count 0 l.s))) × (l.work ≡ sets l.initial.work (l.to + 3 * l.nv) (gather (sharp_edge_at whole l.words l.at l.marks l.nf (part l.from (3 * l.nv) l.initial.work)) (keep (first_met (links (part l.at (3 * l.nf) l.words))) (count 0 l.s))))))
