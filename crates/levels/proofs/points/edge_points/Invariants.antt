use Prim.Native.Nat.{◌+◌, ◌*◌}
use mathlib.Core.Path.{◌≡◌}
use lib.ListN.{length}
use lib.Seq.{sets}
use Rattle.lists.specs.Lists.{count, keep, gather, part}
use Rattle.rules.specs.Mesh.{links, first_met}
use Rattle.rules.specs.Position.{numbers_of}
use Rattle.levels.specs.Moves.{edge_point}
use Rattle.levels.proofs.points.edge_points.Given as goal

abbrev pub invariant-loop-s : goal.invariant-loop-s
invariant-loop-s g l = (l.k ≡ length (keep (first_met (links (part l.at (3 * l.nf) l.words))) (count 0 l.s))) × (l.work ≡ sets l.initial.work (l.to + 3 * l.nv) (gather (edge_point (numbers_of g.N.Number.on) l.words l.at l.nf (part l.from (3 * l.nv) l.initial.work)) (keep (first_met (links (part l.at (3 * l.nf) l.words))) (count 0 l.s))))
