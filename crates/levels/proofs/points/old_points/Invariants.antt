use Prim.Native.Nat.{◌*◌}
use mathlib.Core.Path.{◌≡◌}
use lib.Seq.{sets}
use Rattle.lists.specs.Lists.{count, gather, part}
use Rattle.rules.specs.Position.{numbers_of}
use Rattle.levels.specs.Moves.{old_point}
use Rattle.levels.proofs.points.old_points.Given as goal

abbrev pub invariant-loop-u : goal.invariant-loop-u
invariant-loop-u g l = l.work ≡ sets l.initial.work l.to (gather (old_point (numbers_of g.N.Number.on) l.words l.at l.nf (part l.from (3 * l.nv) l.initial.work) l.nv) (count 0 l.u))
