use mathlib.Core.Path.{◌≡◌}
use lib.Seq.{sets}
use Rattle.lists.specs.Lists.{count, gather}
use Rattle.rules.specs.Position.{numbers_of}
use Rattle.loopsubdiv.proofs.Limits.{limit_point}
use Rattle.loopsubdiv.proofs.engine.limit.Given as goal

abbrev pub invariant-loop-u : goal.invariant-loop-u
invariant-loop-u g l = l.out ≡ sets l.initial.out 0 (gather (limit_point (numbers_of g.N.Number.on) l.words l.at l.nf l.nv l.xs) (count 0 l.u))
