use mathlib.Core.Path.{◌≡◌}
use lib.Seq.{sets}
use Rattle.lists.specs.Lists.{count, gather}
use Rattle.tangents.specs.Normals.{normal_in}
use Rattle.tangents.proofs.normals.Given as goal

abbrev pub invariant-loop-v : goal.invariant-loop-v
invariant-loop-v l = l.out ≡ sets l.initial.out 0 (gather (normal_in l.words l.at l.nf l.nv l.xs) (count 0 l.v))
