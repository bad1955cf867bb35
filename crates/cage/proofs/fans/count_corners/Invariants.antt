use Rattle.cage.specs.Fans.{Tallied}
use Rattle.cage.proofs.fans.count_corners.Given as goal

abbrev pub invariant-loop-u : goal.invariant-loop-u
invariant-loop-u l = Tallied l.indices l.u-index l.counts
