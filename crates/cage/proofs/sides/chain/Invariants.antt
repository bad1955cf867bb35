use Rattle.cage.specs.Chains.{Heads, Chained}
use Rattle.cage.proofs.sides.chain.Given as goal

abbrev pub invariant-loop-s : goal.invariant-loop-s
invariant-loop-s l = Heads l.indices l.s l.heads × Chained l.indices l.s l.nexts
