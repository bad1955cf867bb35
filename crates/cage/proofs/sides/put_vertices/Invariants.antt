use Rattle.cage.specs.Chains.{Marked, Repeat}
use Rattle.cage.proofs.Marking.{Joined, Cleared}
use Rattle.cage.proofs.sides.put_vertices.Given as goal

abbrev pub invariant-loop-s : goal.invariant-loop-s
invariant-loop-s l = Marked l.indices l.marks × Repeat l.indices l.low × Cleared l.indices l.s l.low × Joined l.indices l.at l.s l.initial.words l.words
