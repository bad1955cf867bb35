use Rattle.fontcut.proofs.Along.{Along}
use Rattle.fontcut.proofs.slots.Given as goal

abbrev pub invariant-loop-k : goal.invariant-loop-k
invariant-loop-k l = Along l.answers l.n l.positions l.indices l.initial.text l.text l.at l.p l.q l.k
