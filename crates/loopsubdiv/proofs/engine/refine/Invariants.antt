use Rattle.rules.specs.Position.{numbers_of}
use Rattle.loopsubdiv.proofs.Going.{Going}
use Rattle.loopsubdiv.proofs.engine.refine.Given as goal

abbrev pub invariant-loop-i : goal.invariant-loop-i
invariant-loop-i g l = Going (numbers_of g.N.Number.on) l.levels l.indices l.coords l.half l.third l.initial.words l.initial.work l.i l.nf l.nv l.words l.work
