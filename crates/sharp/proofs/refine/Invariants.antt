use Rattle.sharp.proofs.Marching.{Marching}
use Rattle.sharp.proofs.refine.Given as goal

abbrev pub invariant-loop-i : goal.invariant-loop-i
invariant-loop-i l = Marching l.levels l.sharp l.indices l.coords l.half l.third l.initial.words l.initial.work l.i l.nf l.nv l.words l.work
