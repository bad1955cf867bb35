use native.Mathlib.Omega.{arith}
use Rattle.marks.proofs.Marking.{marking_step}
use Rattle.marks.proofs.mark_words.Goals as goal

pub loop-side-preserved : goal.loop-side-preserved
loop-side-preserved c = let l = c.loop-side in
    marking_step c.args.words.now c.args.links c.args.marks c.args.nf c.args.sharp.now c.requires l.side-index (omega arith) l.words l.invariant c.set_mark.new.words c.set_mark-in-loop-side.new.words c.set_mark.ensures c.set_mark-in-loop-side.ensures
