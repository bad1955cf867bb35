use native.Mathlib.Omega.{arith}
use Rattle.marks.proofs.Marks.{marks-more}
use Rattle.marks.proofs.refine_marks.Goals as goal

pub loop-f-preserved : goal.loop-f-preserved
loop-f-preserved c = let a = c.args in
    let l = c.loop-f in
    let r = c.requires.apart in
    marks-more a.words.now a.from a.to a.nf l.f (omega arith) r l.words c.put_marks.new.words l.invariant c.put_marks.ensures
