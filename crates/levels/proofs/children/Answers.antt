use Rattle.levels.proofs.Rows.{children-more}
use native.Mathlib.Omega.{arith}
use Rattle.levels.proofs.children.Goals as goal

pub loop-f-preserved : goal.loop-f-preserved
loop-f-preserved c = let a = c.args in
    let l = c.loop-f in
    children-more a.words.now a.at a.to a.nf l.f (omega arith) c.requires.apart.0 a.mids c.requires.apart.1 l.words c.put_children.new.words l.invariant
    c.put_children.ensures
