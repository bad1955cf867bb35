use borrow.Author.Rules.{rules}
use Rattle.station.proofs.Turns.{same-0, same-1, same-2}
use Rattle.station.proofs.corners.same_face.Goals as goal

pub returns-then-equal3 : goal.returns-then-equal3
returns-then-equal3 c = let a = c.args in same-0 a.ours.now a.theirs.now a.f c.equal3.result c.equal3.ensures c.if-equal3.true

pub returns-then-equal3-2 : goal.returns-then-equal3-2
returns-then-equal3-2 c = let a = c.args in same-1 a.ours.now a.theirs.now a.f c.equal3-2.result c.equal3-2.ensures c.if-equal3-2.true

pub returns : goal.returns
returns c = let a = c.args in
    same-2 a.ours.now a.theirs.now a.f c.equal3.result c.equal3-2.result c.equal3-3.result c.equal3.ensures c.equal3-2.ensures c.equal3-3.ensures c.if-equal3.false c.if-equal3-2.false
