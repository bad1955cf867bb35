use borrow.Author.Tests.{lt-ltb, le-ltb}
use Rattle.outlines.proofs.pieces.half_at.Goals as goal

pub returns-then-j-h : goal.returns-then-j-h
returns-then-j-h c = let a = c.args in rw (lt-ltb a.j a.h c.if-j-h.true) c.half1.ensures

pub returns-else-j-h : goal.returns-else-j-h
returns-else-j-h c = let a = c.args in rw (le-ltb a.j a.h c.if-j-h.false) c.half2.ensures
