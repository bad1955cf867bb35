use lib.Dec.{eqb}
use borrow.Author.Tests.{eq-eqb, ne_eqb}
use Rattle.station.proofs.Turns.{no-first, no_second, to-third}
use Rattle.station.proofs.corners.equal3.Goals as goal

pub returns-then-a-x : goal.returns-then-a-x
returns-then-a-x c = let a = c.args in no-first (eqb a.a a.x) (eqb a.b a.y) (eqb a.c a.z) (ne_eqb a.a a.x c.if-a-x.true)

pub returns-then-b-y : goal.returns-then-b-y
returns-then-b-y c = let a = c.args in no_second (eqb a.a a.x) (eqb a.b a.y) (eqb a.c a.z) (ne_eqb a.b a.y c.if-b-y.true)

pub returns : goal.returns
returns c = let a = c.args in
    to-third (eqb a.a a.x) (eqb a.b a.y) (eqb a.c a.z) (eq-eqb a.a a.x c.if-a-x.false) (eq-eqb a.b a.y c.if-b-y.false)
