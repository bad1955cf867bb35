use Rattle.obj.specs.Inside.{stays, above, under, corner}
use Rattle.obj.proofs.reading.onward.Goals as goal

pub returns-in-Above : goal.returns-in-Above
returns-in-Above c = rw c.in-Above.is (above _ _ _ c.digits-d.ensures)

pub returns-in-Under : goal.returns-in-Under
returns-in-Under c = rw c.in-Under.is (under _ _ _ c.digits-d-in-Under.ensures)

pub returns-in-Number : goal.returns-in-Number
returns-in-Number c = rw c.in-Number.is (corner _ _ _ c.digits-d-in-Number.ensures)

pub returns-in_default : goal.returns-in_default
returns-in_default c = stays _
