use Rattle.spots.specs.Spots.{turn}
use Rattle.std.proofs.Common.{of_calls}
use Rattle.spots.proofs.Turns.{chosen}
use Rattle.spots.proofs.turn.Goals as goal

pub returns-in-Line : goal.returns-in-Line
unfolding turn
returns-in-Line c = rw c.in-Line.is c.line.ensures

pub returns-in-AfterV : goal.returns-in-AfterV
unfolding turn
returns-in-AfterV c = rw c.in-AfterV.is c.after_v.ensures

pub returns-in-Coord : goal.returns-in-Coord
unfolding turn
returns-in-Coord c = rw c.in-Coord.is c.coord.ensures

pub returns-in-Minus : goal.returns-in-Minus
unfolding turn
returns-in-Minus c = rw c.in-Minus.is c.minus.ensures

pub returns-in-Above : goal.returns-in-Above
unfolding turn
returns-in-Above c = let e = c.onward.ensures in rw c.in-Above.is (chosen _ _ _ _ _ _ e.ended (λ a b. let h = e.goes_on a b in search of_calls) e.stuck)

pub returns-in-Under : goal.returns-in-Under
unfolding turn
returns-in-Under c = let e = c.onward-in-Under.ensures in rw c.in-Under.is (chosen _ _ _ _ _ _ e.ended (λ a b. let h = e.goes_on a b in search of_calls) e.stuck)

pub returns-in-AfterF : goal.returns-in-AfterF
unfolding turn
returns-in-AfterF c = rw c.in-AfterF.is c.after_f.ensures

pub returns-in-Corner : goal.returns-in-Corner
unfolding turn
returns-in-Corner c = rw c.in-Corner.is c.corner.ensures

pub returns-in-Number : goal.returns-in-Number
unfolding turn
returns-in-Number c = let e = c.onward-in-Number.ensures in rw c.in-Number.is (chosen _ _ _ _ _ _ e.ended (λ a b. let h = e.goes_on a b in search of_calls) e.stuck)

pub returns-in-Stuck : goal.returns-in-Stuck
unfolding turn
returns-in-Stuck c = rw c.in-Stuck.is
