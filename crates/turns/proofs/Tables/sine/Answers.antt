use borrow.Author.Tests.{le-leb, lt-leb}
use Rattle.turns.specs.Turns.{sine}
use Rattle.turns.proofs.Tables.sine.Goals as goal

pub returns-then-i-n : goal.returns-then-i-n
unfolding sine
returns-then-i-n c = simp (le-leb _ _ c.if-i-n.true, c.half_sine.ensures)

pub returns-else-i-n : goal.returns-else-i-n
unfolding sine
returns-else-i-n c = simp (lt-leb _ _ c.if-i-n.false, c.half_sine-else-i-n.ensures)
