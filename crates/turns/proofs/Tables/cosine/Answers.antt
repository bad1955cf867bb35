use borrow.Author.Tests.{le-leb, lt-leb}
use Rattle.turns.specs.Turns.{cosine}
use Rattle.turns.proofs.Tables.cosine.Goals as goal

pub returns-then-i-n : goal.returns-then-i-n
unfolding cosine
returns-then-i-n c = simp (le-leb _ _ c.if-i-n.true, c.half_cosine.ensures)

pub returns-else-i-n : goal.returns-else-i-n
unfolding cosine
returns-else-i-n c = simp (lt-leb _ _ c.if-i-n.false, c.half_cosine-else-i-n.ensures)
