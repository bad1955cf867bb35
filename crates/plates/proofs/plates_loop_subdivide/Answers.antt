use borrow.Author.Rules.{rules}
use Rattle.plates.proofs.plates_loop_subdivide.Goals as goal

pub returns : goal.returns
returns c = record { outcome = _; kept = c.loop_subdivide.ensures; five = c.tell.ensures }
