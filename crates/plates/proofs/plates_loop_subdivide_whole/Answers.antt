use borrow.Author.Rules.{rules}
use Rattle.plates.proofs.plates_loop_subdivide_whole.Goals as goal

pub returns : goal.returns
returns c = record { outcome = _; kept = c.loop_subdivide_whole.ensures; five = c.tell.ensures }
