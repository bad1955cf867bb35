use borrow.Author.Rules.{rules}
use Rattle.plates.proofs.plates_rim_loops.Goals as goal

pub returns : goal.returns
returns c = record { answer = _; kept = c.rim_loops.ensures; four = c.tell_loops.ensures }
