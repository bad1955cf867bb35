use borrow.Author.Rules.{rules}
use Rattle.plates.proofs.plates_read_obj.Goals as goal

pub returns : goal.returns
returns c = record { answer = _; kept = c.read_obj.ensures; four = c.tell_lists.ensures }
