use borrow.Author.Rules.{rules}
use Rattle.plates.proofs.plates_write_obj.Goals as goal

pub returns : goal.returns
returns c = record { answer = _; kept = c.write_obj.ensures; three = c.tell_length.ensures.text }
