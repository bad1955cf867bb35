use borrow.Author.Rules.{rules}
use Rattle.plates.proofs.plates_accept.Goals as goal

pub returns : goal.returns
returns c = record { answered = _; kept = c.accept.ensures; six = c.tell_verdict.ensures }
