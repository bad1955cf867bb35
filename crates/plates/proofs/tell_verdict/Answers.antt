use borrow.Author.Rules.{rules}
use Rattle.plates.proofs.tell_verdict.Goals as goal

pub returns-in-No : goal.returns-in-No
returns-in-No c = rw c.in-No.is c.tell_no.ensures

pub returns-in-Refused : goal.returns-in-Refused
returns-in-Refused c = rw c.in-Refused.is
