use borrow.Author.Rules.{rules}
use Rattle.plates.proofs.tell_no.Goals as goal

pub returns-in-Counts : goal.returns-in-Counts
returns-in-Counts c = rw c.in-Counts.is

pub returns-in-Face : goal.returns-in-Face
returns-in-Face c = rw c.in-Face.is

pub returns-in-Far : goal.returns-in-Far
returns-in-Far c = rw c.in-Far.is
