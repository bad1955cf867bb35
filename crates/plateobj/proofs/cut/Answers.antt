use Rattle.plateobj.specs.Output.{text_for}
use Rattle.plateobj.proofs.Laws.{over, not-over}
use borrow.Author.Rules.{rules}
use Rattle.plateobj.proofs.cut.Goals as goal

pub returns-then-bytes-gt98324 : goal.returns-then-bytes-gt98324
unfolding text_for
returns-then-bytes-gt98324 c = record { put = rw (over c.args.bytes.now c.if-bytes-gt98324.true) c.refused_by.ensures.put; upper_bound = c.refused_by.ensures.upper_bound }

pub returns : goal.returns
returns c = record { put = rw (not-over c.args.bytes.now c.if-bytes-gt98324.false) c.plate.ensures.put; upper_bound = c.plate.ensures.upper_bound }
