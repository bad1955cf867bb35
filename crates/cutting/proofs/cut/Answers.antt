use Rattle.cutting.specs.Output.{text_for}
use Rattle.cutting.proofs.Laws.{over, not-over}
use Rattle.cutting.proofs.cut.Goals as goal

pub returns-then-bytes-gt32768 : goal.returns-then-bytes-gt32768
unfolding text_for
returns-then-bytes-gt32768 g c = record { put = rw (over c.args.bytes.now c.if-bytes-gt32768.true) c.refused_by.ensures.put; upper_bound = c.refused_by.ensures.upper_bound }

pub returns : goal.returns
returns g c = record { put = rw (not-over c.args.bytes.now c.if-bytes-gt32768.false) c.plate.ensures.put; upper_bound = c.plate.ensures.upper_bound }
