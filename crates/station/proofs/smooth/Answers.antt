use borrow.Author.Rules.{rules}
use Rattle.rules.proofs.Sharp.{no-marks-call}
use Rattle.station.proofs.smooth.Goals as goal

pub returns : goal.returns
returns c = no-marks-call _ _ _ _ _ c.loop_subdivide_whole.ensures
