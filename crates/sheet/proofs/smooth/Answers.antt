use Rattle.rules.proofs.Sharp.{no-marks-call}
use Rattle.sheet.proofs.smooth.Goals as goal

pub returns : goal.returns
returns g c = no-marks-call _ _ _ _ _ c.loop_subdivide.ensures
