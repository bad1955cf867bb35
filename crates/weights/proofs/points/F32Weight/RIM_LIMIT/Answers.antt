use Rattle.weights.proofs.Floats.{fifth}
use Rattle.weights.proofs.points.F32Weight.RIM_LIMIT.Goals as goal

pub returns : goal.returns
returns c = fifth
