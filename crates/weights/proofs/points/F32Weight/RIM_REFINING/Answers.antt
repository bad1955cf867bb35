use Rattle.weights.proofs.Floats.{eighth}
use Rattle.weights.proofs.points.F32Weight.RIM_REFINING.Goals as goal

pub returns : goal.returns
returns c = eighth
