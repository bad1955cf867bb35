use Rattle.weights.proofs.Floats.{one, three, eight}
use Rattle.weights.proofs.points.F32Weight.loop_gamma.Goals as goal

pub returns : goal.returns
returns c = cc (one, three, eight)
