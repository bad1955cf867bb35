use Rattle.weights.proofs.Floats.{two}
use Rattle.tangents.proofs.rim_weight.Goals as goal

pub returns : goal.returns
returns c = rw (two, c.half_cosine.ensures, c.half_sine.ensures)
