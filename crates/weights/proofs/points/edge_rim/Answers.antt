use Rattle.weights.proofs.Floats.{half, weighs, adds}
use Rattle.weights.proofs.points.edge_rim.Goals as goal

pub returns : goal.returns
returns c = let a = c.args in
    adds a.b c.add.ensures (weighs a.a c.mul.ensures half) c.mul-2.ensures half
