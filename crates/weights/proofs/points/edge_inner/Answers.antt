use Rattle.weights.proofs.Floats.{three-eighths, eighth, weighs, adds}
use Rattle.weights.proofs.points.edge_inner.Goals as goal

pub returns : goal.returns
returns k = let x = k.args in
    adds x.d k.add-2.ensures
    (adds x.c k.add.ensures
    (adds x.b k.add-ends.ensures (weighs x.a k.mul.ensures three-eighths) k.mul-2.ensures three-eighths)
    k.mul-3.ensures eighth)
    k.mul-4.ensures eighth
