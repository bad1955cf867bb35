use mathlib.Core.Path.{ap}
use lib.Ieee.{neg}
use Rattle.weights.proofs.Floats.{one, two, adds, weighs}
use Rattle.tangents.proofs.rim_tangent_4.Goals as goal

pub returns : goal.returns
returns c = let x = c.args in
    adds x.p c.add-4.ensures
    (adds x.d c.add-3.ensures
    (adds x.c c.add-2.ensures
    (adds x.b c.add.ensures (weighs x.a c.mul.ensures (ap neg one)) c.mul-2.ensures two)
    c.mul-3.ensures two)
    c.mul-4.ensures (ap neg one))
    c.mul-5.ensures (ap neg two)
