use lib.Ieee.{Float}
use mathlib.Core.Path.{ap, ◌∙◌}
use Rattle.weights.specs.declared.Rule.{Rule}
use Rattle.weights.specs.Weights.{staged}
use Rattle.weights.specs.Lent.{listed, weighted_point}
use Rattle.weights.proofs.Gathered.{vertex-single}
use Rattle.weights.proofs.points.F32Weighed.vertex.Goals as goal

pub returns : goal.returns
returns c = let a = c.args in
    let xs = a.xs.now in
    let vs = a.ring.now in
    record { point = ap listed (c.weighted.ensures ∙ ap (λ (r : Rule Float). weighted_point r xs a.v.0 vs) c.new.ensures) ∙ vertex-single (staged a.stage) xs a.v.0 a.rim vs; near = tt }
