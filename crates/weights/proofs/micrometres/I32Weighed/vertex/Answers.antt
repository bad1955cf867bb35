use Rattle.weights.specs.declared.micrometres.Share.{Share}
use mathlib.Core.Path.{ap, ◌∙◌}
use Rattle.rules.specs.Position.{whole}
use Rattle.rules.specs.Levels.{three}
use Rattle.weights.specs.declared.Rule.{Rule}
use Rattle.weights.specs.Weights.{staged}
use Rattle.weights.specs.Lent.{weighted_whole}
use Rattle.weights.proofs.Means.{vertex-whole}
use Rattle.weights.proofs.micrometres.I32Weighed.vertex.Goals as goal

pub returns : goal.returns
returns c = let a = c.args in
    let xs = a.xs.now in
    let vs = a.ring.now in
    let rule = ap (λ (r : Rule Share). three whole (weighted_whole r xs a.v.0 vs)) c.new.ensures in
    record { point = c.weighted.ensures.point ∙ rule ∙ vertex-whole (staged a.stage) xs a.v.0 a.rim vs; near = c.weighted.ensures.near }
