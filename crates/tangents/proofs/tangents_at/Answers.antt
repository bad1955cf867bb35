use mathlib.Core.Path.{ap, ap₂, ◌∙◌}
use mathlib.Core.List.{List}
use lib.ListN.{length, take}
use Rattle.vectors.specs.declared.Vec3.{Vec3}
use Rattle.rules.specs.Tangents.{rim_tangents}
use Rattle.tangents.specs.Normals.{both}
use Rattle.tangents.proofs.Rings.{points-are}
use Rattle.tangents.proofs.tangents_at.Goals as goal

pub returns-then-rim : goal.returns-then-rim
returns-then-rim c = let vs = c.args.ring.now in
    rw c.if-rim.true
    (c.rim_tangents.ensures
    ∙ ap₂ (λ (p : Vec3) (l : List Vec3). both (rim_tangents p l)) c.point.ensures
    (ap (take (length vs)) c.ring_points.ensures ∙ points-are c.args.xs.now vs c.requires.there.1.0.few))
