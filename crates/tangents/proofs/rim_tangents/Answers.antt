use mathlib.Core.Path.{ap₂, ◌∙◌}
use native.Mathlib.Omega.{arith}
use Rattle.vectors.specs.declared.Vec3.{Vec3}
use Rattle.weights.specs.Weights.{nowhere}
use Rattle.tangents.specs.declared.Tangents.{Tangents}
use Rattle.tangents.proofs.Sums.{rim-ends}
use Rattle.tangents.proofs.rim_tangents.Goals as goal

pub returns : goal.returns
returns c = let a = c.args in
    ap₂ (λ (x y : Vec3). (let r : Tangents = record { s = x; t = y } in r)) (c.sub-s.ensures ∙ rim-ends a.p nowhere a.ring a.n (omega arith) (omega arith)) c.rim_tangent-t.ensures
