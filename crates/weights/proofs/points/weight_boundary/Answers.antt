use mathlib.Core.Path.{refl, sym, ap, ◌∙◌}
use Prim.Native.Nat.{◌-◌}
use lib.ListN.{length, get_or}
use Rattle.vectors.specs.declared.Vec3.{Vec3}
use Rattle.vectors.specs.Vectors.{scaled}
use Rattle.rules.specs.Position.{own_weight}
use Rattle.weights.specs.Lent.{point_at, weighed_point}
use Rattle.weights.proofs.Floats.{two, adds, weighs, own_is}
use Rattle.weights.proofs.Means.{ends-are}
use Rattle.weights.proofs.points.weight_boundary.Goals as goal

pub returns : goal.returns
returns c = let d = c.before.before.before.before in
    let l = d.before in
    let f = l.before.before in
    let o = f.before.before in
    let a = o.args in
    let xs = a.xs.now in
    let vs = a.ring.now in
    let own = ap (λ (q : Vec3). scaled q (own_weight a.b 2)) o.point.ensures in
    let first = ap (λ (q : Vec3). scaled q a.b) f.point-first.ensures in
    let last = ap (λ (q : Vec3). scaled q a.b) l.point-last.ensures in
    adds (point_at xs (get_or vs (length vs - 1) 0)) c.add-2.ensures
    (adds (point_at xs (get_or vs 0 0)) c.add.ensures (weighs _ o.mul-own.ensures (own_is a.b _ 2 two) ∙ own) (d.mul.ensures ∙ first) refl)
    (c.mul-2.ensures ∙ last) refl
    ∙ sym (ap (weighed_point a.b xs a.v.0) (ends-are vs o.requires.1.0))
