use mathlib.Core.Path.{◌≡◌, refl, sym, ap, ◌∙◌}
use mathlib.Core.List.{map}
use Prim.Native.Nat.{ℕ}
use native.Mathlib.Omega.{arith}
use native.Mathlib.Numerals.{add-one}
use lib.ListN.{length, take, get_or, length-map}
use lib.Seq.{take_all}
use Rattle.lists.proofs.Places.{get_d_map}
use Rattle.vectors.specs.declared.Vec3.{Vec3}
use Rattle.vectors.specs.Vectors.{scaled}
use Rattle.rules.specs.Position.{own_weight, onto}
use Rattle.weights.specs.Weights.{alike, nowhere}
use Rattle.weights.specs.Lent.{point_at}
use Rattle.weights.proofs.Floats.{adds, weighs, own_is, next, ring-is}
use Rattle.weights.proofs.points.weight_one_ring.Goals as goal

pub loop-u-preserved : goal.loop-u-preserved
loop-u-preserved c = let a = c.args in
    let p = c.mul-at.result in
    let i = c.loop-u.u-index in
    let qs = map (point_at a.xs.now) a.ring.now in
    let q : c.point-q.result ≡ get_or qs i nowhere = c.point-q.ensures ∙ sym (get_d_map (point_at a.xs.now) a.ring.now i 0 nowhere (omega arith)) in
    adds (get_or qs i nowhere) c.add-at.ensures c.loop-u.invariant (c.mul.ensures ∙ ap (λ (v : Vec3). scaled v a.b) q) refl
    ∙ sym (next a.b p qs i nowhere (omega (arith, length-map a.ring.now (point_at a.xs.now))))
    ∙ ap (λ (j : ℕ). alike (onto a.b) p (take j qs)) (sym (add-one i))

pub returns : goal.returns
returns c = let a = c.args in
    let qs = map (point_at a.xs.now) a.ring.now in
    let e : length qs ≡ length a.ring.now = length-map a.ring.now (point_at a.xs.now) in
    let p = point_at a.xs.now a.v.0 in
    c.loop-u.invariant
    ∙ ap (alike (onto a.b) c.mul-at.result) (take_all c.loop-u.u-index qs (omega (arith, e)))
    ∙ ap (λ (q : Vec3). alike (onto a.b) q qs) (weighs _ c.mul-at.ensures (own_is a.b _ (length a.ring.now) c.number.ensures))
    ∙ ap (λ (q : Vec3). alike (onto a.b) (scaled q (own_weight a.b (length a.ring.now))) qs) c.point.ensures
    ∙ ring-is a.b p qs (length a.ring.now) e
