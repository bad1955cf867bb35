use Prim.Native.Nat.{◌<◌}
use mathlib.Core.Path.{◌≡◌, sym, ap, ◌∙◌}
use mathlib.Core.List.{map}
use native.Mathlib.Omega.{arith}
use lib.ListN.{length, take, get_or, length-map}
use lib.Seq.{take_all}
use borrow.Author.Rules.{rules}
use Rattle.lists.proofs.Places.{get_d_map}
use Rattle.vectors.specs.declared.Vec3.{Vec3}
use Rattle.vectors.specs.Vectors.{origin, scaled}
use Rattle.turns.specs.Turns.{cosine, sine}
use Rattle.rules.specs.Tangents.{point, weighted}
use Rattle.weights.specs.Weights.{nowhere}
use Rattle.weights.proofs.Floats.{adds}
use Rattle.tangents.proofs.Sums.{inner-next, inner-is}
use Rattle.tangents.proofs.inner_tangents.Goals as goal

pub loop-i-preserved : goal.loop-i-preserved
loop-i-preserved c = let a = c.args in
    let n = length a.ring.now in
    let i = c.loop-i.i in
    let rs = map (point a.xs.now) a.ring.now in
    let q : c.point-r.result ≡ get_or rs i nowhere = c.point-r.ensures ∙ sym (get_d_map (point a.xs.now) a.ring.now i 0 nowhere (omega arith)) in
    let h : i < length rs = omega (arith, length-map a.ring.now (point a.xs.now)) in (
      adds (get_or rs i nowhere) c.add-s.ensures c.loop-i.invariant.0 (c.mul.ensures ∙ ap (λ (v : Vec3). scaled v c.cosine.result) q) c.cosine.ensures
          ∙ inner-next (λ j. cosine j n) c.default-s.result rs i nowhere h,
      adds (get_or rs i nowhere) c.add-t.ensures c.loop-i.invariant.1 (c.mul-in-loop-i.ensures ∙ ap (λ (v : Vec3). scaled v c.sine.result) q) c.sine.ensures
          ∙ inner-next (λ j. sine j n) c.default-t.result rs i nowhere h,
    )

pub returns : goal.returns
returns c = let a = c.args in
    let n = length a.ring.now in
    let rs = map (point a.xs.now) a.ring.now in
    let e : length rs ≡ n = length-map a.ring.now (point a.xs.now) in
    let all : take c.loop-i.i rs ≡ rs = take_all c.loop-i.i rs (omega arith) in
    inner-is rs n c.loop-i.s c.loop-i.t (sym e)
    (rw all at c.loop-i.invariant.0 ∙ ap (λ (t : Vec3). weighted (λ j. cosine j n) 0 t rs) (let o : c.default-s.result ≡ origin = search rules in o))
    (rw all at c.loop-i.invariant.1 ∙ ap (λ (t : Vec3). weighted (λ j. sine j n) 0 t rs) (let o : c.default-t.result ≡ origin = search rules in o))
