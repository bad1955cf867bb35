use Rattle.vectors.specs.declared.Vec3.{Vec3}
use Rattle.vectors.specs.Vectors.{negated, scaled}
use Prim.Native.Nat.{ℕ, ◌-◌}
use mathlib.Core.Path.{◌≡◌, sym, ap, ap₂, ◌∙◌}
use native.Mathlib.Omega.{arith}
use lib.ListN.{get_or}
use Rattle.lists.specs.Lists.{part}
use Rattle.rules.specs.Tangents.{rim_weight, weighted}
use Rattle.weights.specs.Weights.{nowhere}
use Rattle.weights.proofs.Floats.{adds}
use Rattle.tangents.proofs.Sums.{rim-next, rim-wide}
use Rattle.tangents.proofs.rim_tangent_5.Goals as goal

pub loop-k-preserved : goal.loop-k-preserved
loop-k-preserved c = let a = c.args in
    let l = c.loop-k in
    adds (get_or a.ring l.k nowhere) c.add-t.ensures l.invariant c.mul.ensures c.rim_weight.ensures
    ∙ rim-next (rim_weight (a.n - 1)) c.mul-t.result a.ring l.k nowhere (omega arith) (omega (arith, c.well_formed.1.1.1.0, c.requires.le_n.1))

pub returns : goal.returns
returns c = let a = c.args in
    let l = c.loop-k in
    let e : l.k ≡ a.n - 1 = omega arith in
    let w = rim_weight (a.n - 1) in
    let t = c.mul-t.ensures ∙ ap₂ scaled c.add.ensures c.half_sine.ensures in
    c.neg.ensures
    ∙ ap negated (l.invariant ∙ ap (λ (j : ℕ). weighted w 1 c.mul-t.result (part 1 (j - 1) a.ring)) e ∙ ap (λ (x : Vec3). weighted w 1 x (part 1 (a.n - 1 - 1) a.ring)) t)
    ∙ sym (rim-wide a.p nowhere a.ring a.n (omega arith) (omega arith))
