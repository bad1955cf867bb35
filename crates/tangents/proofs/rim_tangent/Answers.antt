use Prim.Native.Nat.{ℕ}
use mathlib.Core.Path.{◌≡◌, sym, ap, ap₂, ◌∙◌}
use native.Mathlib.Omega.{arith}
use lib.ListN.{take}
use Rattle.vectors.specs.Vectors.{minus}
use Rattle.rules.specs.Tangents.{rim_tangent}
use Rattle.weights.specs.Weights.{nowhere}
use Rattle.weights.proofs.Floats.{two, weighs}
use Rattle.tangents.proofs.Sums.{rim-two}
use Rattle.tangents.proofs.rim_tangent.Goals as goal

pub returns-then-n-eq2 : goal.returns-then-n-eq2
returns-then-n-eq2 c = let a = c.args in
    let e : a.n ≡ 2 = omega arith in
    c.sub.ensures ∙ ap₂ minus c.add.ensures (weighs a.p c.mul.ensures two) ∙ sym (rim-two a.p nowhere a.ring (omega arith))
    ∙ ap (λ (k : ℕ). rim_tangent a.p (take k a.ring)) (sym e)
