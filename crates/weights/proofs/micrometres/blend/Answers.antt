use Prim.Native.Nat.{ℕ}
use mathlib.Core.Path.{ap, ◌∙◌}
use Rattle.whole.specs.Whole.{nearest, raise, lower}
use Rattle.weights.proofs.Means.{blend_is}
use Rattle.weights.proofs.micrometres.blend.Goals as goal

pub returns : goal.returns
returns c = let e = ap (λ (x : ℕ). raise (nearest (lower c.args.b.all x) c.args.b.all)) c.mix.ensures.0 in
    (blend_is c.requires.0 c.requires.1.0 c.requires.1.1 (c.rounded.ensures.0 ∙ e), c.rounded.ensures.1)
