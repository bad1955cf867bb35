use mathlib.Core.Path.{ap, ◌∙◌}
use lib.ListN.{get_or}
use lib.IntN.{ℤ, pos}
use mir.Syntax.{w32}
use mir.ValLaws.{to_z-of_z}
use borrow.Author.Rules.{rules}
use Rattle.station.specs.Lift.{lift, need_over}
use Rattle.station.proofs.near.need_at.Goals as goal

-- what the machine reads of a signed number is that number
pub returns : goal.returns
returns c = let a = c.args in
    let y = get_or a.ys.now a.i (pos 0) in
    (c.need.ensures.0 ∙ ap (λ (z : ℤ). need_over (lift z) a.num a.den) (to_z-of_z w32 y (record { sfits = c.need-arg-1.given })), c.need-arg-1.given)
