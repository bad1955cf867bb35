use mathlib.Core.Path.{ap, ◌∙◌}
use borrow.Author.Tests.{ltb-true}
use Rattle.std.proofs.Common.{◌≡◌, Some}
use Rattle.obj.specs.declared.Held.TheVariants.{Corner}
use Rattle.obj.proofs.Going.{corners-out}
use Rattle.obj.proofs.numbers.store_corner.Goals as goal

pub overflow_sub-corners : goal.overflow_sub-corners
overflow_sub-corners c = let q = c.in-Some-Corner in
    let b = rw q.is at q.field-0-is in
    let e : c.args.h ≡ Some (Corner q.n) = q.is ∙ ap Some b in
    ltb-true _ _ (rw e at c.requires)

pub returns-then-j-corners : goal.returns-then-j-corners
returns-then-j-corners c = let q = c.in-Some-Corner in
    let b = rw q.is at q.field-0-is in
    let e : c.args.h ≡ Some (Corner q.n) = q.is ∙ ap Some b in
    rw e

pub returns-else-j-corners : goal.returns-else-j-corners
returns-else-j-corners c = corners-out _ _ c.args.h c.if-j-corners.false
