use mathlib.Core.Path.{ap, ◌∙◌}
use mir.Syntax.{w32}
use mir.ValLaws.{to_z-of_z}
use borrow.Author.Tests.{leb-true}
use Rattle.std.proofs.Common.{◌≡◌, Some}
use Rattle.obj.specs.declared.Held.TheVariants.{Plus, Less}
use Rattle.obj.proofs.Going.{coords-out}
use Rattle.obj.proofs.numbers.store_coord.Goals as goal

pub plus-requires : goal.plus-requires
plus-requires c = let q = c.in-Some-Plus in
    let b = rw q.is at q.field-0-is in
    let e : c.args.h ≡ Some (Plus q.n) = q.is ∙ ap Some b in
    leb-true _ _ (rw e at c.requires)

pub less-requires : goal.less-requires
less-requires c = let q = c.in-Some-Less in
    let b = rw q.is at q.field-0-is in
    let e : c.args.h ≡ Some (Less q.n) = q.is ∙ ap Some b in
    leb-true _ _ (rw e at c.requires)

pub returns-then-i-coords : goal.returns-then-i-coords
returns-then-i-coords c = let q = c.in-Some-Plus in
    let b = rw q.is at q.field-0-is in
    let h : c.args.h ≡ Some (Plus q.n) = q.is ∙ ap Some b in
    let e = to_z-of_z w32 c.plus.result (record { sfits = c.plus.type_inv }) ∙ c.plus.ensures in
    rw (h, e)

pub returns-else-i-coords : goal.returns-else-i-coords
returns-else-i-coords c = coords-out _ _ c.args.h c.if-i-coords.false

pub returns-then-i-coords-2 : goal.returns-then-i-coords-2
returns-then-i-coords-2 c = let q = c.in-Some-Less in
    let b = rw q.is at q.field-0-is in
    let h : c.args.h ≡ Some (Less q.n) = q.is ∙ ap Some b in
    let e = to_z-of_z w32 c.less.result (record { sfits = c.less.type_inv }) ∙ c.less.ensures in
    rw (h, e)

pub returns-else-i-coords-2 : goal.returns-else-i-coords-2
returns-else-i-coords-2 c = coords-out _ _ c.args.h c.if-i-coords-2.false
