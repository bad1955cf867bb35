use Prim.Native.Nat.{◌+◌, ◌-◌, ◌*◌, ◌≤◌}
use mathlib.Core.Path.{◌≡◌, refl, ◌∙◌}
use native.Mathlib.Omega.{arith}
use lib.ListN.{length}
use Rattle.lists.specs.Lists.{rows}
use Rattle.listing.specs.Text.{Put, face_line}
use Rattle.listing.proofs.Laws.{row_more}
use Rattle.listing.proofs.face_lines.Goals as goal

pub loop-f-init : goal.loop-f-init
unfolding rows
loop-f-init c = (omega arith, (refl, (omega arith, record { text = refl; next-is = omega arith })))

pub face_line-at-requires : goal.face_line-at-requires
face_line-at-requires c = (omega arith, omega arith)

pub loop-f-preserved : goal.loop-f-preserved
loop-f-preserved c = let l = c.loop-f in
    (omega arith, (c.face_line-at.auto.text ∙ l.invariant.1.0, (omega arith, row_more _ _ l.invariant.1.1.1 c.face_line-at.ensures.put)))

pub shape_of-text : goal.shape_of-text
shape_of-text c = c.loop-f.invariant.1.0

pub returns : goal.returns
returns c = let l = c.loop-f in
    let e : l.f ≡ c.args.n = omega arith in
    record { put = rw e at l.invariant.1.1.1; upper_bound = omega arith }
