use Prim.Native.Nat.{suc}
use mathlib.Core.Path.{◌≡◌, refl, ◌∙◌}
use mathlib.Core.List.{map}
use native.Mathlib.Omega.{arith}
use Rattle.lists.specs.Lists.{rows}
use Rattle.listing.specs.Text.{face_line}
use Rattle.listing.proofs.Laws.{row_more}
use Rattle.obj.proofs.Lines.{rows-less}
use Rattle.obj.proofs.writing.put_faces.Goals as goal

pub loop-f-init : goal.loop-f-init
unfolding rows
loop-f-init c = (omega arith, (refl, record { text = refl; next-is = omega arith }))

pub put_face-at-requires : goal.put_face-at-requires
put_face-at-requires c = let l = c.loop-f in
    ((omega arith, c.requires.0.1), omega (arith, rows-less (face_line (map suc c.args.w.now)) l.f c.args.n (omega arith), l.invariant.1.1.next-is))

pub loop-f-preserved : goal.loop-f-preserved
loop-f-preserved c = let l = c.loop-f in
    (omega arith, (c.put_face-at.auto.text ∙ l.invariant.1.0, row_more _ _ l.invariant.1.1 c.put_face-at.ensures))

pub shape_of-text : goal.shape_of-text
shape_of-text c = c.loop-f.invariant.1.0

pub returns : goal.returns
returns c = let l = c.loop-f in
    let e : l.f ≡ c.args.n = omega arith in
    rw e at l.invariant.1.1
