use mathlib.Core.Path.{◌≡◌, refl, ◌∙◌}
use native.Mathlib.Omega.{arith}
use Rattle.lists.specs.Lists.{rows}
use Rattle.listing.specs.Text.{vertex_line}
use Rattle.listing.proofs.Laws.{row_more}
use Rattle.obj.proofs.Lines.{rows-less}
use Rattle.obj.proofs.writing.put_vertices.Goals as goal

pub loop-v-init : goal.loop-v-init
unfolding rows
loop-v-init c = (omega arith, (refl, record { text = refl; next-is = omega arith }))

pub put_vertex-at-requires : goal.put_vertex-at-requires
put_vertex-at-requires c = let l = c.loop-v in
    (omega arith, omega (arith, rows-less (vertex_line c.args.p.now) l.v c.args.n (omega arith), l.invariant.1.1.next-is))

pub loop-v-preserved : goal.loop-v-preserved
loop-v-preserved c = let l = c.loop-v in
    (omega arith, (c.put_vertex-at.auto.text ∙ l.invariant.1.0, row_more _ _ l.invariant.1.1 c.put_vertex-at.ensures))

pub shape_of-text : goal.shape_of-text
shape_of-text c = c.loop-v.invariant.1.0

pub returns : goal.returns
returns c = let l = c.loop-v in
    let e : l.v ≡ c.args.n = omega arith in
    rw e at l.invariant.1.1
