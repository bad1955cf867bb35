use Prim.Native.Nat.{◌+◌, ◌-◌, ◌*◌, ◌≤◌}
use mathlib.Core.Path.{◌≡◌, refl, ◌∙◌}
use native.Mathlib.Omega.{arith}
use lib.ListN.{length}
use Rattle.lists.specs.Lists.{rows}
use Rattle.listing.specs.Text.{Put, vertex_line}
use Rattle.listing.proofs.Laws.{row_more}
use Rattle.listing.proofs.vertex_lines.Goals as goal

pub loop-v-init : goal.loop-v-init
unfolding rows
loop-v-init c = (omega arith, (refl, (omega arith, record { text = refl; next-is = omega arith })))

pub vertex_line-at-requires : goal.vertex_line-at-requires
vertex_line-at-requires c = (omega arith, omega arith)

pub loop-v-preserved : goal.loop-v-preserved
loop-v-preserved c = let l = c.loop-v in
    (omega arith, (c.vertex_line-at.auto.text ∙ l.invariant.1.0, (omega arith, row_more _ _ l.invariant.1.1.1 c.vertex_line-at.ensures.put)))

pub shape_of-text : goal.shape_of-text
shape_of-text c = c.loop-v.invariant.1.0

pub returns : goal.returns
returns c = let l = c.loop-v in
    let e : l.v ≡ c.args.n = omega arith in
    record { put = rw e at l.invariant.1.1.1; upper_bound = omega arith }
