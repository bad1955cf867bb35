use mathlib.Core.Path.{◌≡◌, refl}
use native.Mathlib.Omega.{arith}
use Rattle.lists.specs.Lists.{rows}
use Rattle.listing.specs.Text.{vertex_line}
use Rattle.obj.proofs.Lines.{rows_long}
use Rattle.obj.proofs.writing.vertex_lengths.Goals as goal

pub loop-v-init : goal.loop-v-init
unfolding rows
loop-v-init c = (omega arith, (refl, omega arith))

pub loop-v-preserved : goal.loop-v-preserved
loop-v-preserved c = let l = c.loop-v in
    let e = rows_long (vertex_line c.args.p.now) l.v in
    let a = l.invariant.1.0 in
    let d = c.vertex_length-long.ensures.0 in
    (omega arith, (rw (e, a, d), omega arith))

pub returns : goal.returns
returns c = let l = c.loop-v in
    let e : l.v ≡ c.args.n = omega arith in
    (rw e at l.invariant.1.0, omega arith)
