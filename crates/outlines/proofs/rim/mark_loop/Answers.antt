use native.Mathlib.Omega.{arith}
use Prim.Native.Nat.{◌-◌, ◌<◌}
use mathlib.Core.Path.{◌≡◌, sym, ◌∙◌}
use lib.ListN.{length}
use Rattle.rules.specs.Mesh.{corner, links}
use Rattle.outlines.specs.Loops.{around}
use Rattle.outlines.specs.Pieces.{vertex_of}
use Rattle.outlines.proofs.Steps.{Told, word_in, word_out, word_first, word_next, side-below, vertex-below, loop-few, painted-none, painted-more}
use Rattle.outlines.proofs.rim.mark_loop.Lts
use Rattle.outlines.proofs.rim.mark_loop.Reads
use Rattle.outlines.proofs.rim.mark_loop.Tie
use Rattle.outlines.proofs.rim.mark_loop.Goals as goal

abbrev In-loop-w : Type 0
In-loop-w = Lts.In-loop Tie.the-claims Reads.Pre Reads.Post goal.the-invariant-loop-w goal.the-decreases-loop-w Tie.handed_clauses

at : (k : In-loop-w) → (let fs = k.args.indices.now in Told (around fs (links fs) k.args.first) k.loop-w.n k.loop-w.w)
at k = word_in _ _ _ k.loop-w.invariant.1 k.loop-w-test.true

inside : (k : In-loop-w) → k.loop-w.w - 1 < length k.args.indices.now
inside k = rw (at k).is (side-below k.args.v k.args.indices.now k.requires.cage.2 k.args.first k.requires.first.1 k.loop-w.n (at k).below)

vertex : (k : In-loop-w) → corner k.args.indices.now (k.loop-w.w - 1) < k.args.v
vertex k = rw (at k).is (vertex-below k.args.v k.args.indices.now k.requires.cage.2 k.args.first k.requires.first.1 k.loop-w.n (at k).below)

few : (k : In-loop-w) → k.loop-w.n < 12288
few k = omega (arith, (at k).below, loop-few k.args.v k.args.indices.now k.requires.cage.2 k.args.first k.requires.first.1, k.requires.cage.0.few)

pub overflow_add-w : goal.overflow_add-w
overflow_add-w c = omega (arith, c.requires.first.0, c.requires.cage.0.few)

pub overflow_cast-w : goal.overflow_cast-w
overflow_cast-w c = omega (arith, c.requires.first.0, c.requires.cage.0.few)

pub loop-w-init : goal.loop-w-init
loop-w-init c = (omega arith, word_first c.args.v c.args.indices.now c.requires.cage.2 c.args.first c.requires.first.1, painted-none (vertex_of c.args.indices.now c.args.first) c.args.k c.args.marks.now)

pub overflow_sub-t : goal.overflow_sub-t
overflow_sub-t c = omega (arith, c.loop-w-test.true)

pub overflow_cast-t : goal.overflow_cast-t
overflow_cast-t c = omega (arith, inside c.before, c.requires.cage.0.few)

pub offset_bounds-indices-t : goal.offset_bounds-indices-t
offset_bounds-indices-t c = omega (arith, inside c.before, c.requires.cage.0.few)

pub bounds-indices-t : goal.bounds-indices-t
bounds-indices-t c = inside c.before.before

pub overflow_cast-a : goal.overflow_cast-a
overflow_cast-a c = omega (arith, vertex c.before.before, c.requires.room)

pub offset_bounds-marks-a : goal.offset_bounds-marks-a
offset_bounds-marks-a c = omega (arith, vertex c.before.before, c.requires.room)

pub bounds-marks-a : goal.bounds-marks-a
bounds-marks-a c = omega (arith, vertex c.before.before, c.requires.room, c.loop-w.invariant.2.long)

pub next_word-w-requires : goal.next_word-w-requires
next_word-w-requires c = (c.requires.cage.0, c.requires.cage.1, c.requires.cage.3, inside c.before.before, c.requires.first.0)

pub overflow_add-n : goal.overflow_add-n
overflow_add-n c = omega (arith, few c.before.before.before)

pub loop-w-smaller : goal.loop-w-smaller
loop-w-smaller c = omega (arith, (at c.before.before.before).below)

pub loop-w-preserved : goal.loop-w-preserved
loop-w-preserved c = let l = c.loop-w in
    let fs = c.args.indices.now in
    let k = at c.before.before.before in
    let h = vertex-below c.args.v fs c.requires.cage.2 c.args.first c.requires.first.1 l.n k.below in (
      omega (arith, k.below),
      c.next_word-w.ensures ∙ rw k.is (word_next c.args.v fs c.requires.cage.2 c.args.first c.requires.first.1 l.n k.below),
      rw k.is (painted-more (vertex_of fs c.args.first) l.n c.args.k l.marks c.args.marks.now (omega (arith, h, c.requires.room, l.invariant.2.long)) l.invariant.2),
    )

pub shape_of-marks : goal.shape_of-marks
shape_of-marks c = c.loop-w.invariant.2.long

pub returns : goal.returns
returns c = let l = c.loop-w in
    let z : l.w ≡ 0 = omega (arith, c.loop-w-test.false) in
    let e = word_out (around c.args.indices.now (links c.args.indices.now) c.args.first) l.n l.invariant.0 (sym l.invariant.1 ∙ z) in
    rw (← e) l.invariant.2
