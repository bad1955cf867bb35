use native.Mathlib.Omega.{arith}
use Prim.Native.Nat.{ℕ, ◌+◌, ◌-◌, ◌*◌, ◌≤◌, ◌<◌}
use mathlib.Core.Path.{◌≡◌, refl, sym, ap, ◌∙◌}
use mathlib.Core.List.{List}
use lib.ListN.{length, take}
use lib.Seq.{sets, take-length, length-sets}
use Rattle.lists.specs.Lists.{gather}
use Rattle.rules.specs.Mesh.{links}
use Rattle.outlines.specs.Loops.{around}
use Rattle.outlines.specs.Pieces.{stored}
use Rattle.outlines.proofs.Steps.{Told, word_in, word_out, word_first, word_next, side-below, loop-few, room_for, loop-store, length-stored, within-cage}
use Rattle.outlines.proofs.list.put_loop.Lts
use Rattle.outlines.proofs.list.put_loop.Reads
use Rattle.outlines.proofs.list.put_loop.Tie
use Rattle.outlines.proofs.list.put_loop.Goals as goal

abbrev In-loop-w : Type 0
In-loop-w = Lts.In-loop Tie.the-claims Reads.Pre Reads.Post goal.the-invariant-loop-w goal.the-decreases-loop-w Tie.handed_clauses

at : (k : In-loop-w) → (let fs = k.args.indices.now in Told (around fs (links fs) k.args.first) k.loop-w.n k.loop-w.w)
at k = word_in _ _ _ k.loop-w.invariant.1 k.loop-w-test.true

inside : (k : In-loop-w) → k.loop-w.w - 1 < length k.args.indices.now
inside k = rw (at k).is (side-below k.args.v k.args.indices.now k.requires.cage.2 k.args.first k.requires.first.1 k.loop-w.n (at k).below)

few : (k : In-loop-w) → k.loop-w.n < 12288
few k = omega (arith, (at k).below, loop-few k.args.v k.args.indices.now k.requires.cage.2 k.args.first k.requires.first.1, k.requires.cage.0.few)

roomy : (k : In-loop-w) → ((k.args.at + k.args.all * k.loop-w.n) + k.args.all ≤ length k.args.list.now)
roomy k = room_for k.args.at k.args.all k.loop-w.n _ _ k.requires.room (at k).below

pub overflow_add-w : goal.overflow_add-w
overflow_add-w c = omega (arith, c.requires.first.0, c.requires.cage.0.few)

pub overflow_cast-w : goal.overflow_cast-w
overflow_cast-w c = omega (arith, c.requires.first.0, c.requires.cage.0.few)

pub loop-w-init : goal.loop-w-init
loop-w-init c = (omega arith, word_first c.args.v c.args.indices.now c.requires.cage.2 c.args.first c.requires.first.1, refl, refl)

pub overflow_sub-t : goal.overflow_sub-t
overflow_sub-t c = omega (arith, c.loop-w-test.true)

pub overflow_cast-t : goal.overflow_cast-t
overflow_cast-t c = omega (arith, inside c.before, c.requires.cage.0.few)

pub overflow_mul-all : goal.overflow_mul-all
overflow_mul-all c = omega (arith, roomy c.before.before, c.loop-w.invariant.2)

pub overflow_add-at : goal.overflow_add-at
overflow_add-at c = omega (arith, roomy c.before.before, c.loop-w.invariant.2)

pub put_pieces-requires : goal.put_pieces-requires
put_pieces-requires c = let f = c.requires.out in
    record { few = f.2; sizes = (f.0, omega (arith, roomy c.before.before, c.loop-w.invariant.2), f.1.few); within = within-cage c.args.indices.now c.args.out.now c.args.levels _ c.requires.cage.0.thirds (inside c.before.before) f.1 }

pub next_word-w-requires : goal.next_word-w-requires
next_word-w-requires c = (c.requires.cage.0, c.requires.cage.1, c.requires.cage.3, inside c.before.before.before.before.before, c.requires.first.0)

pub overflow_add-n : goal.overflow_add-n
overflow_add-n c = omega (arith, few c.before.before.before.before.before.before)

pub loop-w-smaller : goal.loop-w-smaller
loop-w-smaller c = omega (arith, (at c.before.before.before.before.before.before).below)

pub loop-w-preserved : goal.loop-w-preserved
loop-w-preserved c = let l = c.loop-w in
    let fs = c.args.indices.now in
    let out = c.args.out.now in
    let k = at c.before.before.before.before.before.before in
    let q = c.put_pieces.ensures in
    let e = c.requires.out.0 in (
      omega (arith, k.below),
      c.next_word-w.ensures ∙ rw k.is (word_next c.args.v c.args.indices.now c.requires.cage.2 c.args.first c.requires.first.1 l.n k.below),
      rw q (length-sets l.list (c.args.at + c.args.all * l.n) (stored c.args.levels out (l.w - 1)) ∙ l.invariant.2),
      q ∙ rw (k.is, l.invariant.3) (loop-store (stored c.args.levels out) c.args.all (λ x. length-stored out c.args.levels x ∙ sym e) (around fs (links fs) c.args.first) c.args.list.now c.args.at l.n k.below),
    )

pub shape_of-list : goal.shape_of-list
shape_of-list c = c.loop-w.invariant.2

pub returns : goal.returns
returns c = let l = c.loop-w in
    let xs = around c.args.indices.now (links c.args.indices.now) c.args.first in
    let z : l.w ≡ 0 = omega (arith, c.loop-w-test.false) in
    let e = word_out xs l.n l.invariant.0 (sym l.invariant.1 ∙ z) in record {
      list = l.invariant.3 ∙ ap (λ (k : ℕ). sets c.args.list.now c.args.at (gather (stored c.args.levels c.args.out.now) (take k xs))) e
          ∙ ap (λ (k : List ℕ). sets c.args.list.now c.args.at (gather (stored c.args.levels c.args.out.now) k)) (take-length xs);
      sides = e;
    }
