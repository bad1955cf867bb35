use native.Mathlib.Omega.{arith}
use Prim.Native.Nat.{ℕ, ◌*◌}
use mathlib.Core.Path.{subst}
use mathlib.Core.List.{List}
use lib.ListN.{get_or, length-set}
use lib.Seq.{take_all}
use Rattle.lists.specs.Lists.{part}
use Rattle.rules.specs.Mesh.{links}
use Rattle.marks.specs.Marks.{Marking}
use Rattle.looks.proofs.Marking.{Met, still, met-side, marked-one}
use Rattle.looks.proofs.mark_words.Lts
use Rattle.looks.proofs.mark_words.Reads
use Rattle.looks.proofs.mark_words.Tie
use Rattle.looks.proofs.mark_words.Goals as goal

abbrev After-across-t : Type 0
After-across-t = Lts.After-across Tie.the-claims Reads.Pre Reads.Post goal.the-invariant-loop-side goal.the-decreases-loop-side

pub loop-side-init : goal.loop-side-init
loop-side-init c = (omega arith, c.requires.none_yet)

pub overflow_cast-s : goal.overflow_cast-s
overflow_cast-s c = let r = c.requires in
    let l = c.loop-side in
    omega (arith, r.side l.side-index c.loop-side-test.true, r.listed.small)

pub across-t-requires : goal.across-t-requires
across-t-requires c = let a = c.args in
    let l = c.loop-side in
    let h = c.loop-side-test.true in
    (still a.words.now a.at a.marks a.nf a.sharp.now c.requires l.side-index h l.words l.invariant.1, c.requires.side l.side-index h)

-- the side that was found
found :
    (k : After-across-t) →
    (let a = k.args in
    Met (links (part a.at (3 * a.nf) a.words.now)) (3 * a.nf) (get_or a.sharp.now k.loop-side.side-index 0) k.across-t.result)
found k =
    let a = k.args in
    let l = k.loop-side in
    met-side a.words.now a.at a.marks a.nf a.sharp.now k.requires l.side-index k.loop-side-test.true l.words l.invariant.1 k.across-t.result k.across-t.ensures

pub set_mark-requires : goal.set_mark-requires
set_mark-requires c = let r = c.requires in
    let l = c.loop-side in
    omega (arith, r.side l.side-index c.loop-side-test.true, r.room, l.invariant.1.long)

pub overflow_sub-t : goal.overflow_sub-t
overflow_sub-t c = let m = found c.before.before.before.before.before.before in omega (arith, m.some)

pub set_mark-requires-in-loop-side : goal.set_mark-requires-in-loop-side
set_mark-requires-in-loop-side c = let r = c.requires in
    let l = c.loop-side in
    let m = found c.before.before.before.before.before.before in
    rw (c.set_mark.ensures, length-set) (omega (arith, m.below, m.some, r.room, l.invariant.1.long))

pub loop-side-preserved : goal.loop-side-preserved
loop-side-preserved c = let a = c.args in
    let l = c.loop-side in
    let h = c.loop-side-test.true in (
      omega (arith, h),
      marked-one a.words.now a.at a.marks a.nf a.sharp.now c.requires l.side-index h l.words l.invariant.1 c.across-t.result c.across-t.ensures
          c.set_mark.new.words c.set_mark-in-loop-side.new.words c.set_mark.ensures c.set_mark-in-loop-side.ensures,
    )

pub shape_of-words : goal.shape_of-words
shape_of-words c = c.loop-side.invariant.1.long

pub returns : goal.returns
returns c = let a = c.args in
    let l = c.loop-side in
    subst (λ (x : List ℕ). Marking a.words.now (links (part a.at (3 * a.nf) a.words.now)) a.marks a.nf x l.words) (take_all l.side-index a.sharp.now (omega arith)) l.invariant.1
