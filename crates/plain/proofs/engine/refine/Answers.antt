use native.Mathlib.Omega.{arith}
use Prim.Native.Nat.{ℕ}
use mathlib.Core.Path.{◌≡◌, subst}
use Rattle.rules.specs.Position.{whole}
use Rattle.rules.specs.Sharp.{sharp_last}
use Rattle.plain.specs.Held.{Held}
use Rattle.plain.proofs.Going.{Turn, Turned, turn, going-first, going-held}
use Rattle.plain.proofs.engine.refine.Lts
use Rattle.plain.proofs.engine.refine.Reads
use Rattle.plain.proofs.engine.refine.Tie
use Rattle.plain.proofs.engine.refine.Goals as goal

abbrev After-start-next : Type 0
After-start-next = Lts.After-start4 Tie.the-claims Reads.Pre Reads.Post goal.the-invariant-loop-i goal.the-decreases-loop-i Tie.handed_clauses

abbrev After-refine_words-nv : Type 0
After-refine_words-nv = Lts.After-refine_words Tie.the-claims Reads.Pre Reads.Post goal.the-invariant-loop-i goal.the-decreases-loop-i Tie.handed_clauses

-- once the four places are known, and once the words are grown
at-hand : (k : After-start-next) →
    (let l = k.loop-i in
    Turn k.args.levels k.args.sharp.now k.args.indices.now k.args.coords.now k.args.half k.args.third k.args.words.now k.args.work.now l.i l.nf l.nv l.words l.work k.start-at.result k.start-to.result k.start-from.result k.start-next.result)
at-hand k =
    let l = k.loop-i in
    turn k.args.levels k.args.sharp.now k.args.indices.now k.args.coords.now k.args.half k.args.third k.args.words.now k.args.work.now k.requires.cage k.requires.parts k.requires.room.0 k.requires.room.1 l.i l.nf l.nv l.words l.work l.invariant k.loop-i-test.true k.start-at.result k.start-to.result k.start-from.result k.start-next.result k.start-at.ensures k.start-to.ensures k.start-from.ensures k.start-next.ensures

grown : (k : After-refine_words-nv) →
    (let l = k.loop-i in
    Turned k.args.levels k.args.sharp.now k.args.indices.now k.args.coords.now k.args.half k.args.third k.args.words.now k.args.work.now l.i l.nf l.nv l.words l.work k.start-at.result k.start-to.result k.start-from.result k.start-next.result k.refine_words-nv.new.words k.refine_words-nv.result)
grown k = (at-hand k.before.before.before.before.before).turned k.refine_words-nv.new.words k.refine_words-nv.result k.refine_words-nv.ensures.words k.refine_words-nv.ensures.edges

pub loop-i-init : goal.loop-i-init
loop-i-init c = going-first c.args.levels c.args.sharp.now c.args.indices.now c.args.coords.now c.args.half c.args.third c.args.words.now c.args.work.now c.requires.cage c.requires.parts c.requires.room.0 c.requires.room.1 c.requires.held

pub overflow_sub-marks : goal.overflow_sub-marks
overflow_sub-marks c = omega (arith, (at-hand c.before).fits)

pub overflow_add-marks : goal.overflow_add-marks
overflow_add-marks c = omega (arith, (at-hand c.before).fits, (at-hand c.before).within, c.requires.room.0)

pub refine_points-requires : goal.refine_points-requires
refine_points-requires c = let t = at-hand c.before.before in record { mesh = t.movable; room = t.placed; near = t.near }

pub refine_words-nv-requires : goal.refine_words-nv-requires
refine_words-nv-requires c = (at-hand c.before.before.before.before.before).ready

pub overflow_add-nv : goal.overflow_add-nv
overflow_add-nv c = omega (arith, (grown c.before.before.before).more)

pub overflow_mul-nf : goal.overflow_mul-nf
overflow_mul-nf c = omega (arith, (grown c.before.before.before.before).more)

pub overflow_sub-half : goal.overflow_sub-half
overflow_sub-half c = omega (arith, (at-hand c.before.before.before.before.before.before.before.before.before).fits)

pub overflow_add-to : goal.overflow_add-to
overflow_add-to c = omega (arith, (at-hand c.before.before.before.before.before.before.before.before.before).fits, (at-hand c.before.before.before.before.before.before.before.before.before).within, c.requires.room.0)

pub refine_marks-requires : goal.refine_marks-requires
refine_marks-requires c = let r = (grown c.before.before.before.before).apart in record { room = (r.0, r.1); apart = r.2 }

pub overflow_mul-nf-in-loop-i : goal.overflow_mul-nf-in-loop-i
overflow_mul-nf-in-loop-i c = omega (arith, (grown c.before.before.before.before.before.before.before).more)

pub loop-i-preserved : goal.loop-i-preserved
loop-i-preserved c = (grown c.before.before.before.before.before.before.before).again _ _ c.refine_marks.ensures c.refine_points.ensures

pub shape_of-words : goal.shape_of-words
shape_of-words c = let l = c.loop-i in l.invariant.words.long

pub shape_of-work : goal.shape_of-work
shape_of-work c = let l = c.loop-i in l.invariant.work.long

pub returns : goal.returns
returns c = let l = c.loop-i in
    let e : l.i ≡ c.args.levels = (let k = l.invariant.bound in omega arith) in record {
      held = subst (λ (i : ℕ). Held (sharp_last whole i c.args.sharp.now c.args.indices.now c.args.coords.now) i c.args.half c.args.third l.words l.work) e
          (going-held c.args.levels c.args.sharp.now c.args.indices.now c.args.coords.now c.args.half c.args.third c.args.words.now c.args.work.now c.requires.cage c.requires.parts c.requires.room.0 c.requires.room.1 l.i l.nf l.nv l.words l.work l.invariant);
      kept = (l.invariant.words, l.invariant.work);
    }
