use native.Mathlib.Omega.{arith}
use Prim.Native.Nat.{ℕ}
use mathlib.Core.Path.{◌≡◌, subst}
use Rattle.rules.specs.Position.{whole}
use Rattle.rules.specs.Sharp.{sharp_last}
use Rattle.rules.proofs.Marked.{near-sharp-at}
use Rattle.sharp.specs.Marked.{SharpHeld}
use Rattle.sharp.proofs.Marching.{marching-first, marching-held, marching-fits, marching-within, marching-markable, marching-placed, marching-coords, marching-ready, marching-apart, marching-more, marching-next}
use Rattle.sharp.proofs.refine.Goals as goal

pub loop-i-init : goal.loop-i-init
loop-i-init c = marching-first c.args.levels c.args.sharp.now c.args.indices.now c.args.coords.now c.args.half c.args.third c.args.words.now c.args.work.now c.requires.cage c.requires.parts c.requires.room.0 c.requires.room.1 c.requires.held

pub overflow_sub-marks : goal.overflow_sub-marks
overflow_sub-marks c = let l = c.loop-i in
    omega (arith, marching-fits c.args.levels c.args.sharp.now c.args.indices.now c.args.coords.now c.args.half c.args.third c.args.words.now c.args.work.now c.requires.cage c.requires.parts c.requires.room.0 c.requires.room.1 l.i l.nf l.nv l.words l.work l.invariant (omega arith))

pub overflow_add-marks : goal.overflow_add-marks
overflow_add-marks c = let l = c.loop-i in
    omega (arith, marching-fits c.args.levels c.args.sharp.now c.args.indices.now c.args.coords.now c.args.half c.args.third c.args.words.now c.args.work.now c.requires.cage c.requires.parts c.requires.room.0 c.requires.room.1 l.i l.nf l.nv l.words l.work l.invariant (omega arith), marching-within c.args.levels c.args.sharp.now c.args.indices.now c.args.coords.now c.args.half c.args.third c.args.words.now c.args.work.now c.requires.cage c.requires.parts c.requires.room.0 c.requires.room.1 l.i l.nf l.nv l.words l.work l.invariant (omega arith) c.start-at.result c.start-to.result c.start-from.result c.start-next.result c.start-at.ensures c.start-to.ensures c.start-from.ensures c.start-next.ensures, c.requires.room.0)

pub sharp_points-requires : goal.sharp_points-requires
sharp_points-requires c = let l = c.loop-i in record { mesh = marching-markable c.args.levels c.args.sharp.now c.args.indices.now c.args.coords.now c.args.half c.args.third c.args.words.now c.args.work.now c.requires.cage c.requires.parts c.requires.room.0 c.requires.room.1 l.i l.nf l.nv l.words l.work l.invariant (omega arith) c.start-at.result c.start-to.result c.start-from.result c.start-next.result c.start-at.ensures c.start-to.ensures c.start-from.ensures c.start-next.ensures; room = marching-placed c.args.levels c.args.sharp.now c.args.indices.now c.args.coords.now c.args.half c.args.third c.args.words.now c.args.work.now c.requires.cage c.requires.parts c.requires.room.0 c.requires.room.1 l.i l.nf l.nv l.words l.work l.invariant (omega arith) c.start-at.result c.start-to.result c.start-from.result c.start-next.result c.start-at.ensures c.start-to.ensures c.start-from.ensures c.start-next.ensures; near = rw (marching-coords c.args.levels c.args.sharp.now c.args.indices.now c.args.coords.now c.args.half c.args.third c.args.words.now c.args.work.now c.requires.cage c.requires.parts c.requires.room.0 c.requires.room.1 l.i l.nf l.nv l.words l.work l.invariant (omega arith) c.start-at.result c.start-to.result c.start-from.result c.start-next.result c.start-at.ensures c.start-to.ensures c.start-from.ensures c.start-next.ensures) (near-sharp-at c.args.levels l.i c.args.sharp.now c.args.indices.now c.args.coords.now c.requires.cage.passes).0 }

pub refine_words-nv-requires : goal.refine_words-nv-requires
refine_words-nv-requires c = let l = c.loop-i in
    marching-ready c.args.levels c.args.sharp.now c.args.indices.now c.args.coords.now c.args.half c.args.third c.args.words.now c.args.work.now c.requires.cage c.requires.parts c.requires.room.0 c.requires.room.1 l.i l.nf l.nv l.words l.work l.invariant (omega arith) c.start-at.result c.start-to.result c.start-from.result c.start-next.result c.start-at.ensures c.start-to.ensures c.start-from.ensures c.start-next.ensures

pub overflow_add-nv : goal.overflow_add-nv
overflow_add-nv c = let l = c.loop-i in
    omega (arith, marching-more c.args.levels c.args.sharp.now c.args.indices.now c.args.coords.now c.args.half c.args.third c.args.words.now c.args.work.now c.requires.cage c.requires.parts c.requires.room.0 c.requires.room.1 l.i l.nf l.nv l.words l.work l.invariant (omega arith) c.start-at.result c.start-to.result c.start-from.result c.start-next.result c.start-at.ensures c.start-to.ensures c.start-from.ensures c.start-next.ensures _ c.refine_words-nv.result c.refine_words-nv.ensures.words c.refine_words-nv.ensures.edges)

pub overflow_mul-nf : goal.overflow_mul-nf
overflow_mul-nf c = let l = c.loop-i in
    omega (arith, marching-more c.args.levels c.args.sharp.now c.args.indices.now c.args.coords.now c.args.half c.args.third c.args.words.now c.args.work.now c.requires.cage c.requires.parts c.requires.room.0 c.requires.room.1 l.i l.nf l.nv l.words l.work l.invariant (omega arith) c.start-at.result c.start-to.result c.start-from.result c.start-next.result c.start-at.ensures c.start-to.ensures c.start-from.ensures c.start-next.ensures _ c.refine_words-nv.result c.refine_words-nv.ensures.words c.refine_words-nv.ensures.edges)

pub overflow_sub-half : goal.overflow_sub-half
overflow_sub-half c = let l = c.loop-i in
    omega (arith, marching-more c.args.levels c.args.sharp.now c.args.indices.now c.args.coords.now c.args.half c.args.third c.args.words.now c.args.work.now c.requires.cage c.requires.parts c.requires.room.0 c.requires.room.1 l.i l.nf l.nv l.words l.work l.invariant (omega arith) c.start-at.result c.start-to.result c.start-from.result c.start-next.result c.start-at.ensures c.start-to.ensures c.start-from.ensures c.start-next.ensures _ c.refine_words-nv.result c.refine_words-nv.ensures.words c.refine_words-nv.ensures.edges, marching-fits c.args.levels c.args.sharp.now c.args.indices.now c.args.coords.now c.args.half c.args.third c.args.words.now c.args.work.now c.requires.cage c.requires.parts c.requires.room.0 c.requires.room.1 l.i l.nf l.nv l.words l.work l.invariant (omega arith), marching-within c.args.levels c.args.sharp.now c.args.indices.now c.args.coords.now c.args.half c.args.third c.args.words.now c.args.work.now c.requires.cage c.requires.parts c.requires.room.0 c.requires.room.1 l.i l.nf l.nv l.words l.work l.invariant (omega arith) c.start-at.result c.start-to.result c.start-from.result c.start-next.result c.start-at.ensures c.start-to.ensures c.start-from.ensures c.start-next.ensures, c.requires.room.0)

pub overflow_add-to : goal.overflow_add-to
overflow_add-to c = let l = c.loop-i in
    omega (arith, marching-more c.args.levels c.args.sharp.now c.args.indices.now c.args.coords.now c.args.half c.args.third c.args.words.now c.args.work.now c.requires.cage c.requires.parts c.requires.room.0 c.requires.room.1 l.i l.nf l.nv l.words l.work l.invariant (omega arith) c.start-at.result c.start-to.result c.start-from.result c.start-next.result c.start-at.ensures c.start-to.ensures c.start-from.ensures c.start-next.ensures _ c.refine_words-nv.result c.refine_words-nv.ensures.words c.refine_words-nv.ensures.edges, marching-fits c.args.levels c.args.sharp.now c.args.indices.now c.args.coords.now c.args.half c.args.third c.args.words.now c.args.work.now c.requires.cage c.requires.parts c.requires.room.0 c.requires.room.1 l.i l.nf l.nv l.words l.work l.invariant (omega arith), marching-within c.args.levels c.args.sharp.now c.args.indices.now c.args.coords.now c.args.half c.args.third c.args.words.now c.args.work.now c.requires.cage c.requires.parts c.requires.room.0 c.requires.room.1 l.i l.nf l.nv l.words l.work l.invariant (omega arith) c.start-at.result c.start-to.result c.start-from.result c.start-next.result c.start-at.ensures c.start-to.ensures c.start-from.ensures c.start-next.ensures, c.requires.room.0)

pub refine_marks-requires : goal.refine_marks-requires
refine_marks-requires c = let l = c.loop-i in
    let r = marching-apart c.args.levels c.args.sharp.now c.args.indices.now c.args.coords.now c.args.half c.args.third c.args.words.now c.args.work.now c.requires.cage c.requires.parts c.requires.room.0 c.requires.room.1 l.i l.nf l.nv l.words l.work l.invariant (omega arith) c.start-at.result c.start-to.result c.start-from.result c.start-next.result c.start-at.ensures c.start-to.ensures c.start-from.ensures c.start-next.ensures _ c.refine_words-nv.result c.refine_words-nv.ensures.words c.refine_words-nv.ensures.edges in
    record { room = (r.0, r.1); apart = r.2 }

pub overflow_mul-nf-in-loop-i : goal.overflow_mul-nf-in-loop-i
overflow_mul-nf-in-loop-i c = let l = c.loop-i in
    omega (arith, marching-more c.args.levels c.args.sharp.now c.args.indices.now c.args.coords.now c.args.half c.args.third c.args.words.now c.args.work.now c.requires.cage c.requires.parts c.requires.room.0 c.requires.room.1 l.i l.nf l.nv l.words l.work l.invariant c.loop-i-test.true c.start-at.result c.start-to.result c.start-from.result c.start-next.result c.start-at.ensures c.start-to.ensures c.start-from.ensures c.start-next.ensures _ c.refine_words-nv.result c.refine_words-nv.ensures.words c.refine_words-nv.ensures.edges)

pub loop-i-preserved : goal.loop-i-preserved
loop-i-preserved c = let l = c.loop-i in
    marching-next c.args.levels c.args.sharp.now c.args.indices.now c.args.coords.now c.args.half c.args.third c.args.words.now c.args.work.now c.requires.cage c.requires.parts c.requires.room.0 c.requires.room.1 l.i l.nf l.nv l.words l.work l.invariant c.loop-i-test.true c.start-at.result c.start-to.result c.start-from.result c.start-next.result c.start-at.ensures c.start-to.ensures c.start-from.ensures c.start-next.ensures _ c.refine_words-nv.result c.refine_words-nv.ensures.words c.refine_words-nv.ensures.edges _ _ c.refine_marks.ensures c.sharp_points.ensures

pub shape_of-words : goal.shape_of-words
shape_of-words c = let l = c.loop-i in l.invariant.words.long

pub shape_of-work : goal.shape_of-work
shape_of-work c = let l = c.loop-i in l.invariant.work.long

pub returns : goal.returns
returns c = let l = c.loop-i in
    let e : l.i ≡ c.args.levels = (let k = l.invariant.bound in omega arith) in record { held = subst (λ (i : ℕ). SharpHeld (sharp_last whole i c.args.sharp.now c.args.indices.now c.args.coords.now) i c.args.half c.args.third l.words l.work) e (marching-held c.args.levels c.args.sharp.now c.args.indices.now c.args.coords.now c.args.half c.args.third c.args.words.now c.args.work.now c.requires.cage c.requires.parts c.requires.room.0 c.requires.room.1 l.i l.nf l.nv l.words l.work l.invariant); kept = (l.invariant.words, l.invariant.work) }
