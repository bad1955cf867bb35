use native.Mathlib.Omega.{arith}
use Rattle.rules.specs.Position.{numbers_of}
use Rattle.loopsubdiv.proofs.Going.{going-first, going-movable, going-placed, going-coords, going-ready, going_next, going-small}
use Rattle.loopsubdiv.proofs.engine.refine.Goals as goal

pub loop-i-init : goal.loop-i-init
loop-i-init g c = let a = c.args in
    going-first (numbers_of g.N.Number.on) a.levels a.indices.now a.coords.now a.half a.third a.words.now a.work.now c.requires.held

pub refine_points-requires : goal.refine_points-requires
refine_points-requires g c = let a = c.args in
    let r = c.requires in
    let l = c.loop-i in
    record {
      mesh = going-movable (numbers_of g.N.Number.on) a.levels a.indices.now a.coords.now a.half a.third a.words.now a.work.now r.cage r.parts r.room.0 r.room.1 l.i l.nf l.nv l.words l.work l.invariant (omega arith) c.start-at.result c.start-to.result c.start-from.result c.start-next.result c.start-at.ensures c.start-to.ensures c.start-from.ensures c.start-next.ensures;
      room = going-placed (numbers_of g.N.Number.on) a.levels a.indices.now a.coords.now a.half a.third a.words.now a.work.now r.cage r.parts r.room.0 r.room.1 l.i l.nf l.nv l.words l.work l.invariant (omega arith) c.start-at.result c.start-to.result c.start-from.result c.start-next.result c.start-at.ensures c.start-to.ensures c.start-from.ensures c.start-next.ensures;
      near = rw (going-coords (numbers_of g.N.Number.on) a.levels a.indices.now a.coords.now a.half a.third a.words.now a.work.now r.cage r.parts r.room.0 r.room.1 l.i l.nf l.nv l.words l.work l.invariant (omega arith) c.start-at.result c.start-to.result c.start-from.result c.start-next.result c.start-at.ensures c.start-to.ensures c.start-from.ensures c.start-next.ensures) (r.near l.i);
    }

pub refine_words-nv-requires : goal.refine_words-nv-requires
refine_words-nv-requires g c = let a = c.args in
    let r = c.requires in
    let l = c.loop-i in
    going-ready (numbers_of g.N.Number.on) a.levels a.indices.now a.coords.now a.half a.third a.words.now a.work.now r.cage r.parts r.room.0 r.room.1 l.i l.nf l.nv l.words l.work l.invariant (omega arith) c.start-at.result c.start-to.result c.start-from.result c.start-next.result c.start-at.ensures c.start-to.ensures c.start-from.ensures c.start-next.ensures

pub overflow_add-nv : goal.overflow_add-nv
overflow_add-nv g c = let a = c.args in
    let r = c.requires in
    let l = c.loop-i in
    let small = going-small (numbers_of g.N.Number.on) a.levels a.indices.now a.coords.now a.half a.third a.words.now a.work.now r.cage r.parts r.room.0 r.room.1 _ _ _ _ _ (going_next (numbers_of g.N.Number.on) a.levels a.indices.now a.coords.now a.half a.third a.words.now a.work.now r.cage r.parts r.room.0 r.room.1 l.i l.nf l.nv l.words l.work l.invariant (omega arith) c.start-at.result c.start-to.result c.start-from.result c.start-next.result c.start-at.ensures c.start-to.ensures c.start-from.ensures c.start-next.ensures _ _ c.refine_words-nv.result c.refine_points.ensures c.refine_words-nv.ensures.words c.refine_words-nv.ensures.edges) in
    omega arith

pub overflow_mul-nf : goal.overflow_mul-nf
overflow_mul-nf g c = let a = c.args in
    let r = c.requires in
    let l = c.loop-i in
    let small = going-small (numbers_of g.N.Number.on) a.levels a.indices.now a.coords.now a.half a.third a.words.now a.work.now r.cage r.parts r.room.0 r.room.1 _ _ _ _ _ (going_next (numbers_of g.N.Number.on) a.levels a.indices.now a.coords.now a.half a.third a.words.now a.work.now r.cage r.parts r.room.0 r.room.1 l.i l.nf l.nv l.words l.work l.invariant (omega arith) c.start-at.result c.start-to.result c.start-from.result c.start-next.result c.start-at.ensures c.start-to.ensures c.start-from.ensures c.start-next.ensures _ _ c.refine_words-nv.result c.refine_points.ensures c.refine_words-nv.ensures.words c.refine_words-nv.ensures.edges) in
    omega arith

pub loop-i-preserved : goal.loop-i-preserved
loop-i-preserved g c = let a = c.args in
    let r = c.requires in
    let l = c.loop-i in
    going_next (numbers_of g.N.Number.on) a.levels a.indices.now a.coords.now a.half a.third a.words.now a.work.now r.cage r.parts r.room.0 r.room.1 l.i l.nf l.nv l.words l.work l.invariant (omega arith) c.start-at.result c.start-to.result c.start-from.result c.start-next.result c.start-at.ensures c.start-to.ensures c.start-from.ensures c.start-next.ensures _ _ c.refine_words-nv.result c.refine_points.ensures c.refine_words-nv.ensures.words c.refine_words-nv.ensures.edges
