use native.Mathlib.Omega.{arith}
use Prim.Native.Nat.{◌*◌}
use Rattle.rules.specs.Position.{numbers_of}
use Rattle.room.specs.Held.{half_of, third_of, Kept}
use Rattle.room.proofs.Held.{kept_then}
use Rattle.room.proofs.First.{parts_are, within, small, loads, load-room, first-held, first-kept}
use Rattle.loopsubdiv.proofs.engine.work_out.Goals as goal

pub load_words-requires : goal.load_words-requires
load_words-requires g c = let a = c.args in
    let r = c.requires in
    record { cage = loads (numbers_of g.N.Number.on) a.levels a.indices.now a.coords.now a.nf a.nv r.planned; room = omega (arith, load-room (numbers_of g.N.Number.on) a.levels a.indices.now a.coords.now a.nf a.nv r.planned, r.room.0) }

pub copy-requires : goal.copy-requires
copy-requires g c = let a = c.args in
    let r = c.requires in
    omega (arith, (small (numbers_of g.N.Number.on) a.levels a.indices.now a.coords.now a.nf a.nv r.planned).1, within (numbers_of g.N.Number.on) a.levels a.indices.now a.coords.now a.nf a.nv r.planned, r.room.1.0)

pub refine-requires : goal.refine-requires
refine-requires g c = let a = c.args in
    let r = c.requires in
    let f = first-kept (numbers_of g.N.Number.on) a.levels a.indices.now a.coords.now a.nf a.nv r.planned a.words.now a.work.now r.room.0 r.room.1.0 in
    record {
      cage = r.planned.passes;
      near = r.near;
      parts = parts_are (numbers_of g.N.Number.on) a.levels a.indices.now a.coords.now a.nf a.nv r.planned;
      held = rw (c.load_words.ensures, c.copy.ensures) (first-held (numbers_of g.N.Number.on) a.levels a.indices.now a.coords.now a.nf a.nv r.planned a.words.now a.work.now r.room.0 r.room.1.0);
      room = rw (c.load_words.ensures, c.copy.ensures) (omega (arith, f.0.long, r.room.0), omega (arith, f.1.long, r.room.1.0));
    }

pub returns : goal.returns
returns g c = let a = c.args in
    let r = c.requires in
    let f = first-kept (numbers_of g.N.Number.on) a.levels a.indices.now a.coords.now a.nf a.nv r.planned a.words.now a.work.now r.room.0 r.room.1.0 in
    let w : Kept (2 * half_of a.nf a.nv) c.load_words.new.words a.words.now = rw c.load_words.ensures f.0 in
    let x : Kept (2 * third_of a.nv) c.copy.new.s a.work.now = rw c.copy.ensures f.1 in
    let k = c.refine.ensures.kept in record {
      positions = c.finish.ensures.positions;
      out = c.finish.ensures.out;
      held = c.refine.ensures.held;
      kept = (kept_then k.0 w, kept_then k.1 x);
    }
