use Prim.Native.Nat.{◌*◌}
use mathlib.Core.Path.{◌≡◌, sym}
use native.Mathlib.Omega.{arith}
use lib.ListN.{length, take}
use lib.Seq.{length-take-le}
use Rattle.rules.specs.Answers.{whole_rooms}
use Rattle.rules.specs.Sheets.{sheet_indices, sheet_coords}
use Rattle.reader.proofs.Read.{read, vertices-long, faces-long, coords-in-front, indices-in-front, read-outcome}
use Rattle.sheet.proofs.subdivide_lists.Goals as goal

pub numbers_from-requires : goal.numbers_from-requires
numbers_from-requires g c = let a = c.args in
    let h = c.requires in
    (rw c.vertex_block.ensures (vertices-long a.bytes.now a.sheet h.1.1), omega (arith, h.0))

pub numbers_from-requires-2 : goal.numbers_from-requires-2
numbers_from-requires-2 g c = let a = c.args in
    let h = c.requires in
    (rw c.face_block.ensures (faces-long a.bytes.now a.sheet h.1.1), omega (arith, h.1.0))

pub slice_bounds-smooth-end : goal.slice_bounds-smooth-end
slice_bounds-smooth-end g c = sym (length-take-le _ _ (omega (arith, c.requires.1.0, c.numbers_from-2.auto.s)))

pub slice_bounds-smooth-end-2 : goal.slice_bounds-smooth-end-2
slice_bounds-smooth-end-2 g c = sym (length-take-le _ _ (omega (arith, c.requires.0, c.numbers_from.auto.s)))

pub returns : goal.returns
returns g c = let a = c.args in
    let h = c.requires in
    let rooms = whole_rooms (length a.positions.now) (length a.out.now) (length a.words.now) (length a.work.now) in
    let k = read a.bytes.now a.sheet h.1.1 in
    let xs : take (3 * a.sheet.vertices) c.numbers_from.new.s ≡ sheet_coords a.bytes.now = rw (c.numbers_from.ensures, c.vertex_block.ensures) (coords-in-front a.bytes.now a.sheet h.1.1 _ (omega (arith, h.0))) in
    let fs : take (3 * a.sheet.faces) c.numbers_from-2.new.s ≡ sheet_indices a.bytes.now = rw (c.numbers_from-2.ensures, c.face_block.ensures) (indices-in-front a.bytes.now a.sheet h.1.1 _ (omega (arith, h.1.0))) in
    let e = rw (fs, xs, ← k.levels) at c.smooth.ensures in
    record {
      answer = rw (read-outcome rooms a.bytes.now k.good) e.answer;
      positions = e.positions;
      indices = e.indices;
      words = e.words;
      work = e.work;
    }
