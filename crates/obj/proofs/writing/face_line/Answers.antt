use Prim.Native.Nat.{◌+◌, ◌*◌}
use native.Mathlib.Omega.{arith}
use Rattle.listing.specs.Text.{face_line}
use Rattle.listing.proofs.Laws.{put-put}
use Rattle.obj.proofs.Lines.{corner-is}
use Rattle.obj.proofs.writing.face_line.Goals as goal

pub overflow_add-w : goal.overflow_add-w
overflow_add-w c = let f = c.args.f in omega (arith, c.requires.1.1.each (3 * f) (omega arith))

pub overflow_add-w-2 : goal.overflow_add-w-2
overflow_add-w-2 c = let f = c.args.f in omega (arith, c.requires.1.1.each (3 * f + 1) (omega arith))

pub overflow_add-w-3 : goal.overflow_add-w-3
overflow_add-w-3 c = let f = c.args.f in omega (arith, c.requires.1.1.each (3 * f + 2) (omega arith))

pub returns : goal.returns
unfolding face_line
returns c = let w = c.args.w.now in
    let f = c.args.f in
    record { put = rw (corner-is w (3 * f) (omega arith), corner-is w (3 * f + 1) (omega arith), corner-is w (3 * f + 2) (omega arith)) (put-put c.word-at.ensures c.three_numbers.ensures.put); upper_bound = omega arith }
