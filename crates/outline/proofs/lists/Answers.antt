use Prim.Native.Nat.{ℕ, ◌+◌, ◌*◌, ◌≤◌}
use mathlib.Core.Path.{sym}
use native.Mathlib.Omega.{arith}
use lib.ListN.{length}
use lib.IntN.{ℤ, pos}
use lib.ListN.{replicate, length-replicate}
use lib.Seq.{length-take-le}
use Rattle.reader.proofs.Read.{read, vertices-long, faces-long, both-long, coords-in-front, indices-in-front}
use borrow.Author.Rules.{rules}
use Rattle.outline.proofs.lists.Goals as goal

pub overflow_mul-nc : goal.overflow_mul-nc
overflow_mul-nc c = omega (arith, both-long _ _ c.requires.1, c.requires.0)

pub numbers_from-requires : goal.numbers_from-requires
numbers_from-requires c = (rw c.vertex_block.ensures (vertices-long _ _ c.requires.1), omega (arith, both-long _ _ c.requires.1, c.requires.0))

pub overflow_mul-nw : goal.overflow_mul-nw
overflow_mul-nw c = omega (arith, both-long _ _ c.requires.1, c.requires.0)

pub numbers_from-requires-2 : goal.numbers_from-requires-2
numbers_from-requires-2 c = (rw c.face_block.ensures (faces-long _ _ c.requires.1), omega (arith, both-long _ _ c.requires.1, c.requires.0))

pub slice_bounds-corners-end : goal.slice_bounds-corners-end
slice_bounds-corners-end c = omega (arith, both-long _ _ c.requires.1, c.requires.0, c.numbers_from-2.auto.s)

pub slice_bounds-cage-end : goal.slice_bounds-cage-end
slice_bounds-cage-end c = sym (length-take-le _ _ (omega (arith, both-long _ _ c.requires.1, c.requires.0, c.numbers_from-2.auto.s)))

pub slice_bounds-coords-end : goal.slice_bounds-coords-end
slice_bounds-coords-end c = omega (arith, both-long _ _ c.requires.1, c.requires.0, c.numbers_from.auto.s)

pub slice_bounds-cage-end-2 : goal.slice_bounds-cage-end-2
slice_bounds-cage-end-2 c = sym (length-take-le _ _ (omega (arith, both-long _ _ c.requires.1, c.requires.0, c.numbers_from.auto.s)))

pub returns : goal.returns
returns c = let r = c.cage.ensures in
    let x = rw c.vertex_block.ensures at c.numbers_from.ensures in
    let y = rw c.face_block.ensures at c.numbers_from-2.ensures in
    let p = coords-in-front c.args.bytes.now c.args.s c.requires.1 (replicate 8192 (pos 0)) (omega (arith, length-replicate {A = ℤ} 8192 (pos 0), both-long _ _ c.requires.1, c.requires.0)) in
    let q = indices-in-front c.args.bytes.now c.args.s c.requires.1 (replicate 8192 0) (omega (arith, length-replicate {A = ℕ} 8192 0, both-long _ _ c.requires.1, c.requires.0)) in
    record { put = rw (y, q, x, p, ← (read _ _ c.requires.1).levels) at r.put; upper_bound = r.upper_bound }
