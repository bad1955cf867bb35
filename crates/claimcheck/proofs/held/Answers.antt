use Prim.Native.Nat.{ℕ}
use mathlib.Core.Path.{sym}
use native.Mathlib.Omega.{arith}
use lib.IntN.{ℤ, pos}
use lib.ListN.{replicate, length-replicate}
use lib.Seq.{length-take-le}
use Rattle.reader.proofs.Read.{read, vertices-long, faces-long, coords-in-front, indices-in-front}
use Rattle.claimcheck.proofs.held.Goals as goal

pub numbers_from-requires : goal.numbers_from-requires
numbers_from-requires c = (rw c.vertex_block.ensures (vertices-long _ _ c.requires.2), omega arith)

pub numbers_from-requires-2 : goal.numbers_from-requires-2
numbers_from-requires-2 c = (rw c.face_block.ensures (faces-long _ _ c.requires.2), omega arith)

pub slice_bounds-accept-end : goal.slice_bounds-accept-end
slice_bounds-accept-end c = sym (length-take-le _ _ (omega (arith, c.requires.1, c.numbers_from-2.auto.s)))

pub slice_bounds-accept-end-2 : goal.slice_bounds-accept-end-2
slice_bounds-accept-end-2 c = sym (length-take-le _ _ (omega (arith, c.requires.0, c.numbers_from.auto.s)))

pub returns : goal.returns
returns c = let x = rw c.vertex_block.ensures at c.numbers_from.ensures in
    let y = rw c.face_block.ensures at c.numbers_from-2.ensures in
    let p = coords-in-front c.args.bytes.now c.args.s c.requires.2 (replicate 8192 (pos 0)) (omega (arith, length-replicate {A = ℤ} 8192 (pos 0))) in
    let q = indices-in-front c.args.bytes.now c.args.s c.requires.2 (replicate 8192 0) (omega (arith, length-replicate {A = ℕ} 8192 0)) in
    let e = rw (y, q, x, p, ← (read _ _ c.requires.2).levels) at c.accept.ensures in
    e.answer
