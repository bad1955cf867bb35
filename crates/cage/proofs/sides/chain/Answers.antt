use native.Mathlib.Omega.{arith}
use Prim.Native.Nat.{◌<◌}
use lib.ListN.{length, get_or}
use Rattle.rules.specs.Mesh.{corner}
use Rattle.cage.proofs.Chains.{heads-more, chained_more}
use Rattle.cage.proofs.sides.chain.Lts
use Rattle.cage.proofs.sides.chain.Reads
use Rattle.cage.proofs.sides.chain.Tie
use Rattle.cage.proofs.sides.chain.Goals as goal

abbrev In-loop-s : Type 0
In-loop-s = Lts.In-loop Reads.Pre Reads.Post goal.the-invariant-loop-s goal.the-decreases-loop-s Tie.handed_clauses

below : (k : In-loop-s) → corner k.args.indices.now k.loop-s.s < length k.args.heads.now
below k = k.requires.sizes.1.each k.loop-s.s k.loop-s-test.true

pub loop-s-preserved : goal.loop-s-preserved
loop-s-preserved c = let l = c.loop-s in
    let fs = c.args.indices.now in
    let b : corner fs l.s < length l.heads = rw l.auto.heads (below c.before.before.before) in
    let r = l.invariant.1.room in
    let t = c.loop-s-test.true in (
      heads-more fs l.s l.heads b l.invariant.0,
      chained_more fs l.s l.nexts (get_or l.heads (corner fs l.s) 0) (l.invariant.0.head (corner fs l.s) b) (omega arith) l.invariant.1,
    )
