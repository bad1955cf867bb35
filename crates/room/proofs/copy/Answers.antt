use native.Mathlib.Omega.{arith}
use Rattle.lists.proofs.Stores.{copy_more}
use Rattle.room.proofs.copy.Goals as goal

pub loop-k-preserved : goal.loop-k-preserved
loop-k-preserved g c = let x = c.index-w-k in
    rw (c.loop-k.invariant, x.is) (copy_more c.args.s.now c.args.w.now c.loop-k.k x.result (omega arith))
