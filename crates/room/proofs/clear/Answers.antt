use native.Mathlib.Omega.{arith}
use Rattle.lists.proofs.Stores.{clear-more}
use Rattle.room.proofs.clear.Goals as goal

pub loop-i-preserved : goal.loop-i-preserved
loop-i-preserved g c = rw c.loop-i.invariant (clear-more c.loop-i.i c.args.z c.args.s.now (omega arith))
