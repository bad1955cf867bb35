use native.Mathlib.Omega.{arith}
use Rattle.lists.proofs.Stores.{copy_at}
use Rattle.alphabet.proofs.tell.Goals as goal

pub loop-k-preserved : goal.loop-k-preserved
loop-k-preserved c = rw c.loop-k.invariant (copy_at c.args.slots.now c.tell.new.told c.args.at c.loop-k.k 0 (omega (arith, c.type_inv.told, c.loop-k-test.true)))
