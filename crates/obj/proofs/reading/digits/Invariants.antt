use Prim.Native.Nat.{◌≤◌}
use lib.ListN.{length}
use Rattle.obj.specs.Inside.{Run}
use Rattle.obj.proofs.reading.digits.Given as goal

abbrev pub invariant-loop-at : goal.invariant-loop-at
invariant-loop-at l = (l.at ≤ length l.text) × Run l.text l.most l.first l.from l.n l.at
