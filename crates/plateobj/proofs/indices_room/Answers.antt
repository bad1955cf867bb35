use Prim.Native.Nat.{ℕ}
use Rattle.plateobj.proofs.Laws.{so-long}
use Rattle.plateobj.proofs.indices_room.Goals as goal

pub returns : goal.returns
returns c = so-long {A = ℕ} 98304 0
