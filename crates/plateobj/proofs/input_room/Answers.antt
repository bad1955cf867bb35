use Prim.Native.Nat.{ℕ}
use Rattle.plateobj.proofs.Laws.{so-long}
use Rattle.plateobj.proofs.input_room.Goals as goal

pub returns : goal.returns
returns c = so-long {A = ℕ} 98325 0
