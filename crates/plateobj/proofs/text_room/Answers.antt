use Prim.Native.Nat.{ℕ}
use Rattle.plateobj.proofs.Laws.{so-long}
use Rattle.plateobj.proofs.text_room.Goals as goal

pub returns : goal.returns
returns c = so-long {A = ℕ} 1900544 0
