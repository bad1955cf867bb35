use Prim.Native.Nat.{ℕ}
use Rattle.plateobj.proofs.Laws.{so-long}
use Rattle.plateobj.proofs.words_room.Goals as goal

pub returns : goal.returns
returns c = so-long {A = ℕ} 786432 0
