use Prim.Native.Nat.{ℕ}
use Rattle.objsheet.proofs.Laws.{so-long}
use Rattle.objsheet.proofs.sheet_room.Goals as goal

pub returns : goal.returns
returns c = so-long {A = ℕ} 98324 0
