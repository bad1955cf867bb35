use Prim.Native.Nat.{ℕ}
use Rattle.objsheet.proofs.Laws.{so-long}
use Rattle.objsheet.proofs.corners_room.Goals as goal

pub returns : goal.returns
returns c = so-long {A = ℕ} 98304 0
