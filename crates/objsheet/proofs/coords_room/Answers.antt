use lib.IntN.{ℤ, pos}
use Rattle.objsheet.proofs.Laws.{so-long}
use Rattle.objsheet.proofs.coords_room.Goals as goal

pub returns : goal.returns
returns c = so-long {A = ℤ} 98304 (pos 0)
