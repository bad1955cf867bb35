use lib.IntN.{ℤ, pos}
use Rattle.plateobj.proofs.Laws.{so-long}
use Rattle.plateobj.proofs.positions_room.Goals as goal

pub returns : goal.returns
returns c = so-long {A = ℤ} 98304 (pos 0)
