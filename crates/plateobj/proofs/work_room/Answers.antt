use lib.IntN.{ℤ, pos}
use Rattle.plateobj.proofs.Laws.{so-long}
use Rattle.plateobj.proofs.work_room.Goals as goal

pub returns : goal.returns
returns c = so-long {A = ℤ} 196608 (pos 0)
