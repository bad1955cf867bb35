use Rattle.vectors.proofs.Vec3.cross.Goals as goal

pub returns : goal.returns
returns c = cc
