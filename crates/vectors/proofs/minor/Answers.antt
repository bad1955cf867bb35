use Rattle.vectors.proofs.minor.Goals as goal

pub returns : goal.returns
returns c = cc
