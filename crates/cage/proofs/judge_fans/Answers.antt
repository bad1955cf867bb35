use Rattle.cage.proofs.Rounds.{counted_none}
use Rattle.cage.proofs.Stages.{below_more}
use Rattle.cage.proofs.judge_fans.Goals as goal

pub count_corners-requires : goal.count_corners-requires
count_corners-requires c = let fs = c.args.indices.now in
    record { sizes = (c.requires.tables.faces, below_more c.args.v 4096 fs c.requires.sizes.1 c.requires.sizes.3.below); empty = counted_none fs 4096 }
