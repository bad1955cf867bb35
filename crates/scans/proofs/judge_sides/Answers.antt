use mathlib.Core.Path.{sym, ◌∙◌}
use Rattle.cage.proofs.Stages.{once-of}
use Rattle.scans.proofs.judge_sides.Goals as goal

pub judge_sets-requires : goal.judge_sets-requires
judge_sets-requires c = let fs = c.args.indices.now in
    let e = sym c.reused.ensures ∙ c.in_ok-reused.was in
    record { sizes = (c.requires.0, c.requires.1, c.requires.2); list = (c.requires.3, c.requires.4, once-of fs c.requires.2 e) }
