use mathlib.Core.Path.{ap, ◌∙◌}
use borrow.Author.Rules.{rules}
use Rattle.turns.specs.Turns.{entry, sin_number, half_sine}
use Rattle.turns.proofs.Rule.{sin-serves}
use Rattle.turns.proofs.Tables.half_sine.Goals as goal

-- by the rule of the table
pub entry-requires : goal.entry-requires
entry-requires c =
    let known = sin-serves c.args.self.now.sin c.args.self.now.made.sines c.args.k c.args.m (search rules) (search rules) (search rules) in
    record { le_m = c.requires; has = known.0 }

pub returns : goal.returns
unfolding half_sine
returns c =
    let known = sin-serves c.args.self.now.sin c.args.self.now.made.sines c.args.k c.args.m (search rules) (search rules) (search rules) in
    c.entry.ensures ∙ ap entry known.1
