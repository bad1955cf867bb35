use mathlib.Core.Path.{ap, ◌∙◌}
use borrow.Author.Rules.{rules}
use Rattle.turns.specs.Turns.{entry, cos_number, half_cosine}
use Rattle.turns.proofs.Rule.{cos-serves}
use Rattle.turns.proofs.Tables.half_cosine.Goals as goal

-- by the rule of the table
pub entry-requires : goal.entry-requires
entry-requires c =
    let known = cos-serves c.args.self.now.cos c.args.self.now.made.cosines c.args.k c.args.m (search rules) (search rules) (search rules) in
    record { le_m = c.requires; has = known.0 }

pub returns : goal.returns
unfolding half_cosine
returns c =
    let known = cos-serves c.args.self.now.cos c.args.self.now.made.cosines c.args.k c.args.m (search rules) (search rules) (search rules) in
    c.entry.ensures ∙ ap entry known.1
