use mathlib.Core.Path.{ap, ◌∙◌}
use Rattle.rules.specs.Outcome.{Outcome}
use Rattle.claimcheck.specs.Output.{rims_of}
use Rattle.claimcheck.proofs.our_rims.Goals as goal

pub returns : goal.returns
returns c = c.rims_of.ensures ∙ ap (λ (o : Outcome). rims_of o) c.subdivide_sheet.ensures.answer
