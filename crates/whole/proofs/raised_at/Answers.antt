use mathlib.Core.Path.{ap, ◌∙◌}
use Rattle.whole.specs.Whole.{raise}
use Rattle.whole.proofs.Bits.{read-32}
use Rattle.whole.proofs.raised_at.Goals as goal

pub returns : goal.returns
returns c = (c.raised.ensures.0 ∙ ap raise (read-32 c.requires.1), c.raised.ensures.1)
