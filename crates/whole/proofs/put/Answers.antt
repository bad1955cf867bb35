use mathlib.Core.Path.{ap, ◌∙◌}
use lib.ListN.{set}
use Rattle.whole.proofs.Bits.{read-32}
use Rattle.whole.proofs.put.Goals as goal

pub returns : goal.returns
returns c = ap (set c.args.p.now c.args.i) (read-32 c.lowered.ensures.1 ∙ c.lowered.ensures.0)
