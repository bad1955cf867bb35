use mathlib.Core.Path.{◌∙◌}
use Rattle.scans.proofs.Scans.{any_found}
use Rattle.scans.proofs.fans.used.Goals as goal

pub returns : goal.returns
returns c = c.contains.ensures.value ∙ any_found c.args.u c.args.indices.now
