use native.Mathlib.Omega.{arith}
use mathlib.Core.Path.{sym, ◌∙◌}
use Rattle.creases.proofs.rings.tallied.Goals as goal

pub returns-then-mark : goal.returns-then-mark
returns-then-mark c = rw (sym c.mark.ensures ∙ c.if-mark.true)

pub returns-else-mark : goal.returns-else-mark
returns-else-mark c = rw (sym c.mark.ensures ∙ c.if-mark.false) (omega arith)
