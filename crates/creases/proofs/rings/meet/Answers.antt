use mathlib.Core.Path.{sym, ◌∙◌}
use Rattle.creases.proofs.rings.meet.Goals as goal

pub returns-then-mark : goal.returns-then-mark
returns-then-mark c = rw (sym c.mark.ensures ∙ c.if-mark.true) c.note.ensures

pub returns-else-mark : goal.returns-else-mark
returns-else-mark c = rw (sym c.mark.ensures ∙ c.if-mark.false)
