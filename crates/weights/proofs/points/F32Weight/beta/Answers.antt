use mathlib.Core.Path.{sym, ap, ◌∙◌}
use borrow.Author.Tests.{ne_eqb}
use Rattle.rules.specs.Position.{beta}
use Rattle.weights.proofs.Floats.{three, eight, three-sixteenths}
use Rattle.weights.proofs.points.F32Weight.beta.Goals as goal

pub returns-then-n-eq3 : goal.returns-then-n-eq3
returns-then-n-eq3 c = three-sixteenths ∙ sym (ap beta c.if-n-eq3.true)

pub returns-else-n-eq3 : goal.returns-else-n-eq3
returns-else-n-eq3 c = rw (three, eight, c.number.ensures) (sym (simp (ne_eqb _ _ c.if-n-eq3.false)))
