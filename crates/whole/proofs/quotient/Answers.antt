use mathlib.Core.Path.{refl}
use Rattle.whole.proofs.quotient.Goals as goal

pub returns-then-d-eq24 : goal.returns-then-d-eq24
returns-then-d-eq24 c = rw c.if-d-eq24.true refl

pub returns-then-d-eq96 : goal.returns-then-d-eq96
returns-then-d-eq96 c = rw c.if-d-eq96.true refl

pub returns-else-d-eq96 : goal.returns-else-d-eq96
returns-else-d-eq96 c = refl
