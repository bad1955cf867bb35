use mathlib.Core.Path.{refl}
use borrow.Author.Tests.{eq-eqb, ne_eqb}
use Rattle.claimcheck.proofs.with_rims.Goals as goal

pub returns-then-theirs-ours : goal.returns-then-theirs-ours
returns-then-theirs-ours c = let a = c.args in rw (c.in-Yes.is, eq-eqb a.theirs a.ours c.if-theirs-ours.true) refl

pub returns-else-theirs-ours : goal.returns-else-theirs-ours
returns-else-theirs-ours c = let a = c.args in rw (c.in-Yes.is, ne_eqb a.theirs a.ours c.if-theirs-ours.false) refl

pub returns-in-No : goal.returns-in-No
returns-in-No c = rw c.in-No.is refl

pub returns-in-Refused : goal.returns-in-Refused
returns-in-Refused c = rw c.in-Refused.is refl
