use borrow.Author.Tests.{lt-ltb, le-ltb, eq-eqb, ne_eqb}
use Rattle.rules.specs.Refusals.{shape_refusal}
use Rattle.limits.proofs.shape.Goals as goal

pub returns-then-levels-gt7 : goal.returns-then-levels-gt7
unfolding shape_refusal
returns-then-levels-gt7 c = simp (c.no.ensures, lt-ltb _ _ c.if-levels-gt7.true)

pub returns-then-indices-ne0 : goal.returns-then-indices-ne0
unfolding shape_refusal
returns-then-indices-ne0 c = simp (c.no-then-indices-ne0.ensures, le-ltb _ _ c.if-levels-gt7.false, ne_eqb _ _ c.if-indices-ne0.true)

pub returns-then-coords-ne0 : goal.returns-then-coords-ne0
unfolding shape_refusal
returns-then-coords-ne0 c = simp (c.no-then-coords-ne0.ensures, le-ltb _ _ c.if-levels-gt7.false, eq-eqb _ _ c.if-indices-ne0.false, ne_eqb _ _ c.if-coords-ne0.true)

pub returns-then-indices-gt4096 : goal.returns-then-indices-gt4096
unfolding shape_refusal
returns-then-indices-gt4096 c = simp (c.no-then-indices-gt4096.ensures, le-ltb _ _ c.if-levels-gt7.false, eq-eqb _ _ c.if-indices-ne0.false, eq-eqb _ _ c.if-coords-ne0.false, lt-ltb _ _ c.if-indices-gt4096.true)

pub returns-then-coords-gt4096 : goal.returns-then-coords-gt4096
unfolding shape_refusal
returns-then-coords-gt4096 c = simp (c.no-then-coords-gt4096.ensures, le-ltb _ _ c.if-levels-gt7.false, eq-eqb _ _ c.if-indices-ne0.false, eq-eqb _ _ c.if-coords-ne0.false, le-ltb _ _ c.if-indices-gt4096.false, lt-ltb _ _ c.if-coords-gt4096.true)

pub returns : goal.returns
unfolding shape_refusal
returns c = simp (le-ltb _ _ c.if-levels-gt7.false, eq-eqb _ _ c.if-indices-ne0.false, eq-eqb _ _ c.if-coords-ne0.false, le-ltb _ _ c.if-indices-gt4096.false, le-ltb _ _ c.if-coords-gt4096.false)
