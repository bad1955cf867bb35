use borrow.Author.Count.{below_more}
use native.Mathlib.Omega.{arith}
use mathlib.Core.Path.{sym, ◌∙◌}
use Rattle.rules.specs.Refusals.{same_set}
use Rattle.scans.proofs.Scans.{low-one, low-none}
use Rattle.scans.proofs.list.set_before.Goals as goal

pub returns-then-same_set : goal.returns-then-same_set
returns-then-same_set c = let a = c.args in
    sym (low-one (same_set a.indices.now a.f) a.f c.loop-g.g c.loop-g-test.true (sym c.same_set.ensures ∙ c.if-same_set.true))

pub loop-g-preserved : goal.loop-g-preserved
loop-g-preserved c = below_more _ _ c.loop-g.invariant (sym c.same_set.ensures ∙ c.if-same_set.false)

pub returns : goal.returns
returns c = let a = c.args in
    sym (low-none (same_set a.indices.now a.f) a.f (λ j h. c.loop-g.invariant j (omega (arith, c.loop-g-test.false))))
