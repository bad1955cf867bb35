use native.Mathlib.Omega.{arith}
use mathlib.Core.Path.{sym, ◌∙◌}
use Rattle.limits.proofs.Search.{lowest-here, lowest-nowhere}
use Prim.Native.Nat.{◌/◌}
use lib.ListN.{length}
use Rattle.lists.specs.Lists.{lowest, found}
use Rattle.rules.specs.Refusals.{same_set}
use Rattle.scans.proofs.list.doubled.Goals as goal

pub returns-then-set_before : goal.returns-then-set_before
returns-then-set_before c = let fs = c.args.indices.now in
    let l = c.loop-f in
    c.no.ensures ∙ sym (lowest-here 8 (λ f. found (lowest (same_set fs f) f)) (length fs / 3) l.f c.loop-f-test.true (sym c.set_before.ensures ∙ c.if-set_before.true) l.invariant)

pub returns : goal.returns
returns c = let fs = c.args.indices.now in
    sym (lowest-nowhere 8 (λ f. found (lowest (same_set fs f) f)) (length fs / 3) (λ j h. c.loop-f.invariant j (omega (arith, c.loop-f-test.false))))
