use native.Mathlib.Omega.{arith}
use mathlib.Core.Path.{sym, ap, ◌∙◌}
use Rattle.limits.proofs.Search.{lowest-here, lowest-nowhere}
use mathlib.Core.Bool.{not}
use lib.Dec.{eqb}
use Rattle.lists.specs.Lists.{find, found}
use Rattle.scans.proofs.fans.unused.Goals as goal

pub returns-then-not-used : goal.returns-then-not-used
returns-then-not-used c = let fs = c.args.indices.now in
    let l = c.loop-u in
    c.no.ensures ∙ sym (lowest-here 9 (λ u. not (found (find (eqb u) fs))) c.args.v l.u c.loop-u-test.true (ap not (sym c.used.ensures) ∙ (ap not c.if-not-used.true)) l.invariant)

pub returns : goal.returns
returns c = let fs = c.args.indices.now in
    sym (lowest-nowhere 9 (λ u. not (found (find (eqb u) fs))) c.args.v (λ j h. c.loop-u.invariant j (omega (arith, c.loop-u-test.false))))
