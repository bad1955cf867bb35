use native.Mathlib.Omega.{arith}
use mathlib.Core.Path.{sym, ◌∙◌}
use Rattle.limits.proofs.Search.{lowest-here, lowest-nowhere}
use Prim.Native.Nat.{◌*◌, ◌/◌}
use lib.ListN.{length}
use Rattle.rules.specs.Mesh.{sides}
use Rattle.rules.specs.Refusals.{used_before}
use Rattle.scans.proofs.list.reused.Goals as goal

pub returns-then-used_before : goal.returns-then-used_before
returns-then-used_before c = let fs = c.args.indices.now in
    let l = c.loop-s in
    c.no.ensures ∙ sym (lowest-here 7 (used_before (sides fs)) (3 * (length fs / 3)) l.s (omega (arith, c.requires.thirds, c.loop-s-test.true)) (sym c.used_before.ensures ∙ c.if-used_before.true) l.invariant)

pub returns : goal.returns
returns c = let fs = c.args.indices.now in
    sym (lowest-nowhere 7 (used_before (sides fs)) (3 * (length fs / 3)) (λ j h. c.loop-s.invariant j (omega (arith, c.loop-s-test.false))))
