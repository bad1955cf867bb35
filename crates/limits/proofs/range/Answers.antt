use Rattle.rules.specs.Refusals.{range_refusal}
use mathlib.Core.Bool.{not}
use native.Mathlib.Omega.{arith}
use mathlib.Core.Path.{sym, ap, ◌∙◌}
use Rattle.std.proofs.lemmas.List.{get_or_default}
use Rattle.limits.proofs.Search.{find-here, find-nowhere}
use Rattle.limits.proofs.range.Goals as goal

pub returns-then-not-allowed : goal.returns-then-not-allowed
unfolding range_refusal
returns-then-not-allowed g c =
    let 𝓝 = g.N.Number.on in
    let xs = c.args.coords.now in
    let here = ap 𝓝.allowed (get_or_default xs c.loop-i.i 𝓝.nought c.index-coords-i.result (omega arith) ∙ sym c.index-coords-i.is) ∙ sym c.allowed.ensures in
    c.no.ensures ∙ sym (find-here 4 (λ x. not (𝓝.allowed x)) 𝓝.nought xs c.loop-i.i (omega arith) (ap not here ∙ ap not c.if-not-allowed.true) (λ j h. ap not (c.loop-i.invariant j h)))

pub returns : goal.returns
unfolding range_refusal
returns g c =
    let 𝓝 = g.N.Number.on in
    sym (find-nowhere 4 (λ x. not (𝓝.allowed x)) 𝓝.nought c.args.coords.now (λ j h. ap not (c.loop-i.invariant j (omega arith))))
