use mathlib.Core.Path.{sym, ◌∙◌}
use mathlib.Core.Bool.{not}
use lib.Dec.{eqb}
use Rattle.lists.specs.Lists.{find, lowest, found}
use Rattle.rules.specs.Refusals.{check, fan_refusal}
use Rattle.cage.specs.Fans.{turn_refusal}
use Rattle.limits.proofs.Search.{refused, or-stops, or-goes}
use Rattle.scans.proofs.Scans.{started_of}
use Rattle.scans.proofs.fans.fans.Goals as goal

pub turns-requires : goal.turns-requires
turns-requires c = let fs = c.args.indices.now in
    let e = sym c.unused.ensures ∙ c.in_ok-unused.was in
    (c.requires.0, c.requires.1, c.requires.2, started_of c.args.v fs e)

pub returns-in_err-unused : goal.returns-in_err-unused
unfolding fan_refusal
returns-in_err-unused c = let a = c.args in
    let fs = a.indices.now in
    refused _ _ _ c.from_residual.ensures.1 (sym (or-stops (check 9 (lowest (λ u. not (found (find (eqb u) fs))) a.v)) (turn_refusal a.v fs) _ (sym c.unused.ensures ∙ c.in_err-unused.was)))

pub returns : goal.returns
unfolding fan_refusal
returns c = let a = c.args in
    let fs = a.indices.now in
    c.turns.ensures ∙ sym (or-goes (check 9 (lowest (λ u. not (found (find (eqb u) fs))) a.v)) (turn_refusal a.v fs) (sym c.unused.ensures ∙ c.in_ok-unused.was))
