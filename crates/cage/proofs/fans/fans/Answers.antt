use mathlib.Core.Path.{sym, ◌∙◌}
use mathlib.Core.Bool.{not}
use lib.Dec.{eqb}
use Rattle.lists.specs.Lists.{find, lowest, found}
use Rattle.rules.specs.Refusals.{check, fan_refusal}
use Rattle.cage.specs.Fans.{turn_refusal}
use Rattle.limits.proofs.Search.{refused, or-stops, or-goes}
use Rattle.cage.proofs.Rounds.{used-of}
use Rattle.cage.proofs.fans.fans.Goals as goal

pub turns-requires : goal.turns-requires
turns-requires c = let e = sym c.unused.ensures ∙ c.in_ok-unused.was in
    record { tables = c.requires.tables; counts = (c.requires.counts.0, c.requires.counts.1, c.requires.counts.3); used = used-of c.args.v c.args.indices.now c.args.heads.now c.requires.counts.2 c.requires.tables.heads e }

pub returns-in_err-unused : goal.returns-in_err-unused
unfolding fan_refusal
returns-in_err-unused c = refused _ _ _ c.from_residual.ensures.1 (sym (or-stops (check 9 (lowest (λ u. not (found (find (eqb u) c.args.indices.now))) c.args.v)) (turn_refusal c.args.v c.args.indices.now) _ (sym c.unused.ensures ∙ c.in_err-unused.was)))

pub returns : goal.returns
unfolding fan_refusal
returns c = c.turns.ensures ∙ sym (or-goes (check 9 (lowest (λ u. not (found (find (eqb u) c.args.indices.now))) c.args.v)) (turn_refusal c.args.v c.args.indices.now) (sym c.unused.ensures ∙ c.in_ok-unused.was))
