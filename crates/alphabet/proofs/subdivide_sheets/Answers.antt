use mathlib.Core.Path.{refl, sym, ◌∙◌}
use lib.ListN.{length}
use Rattle.alphabet.proofs.Lengths.{fine, nineteen, done_all}
use Rattle.alphabet.proofs.subdivide_sheets.Goals as goal

pub returns-then-refused : goal.returns-then-refused
returns-then-refused c = let a = c.args in
    nineteen a.bytes.now a.lengths.now _ _ (sym c.refused.ensures ∙ c.if-refused.true) refl refl

pub run-requires : goal.run-requires
run-requires c = let a = c.args in
    fine (length a.bytes.now) a.lengths.now (length a.answers.now) (sym c.refused.ensures ∙ c.if-refused.false)

pub returns : goal.returns
returns c = let a = c.args in
    done_all a.bytes.now a.lengths.now _ _ (sym c.refused.ensures ∙ c.if-refused.false) c.run.ensures
