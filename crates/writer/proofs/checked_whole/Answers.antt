use mathlib.Core.Path.{sym, ap, ◌∙◌}
use Rattle.std.specs.Prelude.{Err}
use Rattle.std.proofs.lemmas.Result.{err_from_is_err_and}
use Rattle.rules.specs.Position.{whole}
use Rattle.writer.proofs.Stage.{stage-no, judged-no, judged-pass}
use Rattle.writer.proofs.checked_whole.Goals as goal

pub returns-in_err-shape : goal.returns-in_err-shape
returns-in_err-shape c = let a = c.args in
    let p = err_from_is_err_and c.from_residual.result c.from_residual.ensures.1 in
    rw p.1 (stage-no whole a.levels a.indices.now a.coords.now p.0 (sym c.shape.ensures ∙ c.in_err-shape.was ∙ ap Err (sym p.2)))

pub returns-in_err-judge : goal.returns-in_err-judge
returns-in_err-judge c = let a = c.args in
    let p = err_from_is_err_and c.from_residual-in_err-judge.result c.from_residual-in_err-judge.ensures.1 in
    rw p.1 (judged-no whole a.levels a.indices.now a.coords.now (sym c.shape.ensures ∙ c.in_ok-shape.was) _ p.0 (sym c.judge.ensures ∙ c.in_err-judge.was ∙ ap Err (sym p.2)))

pub returns : goal.returns
returns c = let a = c.args in
    judged-pass whole a.levels a.indices.now a.coords.now (sym c.shape.ensures ∙ c.in_ok-shape.was) _ _ (sym c.judge.ensures ∙ c.in_ok-judge.was)
