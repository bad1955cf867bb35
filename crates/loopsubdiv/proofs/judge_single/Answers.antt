use mathlib.Core.Path.{sym, ◌∙◌}
use Rattle.std.proofs.lemmas.Result.{err_from_is_err_and}
use Rattle.rules.specs.Position.{single}
use Rattle.rules.specs.Answers.{single_rooms}
use Rattle.loopsubdiv.proofs.Outcomes.{then-refused, then-room}
use Rattle.loopsubdiv.proofs.judge_single.Goals as goal

pub returns-in_err-c : goal.returns-in_err-c
returns-in_err-c c =
    let p = err_from_is_err_and c.from_residual.result c.from_residual.ensures.1 in
    rw (p.1, p.2) (sym (then-refused single (single_rooms c.args.positions c.args.normals c.args.out c.args.words c.args.work) c.args.levels c.args.indices.now c.args.coords.now _ (sym c.judge.ensures ∙ c.in_err-c.was)))

pub returns : goal.returns
returns c = c.single_room.ensures ∙ sym (then-room single (single_rooms c.args.positions c.args.normals c.args.out c.args.words c.args.work) c.args.levels c.args.indices.now c.args.coords.now _ (sym c.judge.ensures ∙ c.in_ok-c.was))
