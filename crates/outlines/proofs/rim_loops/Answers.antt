use Rattle.std.specs.Prelude.{Err}
use Rattle.std.proofs.lemmas.Result.{err_from_is_err_and}
use mathlib.Core.Path.{refl, sym, ap, ◌∙◌}
use lib.ListN.{length}
use Rattle.rules.specs.Position.{whole}
use Rattle.rules.specs.Answers.{whole_rooms}
use Rattle.rules.proofs.Sharp.{no-marks-outcome}
use Rattle.outlines.proofs.Accepted.{outcome-refused}
use Rattle.outlines.proofs.rim_loops.Goals as goal

pub trace-requires : goal.trace-requires
trace-requires c = sym (no-marks-outcome whole (whole_rooms (length c.args.positions.now) (length c.args.out.now) (length c.args.words.now) (length c.args.work.now)) c.args.levels c.args.indices.now c.args.coords.now) ∙ sym c.judge_whole.ensures ∙ c.in_ok-c.was

pub returns-in_err-c : goal.returns-in_err-c
returns-in_err-c c = let p = err_from_is_err_and c.from_residual.result c.from_residual.ensures.1 in
    let rooms = whole_rooms (length c.args.positions.now) (length c.args.out.now) (length c.args.words.now) (length c.args.work.now) in
    let o = outcome-refused rooms (length c.args.list.now) c.args.levels c.args.indices.now c.args.coords.now p.0
    (sym (no-marks-outcome whole rooms c.args.levels c.args.indices.now c.args.coords.now) ∙ sym c.judge_whole.ensures ∙ c.in_err-c.was ∙ ap Err (sym p.2)) in
    rw p.1 (record {
      outcome = Err p.0;
      call = record { answer = sym o; positions = refl; indices = refl; words = refl; work = refl };
      answer = refl;
      left = refl;
    })
