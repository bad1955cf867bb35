use mathlib.Core.Path.{refl, sym}
use Rattle.std.proofs.lemmas.Result.{err_from_is_err_and}
use Rattle.obj.specs.Reading.{read_obj}
use Rattle.obj.proofs.Answers.{refused-23, whole_is, no-coords, no-corners, both-fit, is-whole}
use Rattle.obj.proofs.read_obj.Goals as goal

pub returns-in_err-seen : goal.returns-in_err-seen
returns-in_err-seen c = let p = err_from_is_err_and c.from_residual.result c.from_residual.ensures.1 in
    rw (p.1, p.2) (record { answer = refused-23 _ _ _ _ (sym c.in_err-seen.ensures.seen); coords = refl; corners = refl })

pub returns-then-coords-seen : goal.returns-then-coords-seen
returns-then-coords-seen c = let w = whole_is (read_obj c.args.text.now) _ (sym c.in_ok-seen.ensures.seen) in
    record { answer = no-coords _ _ _ _ _ w c.if-coords-seen.true; coords = refl; corners = refl }

pub returns-then-corners-seen : goal.returns-then-corners-seen
returns-then-corners-seen c = let w = whole_is (read_obj c.args.text.now) _ (sym c.in_ok-seen.ensures.seen) in
    record { answer = no-corners _ _ _ _ _ w c.if-coords-seen.false c.if-corners-seen.true; coords = refl; corners = refl }

pub returns : goal.returns
returns c = let w = whole_is (read_obj c.args.text.now) _ (sym c.in_ok-seen.ensures.seen) in
    let p = c.in_ok-pass.ensures in
    record {
      answer = both-fit _ _ _ _ _ w c.if-coords-seen.false c.if-corners-seen.false;
      coords = p.coords (is-whole _ 0 0 _ _ w);
      corners = p.corners (is-whole _ 0 0 _ _ w);
    }
