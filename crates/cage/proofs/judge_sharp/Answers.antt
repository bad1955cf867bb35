use Prim.Native.Nat.{◌/◌}
use mathlib.Core.Path.{sym, ◌∙◌}
use lib.ListN.{length}
use Rattle.rules.specs.Position.{whole}
use Rattle.rules.specs.Refusals.{◌or_else◌, shape_refusal, range_refusal}
use Rattle.rules.specs.Sharp.{sharp_refusal}
use Rattle.rules.proofs.Checks.{shape_of}
use Rattle.cage.specs.Sizes.{from_five}
use Rattle.limits.proofs.Search.{refused, passes}
use Rattle.cage.proofs.SharpList.{sharp-ahead}
use Rattle.cage.proofs.Stages.{faces-of, coords-few, unless-no, unless-goes}
use Rattle.cage.proofs.judge_sharp.Goals as goal

pub range-requires : goal.range-requires
range-requires c = coords-few c.args.levels (length c.args.indices.now) (length c.args.coords.now) (shape_of c.args.levels (length c.args.indices.now) (length c.args.coords.now) (passes _ (sym c.shape.ensures ∙ c.in_ok-shape.was)))

pub judge_faces-requires : goal.judge_faces-requires
judge_faces-requires c = let w = shape_of c.args.levels (length c.args.indices.now) (length c.args.coords.now) (passes _ (sym c.shape.ensures ∙ c.in_ok-shape.was)) in
    (w.levels, w.verts, faces-of c.args.levels (length c.args.coords.now) c.args.indices.now w)

pub returns-in_err-shape : goal.returns-in_err-shape
unfolding sharp_refusal
returns-in_err-shape c = let a = c.args in
    let fs = a.indices.now in
    let xs = a.coords.now in
    refused _ _ _ c.from_residual.ensures.1 (unless-no (shape_refusal a.levels (length fs) (length xs)) (range_refusal whole xs or_else from_five a.levels (length xs / 3) a.sharp.now fs) _ _ (sym c.shape.ensures ∙ c.in_err-shape.was))

pub returns-in_err-range : goal.returns-in_err-range
unfolding sharp_refusal
returns-in_err-range c = let a = c.args in
    let fs = a.indices.now in
    let xs = a.coords.now in
    refused _ _ _ c.from_residual-in_err-range.ensures.1 (unless-no (range_refusal whole xs) (from_five a.levels (length xs / 3) a.sharp.now fs) _ _ (sym c.range.ensures ∙ c.in_err-range.was)
    ∙ sym (unless-goes (shape_refusal a.levels (length fs) (length xs)) (range_refusal whole xs or_else from_five a.levels (length xs / 3) a.sharp.now fs) _ (sym c.shape.ensures ∙ c.in_ok-shape.was)))

pub returns : goal.returns
unfolding sharp_refusal
returns c = let a = c.args in
    let fs = a.indices.now in
    let xs = a.coords.now in
    c.judge_faces.ensures
    ∙ sym (unless-goes (shape_refusal a.levels (length fs) (length xs)) (range_refusal whole xs or_else from_five a.levels (length xs / 3) a.sharp.now fs) _ (sym c.shape.ensures ∙ c.in_ok-shape.was)
    ∙ unless-goes (range_refusal whole xs) (from_five a.levels (length xs / 3) a.sharp.now fs) _ (sym c.range.ensures ∙ c.in_ok-range.was))
    ∙ sharp-ahead a.levels a.sharp.now fs xs
