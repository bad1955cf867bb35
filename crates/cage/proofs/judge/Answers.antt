use Prim.Native.Nat.{◌/◌}
use mathlib.Core.List.{[]}
use mathlib.Core.Path.{sym, ◌∙◌}
use lib.ListN.{length}
use Rattle.rules.specs.Position.{numbers_of}
use Rattle.rules.specs.Refusals.{◌or_else◌, shape_refusal, range_refusal, refusal}
use Rattle.rules.proofs.Checks.{shape_of}
use Rattle.cage.specs.Sizes.{from_five}
use Rattle.limits.proofs.Search.{refused, passes}
use Rattle.cage.proofs.Sizes.{counts-ahead}
use Rattle.cage.proofs.Stages.{faces-of, coords-few, unless-no, unless-goes}
use Rattle.cage.proofs.judge.Goals as goal

pub range-requires : goal.range-requires
range-requires g c = coords-few c.args.levels (length c.args.indices.now) (length c.args.coords.now) (shape_of c.args.levels (length c.args.indices.now) (length c.args.coords.now) (passes _ (sym c.shape.ensures ∙ c.in_ok-shape.was)))

pub judge_faces-requires : goal.judge_faces-requires
judge_faces-requires g c = let w = shape_of c.args.levels (length c.args.indices.now) (length c.args.coords.now) (passes _ (sym c.shape.ensures ∙ c.in_ok-shape.was)) in
    (w.levels, w.verts, faces-of c.args.levels (length c.args.coords.now) c.args.indices.now w)

pub returns-in_err-shape : goal.returns-in_err-shape
unfolding refusal
returns-in_err-shape g c = let a = c.args in
    let fs = a.indices.now in
    let xs = a.coords.now in
    refused _ _ _ c.from_residual.ensures.1 (unless-no (shape_refusal a.levels (length fs) (length xs)) (range_refusal (numbers_of g.N.Number.on) xs or_else from_five a.levels (length xs / 3) [] fs) _ _ (sym c.shape.ensures ∙ c.in_err-shape.was))

pub returns-in_err-range : goal.returns-in_err-range
unfolding refusal
returns-in_err-range g c = let a = c.args in
    let fs = a.indices.now in
    let xs = a.coords.now in
    refused _ _ _ c.from_residual-in_err-range.ensures.1 (unless-no (range_refusal (numbers_of g.N.Number.on) xs) (from_five a.levels (length xs / 3) [] fs) _ _ (sym c.range.ensures ∙ c.in_err-range.was)
    ∙ sym (unless-goes (shape_refusal a.levels (length fs) (length xs)) (range_refusal (numbers_of g.N.Number.on) xs or_else from_five a.levels (length xs / 3) [] fs) _ (sym c.shape.ensures ∙ c.in_ok-shape.was)))

pub returns : goal.returns
unfolding refusal
returns g c = let a = c.args in
    let fs = a.indices.now in
    let xs = a.coords.now in
    c.judge_faces.ensures
    ∙ sym (unless-goes (shape_refusal a.levels (length fs) (length xs)) (range_refusal (numbers_of g.N.Number.on) xs or_else from_five a.levels (length xs / 3) [] fs) _ (sym c.shape.ensures ∙ c.in_ok-shape.was)
    ∙ unless-goes (range_refusal (numbers_of g.N.Number.on) xs) (from_five a.levels (length xs / 3) [] fs) _ (sym c.range.ensures ∙ c.in_ok-range.was))
    ∙ counts-ahead (numbers_of g.N.Number.on) a.levels fs xs
