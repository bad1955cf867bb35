use Rattle.std.specs.Prelude.{Ok}
use Prim.Native.Nat.{◌/◌}
use mathlib.Core.Path.{sym, ◌∙◌}
use lib.ListN.{length}
use lib.Dec.{leb}
use Rattle.lists.specs.Lists.{find, lowest}
use Rattle.rules.specs.Refusals.{check, ◌or_else◌, equal_corners}
use Rattle.cage.specs.Sizes.{cage_counts, from_seven}
use Rattle.cage.proofs.Stages.{judged-five, below_of, apart_of, unless-no, unless-goes}
use Rattle.limits.proofs.Search.{refused}
use Rattle.scans.proofs.judge_faces.Goals as goal

pub judge_sides-requires : goal.judge_sides-requires
judge_sides-requires c = let fs = c.args.indices.now in
    let e = sym c.beyond.ensures ∙ c.in_ok-beyond.was in
    let q = sym c.flat.ensures ∙ c.in_ok-flat.was in
    (c.requires.0, c.requires.1, c.requires.2, below_of c.args.v fs e, apart_of fs c.requires.2 q)

pub returns-in_err-beyond : goal.returns-in_err-beyond
returns-in_err-beyond c = let a = c.args in
    let fs = a.indices.now in
    refused _ _ _ c.from_residual.ensures.1 (unless-no (check 5 (find (λ u. leb a.v u) fs)) (check 6 (lowest (equal_corners fs) (length fs / 3)) or_else from_seven a.levels a.v a.sharp.now fs) (Ok (cage_counts a.levels a.v fs)) _ (sym c.beyond.ensures ∙ c.in_err-beyond.was)
    ∙ sym (judged-five a.levels a.v a.sharp.now fs))

pub returns-in_err-flat : goal.returns-in_err-flat
returns-in_err-flat c = let a = c.args in
    let fs = a.indices.now in
    refused _ _ _ c.from_residual-in_err-flat.ensures.1 (unless-no (check 6 (lowest (equal_corners fs) (length fs / 3))) (from_seven a.levels a.v a.sharp.now fs) (Ok (cage_counts a.levels a.v fs)) _ (sym c.flat.ensures ∙ c.in_err-flat.was)
    ∙ sym (judged-five a.levels a.v a.sharp.now fs ∙ unless-goes (check 5 (find (λ u. leb a.v u) fs)) (check 6 (lowest (equal_corners fs) (length fs / 3)) or_else from_seven a.levels a.v a.sharp.now fs) (Ok (cage_counts a.levels a.v fs)) (sym c.beyond.ensures ∙ c.in_ok-beyond.was)))

pub returns : goal.returns
returns c = let a = c.args in
    let fs = a.indices.now in
    c.judge_sides.ensures
    ∙ sym (judged-five a.levels a.v a.sharp.now fs
    ∙ unless-goes (check 5 (find (λ u. leb a.v u) fs)) (check 6 (lowest (equal_corners fs) (length fs / 3)) or_else from_seven a.levels a.v a.sharp.now fs) (Ok (cage_counts a.levels a.v fs)) (sym c.beyond.ensures ∙ c.in_ok-beyond.was)
    ∙ unless-goes (check 6 (lowest (equal_corners fs) (length fs / 3))) (from_seven a.levels a.v a.sharp.now fs) (Ok (cage_counts a.levels a.v fs)) (sym c.flat.ensures ∙ c.in_ok-flat.was))
