use borrow.Author.Count.{below_more}
use native.Mathlib.Omega.{arith}
use Prim.Native.Nat.{◌*◌, ◌/◌, ◌<◌}
use mathlib.Core.Path.{◌≡◌, sym, ap, ◌∙◌}
use mathlib.Core.Option.{none}
use lib.ListN.{length, get_or}
use Rattle.lists.specs.Lists.{lowest, found}
use Rattle.rules.specs.Mesh.{links}
use Rattle.rules.specs.Refusals.{same_set}
use Rattle.faces.specs.Words.{link_of}
use Rattle.cage.specs.Chains.{folds_back}
use Rattle.limits.proofs.Search.{lowest-here, lowest-nowhere}
use Rattle.cage.proofs.Across.{link-coded, word-at, word-le, folds_is}
use Rattle.cage.proofs.list.doubled.Lts
use Rattle.cage.proofs.list.doubled.Reads
use Rattle.cage.proofs.list.doubled.Tie
use Rattle.cage.proofs.list.doubled.Goals as goal

abbrev After-folds_back : Type 0
After-folds_back = Lts.After-folds_back Tie.the-claims Reads.Pre Reads.Post goal.the-invariant-loop-f goal.the-decreases-loop-f Tie.handed_clauses

folds :
    (k : After-folds_back) →
    (let fs = k.args.indices.now in
    let f = k.loop-f.f in
    found (lowest (same_set fs f) f) ≡ k.folds_back.result)
folds k =
    let fs = k.args.indices.now in
    let w = k.args.words.now in
    let f = k.loop-f.f in
    let p = k.requires.sizes.0.thirds in
    let n : length fs ≡ 3 * (length fs / 3) = omega arith in
    let h : f < length fs / 3 = omega arith in
    folds_is fs (length fs / 3) n (λ x l. k.requires.once.0.each x (omega arith)) k.requires.once.1.each f h
    ∙ ap (folds_back fs f) (sym (link-coded (get_or (links fs) (3 * f) none)) ∙ ap link_of (sym (word-at fs w k.requires.links (3 * f) (omega arith))))
    ∙ sym k.folds_back.ensures

pub folds_back-requires : goal.folds_back-requires
folds_back-requires c = let fs = c.args.indices.now in
    let f = c.loop-f.f in
    (c.requires.sizes.0, omega arith, word-le fs c.args.words.now c.requires.links (3 * f) (omega arith))

pub returns-then-folds_back : goal.returns-then-folds_back
returns-then-folds_back c = let fs = c.args.indices.now in
    let l = c.loop-f in
    c.no.ensures ∙ sym (lowest-here 8 (λ f. found (lowest (same_set fs f) f)) (length fs / 3) l.f (omega arith) (folds c.before.before.before ∙ c.if-folds_back.true) l.invariant)

pub loop-f-preserved : goal.loop-f-preserved
loop-f-preserved c = below_more _ _ c.loop-f.invariant (folds c.before.before ∙ c.if-folds_back.false)

pub returns : goal.returns
returns c = let fs = c.args.indices.now in
    sym (lowest-nowhere 8 (λ f. found (lowest (same_set fs f) f)) (length fs / 3) (λ j h. c.loop-f.invariant j (omega arith)))
