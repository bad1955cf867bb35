use native.Mathlib.Numerals.{add-one}
use borrow.Author.Count.{below_more}
use native.Mathlib.Omega.{arith}
use Prim.Native.Nat.{◌+◌}
use mathlib.Core.Path.{◌≡◌, sym, ap, ◌∙◌}
use lib.ListN.{get_or}
use Rattle.lists.specs.Lists.{part}
use Rattle.lists.proofs.Stores.{length_part}
use Rattle.rules.specs.Mesh.{Side, side, opposite}
use Rattle.looks.proofs.Found.{across-at, across-none, side-is}
use Rattle.looks.proofs.across.Lts
use Rattle.looks.proofs.across.Reads
use Rattle.looks.proofs.across.Tie
use Rattle.looks.proofs.across.Goals as goal

abbrev At-loop-t : Type 0
At-loop-t = Lts.At-loop Tie.the-claims Reads.Pre Reads.Post goal.the-invariant-loop-t goal.the-decreases-loop-t

-- the side asked for
mine :
    (k : At-loop-t) →
    (let a = k.args in
    ◌≡◌ {A = Side} (record { from = get_or a.words.now (a.at + a.s) 0; to = get_or a.words.now (a.at + k.onward.result) 0 }) (side (part a.at a.n a.words.now) a.s))
mine k =
    let a = k.args in
    side-is a.words.now a.at a.n a.s k.onward.result k.requires.1 k.requires.0.thirds k.onward.ensures

pub loop-t-init : goal.loop-t-init
loop-t-init c = (omega arith, λ j h. absurd (omega arith))

pub returns-then-comes_back : goal.returns-then-comes_back
returns-then-comes_back c = let a = c.args in
    let l = c.loop-t in
    let q = mine c.before.before.before.before in
    let e = length_part a.words.now a.at a.n c.requires.0.room in
    add-one l.t ∙ sym (across-at (part a.at a.n a.words.now) a.s (rw e c.requires.1) l.t (rw e c.loop-t-test.true)
    (ap (λ (z : Side). opposite z (side (part a.at a.n a.words.now) l.t)) (sym q) ∙ sym c.comes_back.ensures ∙ c.if-comes_back.true)
    (λ j h. ap (λ (z : Side). opposite z (side (part a.at a.n a.words.now) j)) (sym q) ∙ l.invariant.1 j h))

pub loop-t-preserved : goal.loop-t-preserved
loop-t-preserved c = (omega (arith, c.loop-t-test.true), below_more _ _ c.loop-t.invariant.1 (sym c.comes_back.ensures ∙ c.if-comes_back.false))

pub returns : goal.returns
returns c = let a = c.args in
    let l = c.loop-t in
    let q = mine c.before.before in
    let e = length_part a.words.now a.at a.n c.requires.0.room in
    sym (across-none (part a.at a.n a.words.now) a.s (rw e c.requires.1)
    (λ j h. ap (λ (z : Side). opposite z (side (part a.at a.n a.words.now) j)) (sym q) ∙ l.invariant.1 j (omega (arith, c.loop-t-test.false, rw e at h))))
