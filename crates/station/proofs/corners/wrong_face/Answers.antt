use Prim.Native.Nat.{ℕ, ◌-◌, ◌≤◌, ◌<◌}
use mathlib.Core.Path.{◌≡◌, sym, ap, ◌∙◌}
use mathlib.Core.Bool.{Bool, true, not}
use native.Mathlib.Omega.{arith}
use lib.Dec.{T}
use borrow.Author.Rules.{rules}
use borrow.Author.Count.{below_more}
use borrow.Author.Tests.{not-false}
use Rattle.lists.proofs.Places.{lowest-is, lowest-all}
use Rattle.station.specs.Acceptance.{same_face}
use Rattle.station.specs.Far.{wrong_face}
use Rattle.station.proofs.corners.wrong_face.Goals as goal

holds : (b : Bool) → b ≡ true → T b
holds b e = rw e tt

right : (b : Bool) → b ≡ true → T (not (not b))
right b e = rw e tt

pub loop-f-init : goal.loop-f-init
loop-f-init c = (omega arith, λ j h. absurd (omega arith))

pub same_face-requires : goal.same_face-requires
same_face-requires c = let r = c.requires in (omega (arith, r.0), omega (arith, r.1.0))

pub overflow_cast-result : goal.overflow_cast-result
overflow_cast-result c = let r = c.requires in omega (arith, r.1.1)

pub returns-then-not-same_face : goal.returns-then-not-same_face
returns-then-not-same_face c = let a = c.args in
    let l = c.loop-f in
    let p = same_face a.ours.now a.theirs.now in
    sym (ap wrong_face (lowest-is (λ f. not (p f)) a.nf l.f (omega arith) (holds (not (p l.f)) (sym (ap not c.same_face.ensures) ∙ (ap not c.if-not-same_face.true))) (λ j h. right (p j) (l.invariant.1 j h))))

pub loop-f-preserved : goal.loop-f-preserved
loop-f-preserved c = (omega arith, below_more _ _ c.loop-f.invariant.1 (sym c.same_face.ensures ∙ c.if-not-same_face.false))

pub returns : goal.returns
returns c = let a = c.args in
    let l = c.loop-f in
    let p = same_face a.ours.now a.theirs.now in
    sym (ap wrong_face (lowest-all (λ f. not (p f)) a.nf (λ j h. right (p j) (l.invariant.1 j (omega arith)))))
