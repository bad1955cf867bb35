use Prim.Native.Nat.{ℕ, ◌*◌, ◌/◌}
use mathlib.Core.Path.{◌≡◌, sym, ap, ◌∙◌}
use mathlib.Core.Bool.{not}
use mathlib.Core.List.{List}
use native.Mathlib.Omega.{arith}
use lib.ListN.{length}
use borrow.Author.Rules.{rules}
use borrow.Author.Tests.{not-false}
use Rattle.lists.specs.Lists.{lowest}
use Rattle.rules.specs.Position.{whole}
use Rattle.rules.specs.Levels.{last, exact_limits}
use Rattle.station.specs.Acceptance.{same_face}
use Rattle.station.specs.Far.{wrong_face}
use Rattle.station.proofs.Far.{not-true}
use Rattle.station.proofs.Whole.{faces-differ, points-differ, a-face, the_rest}
use Rattle.station.proofs.hold.Lts
use Rattle.station.proofs.hold.Reads
use Rattle.station.proofs.hold.Tie
use Rattle.station.proofs.hold.Goals as goal

abbrev Start : Type 0
Start = Lts.Start Tie.the-claims Reads.Pre Reads.Post Tie.handed_clauses

abbrev After-wrong_face-v : Type 0
After-wrong_face-v = Lts.After-wrong_face Tie.the-claims Reads.Pre Reads.Post Tie.handed_clauses

pub overflow_mul-nf : goal.overflow_mul-nf
overflow_mul-nf c = let r = c.requires in omega (arith, r.ours.1.1)

-- our faces are as many as is said
size : (s : Start) → length (last whole s.args.levels s.args.indices.now s.args.coords.now).mesh.faces ≡ 3 * s.args.nf
size s = sym (ap (λ (l : List ℕ). length l) s.requires.ours.0) ∙ s.requires.ours.1.0

pub returns-then-theirs-nf : goal.returns-then-theirs-nf
returns-then-theirs-nf c = let a = c.args in
    faces-differ a.t (last whole a.levels a.indices.now a.coords.now).mesh.faces (exact_limits a.levels a.indices.now a.coords.now) a.theirs.now a.ys.now (λ h. c.if-theirs-nf.true (h ∙ size c.before.before.before.before.before))

pub overflow_mul-nv : goal.overflow_mul-nv
overflow_mul-nv c = let r = c.requires in omega (arith, r.count.1)

pub returns-then-ys-nv : goal.returns-then-ys-nv
returns-then-ys-nv c = let a = c.args in
    points-differ a.t (last whole a.levels a.indices.now a.coords.now).mesh.faces (exact_limits a.levels a.indices.now a.coords.now) a.theirs.now a.ys.now (λ h. c.if-ys-nv.true (h ∙ sym c.requires.count.0))

pub wrong_face-v-requires : goal.wrong_face-v-requires
wrong_face-v-requires c = let r = c.requires in
    (omega (arith, r.ours.1.0), (omega (arith, c.if-theirs-nf.false), omega (arith, r.ours.1.1)))

faces : (k : After-wrong_face-v) →
    (let fs = (last whole k.args.levels k.args.indices.now k.args.coords.now).mesh.faces in
    k.wrong_face-v.result ≡ wrong_face (lowest (λ f. not (same_face fs k.args.theirs.now f)) (length fs / 3)))
faces k =
    let a = k.args in
    let fs = (last whole a.levels a.indices.now a.coords.now).mesh.faces in
    let q : a.nf ≡ length fs / 3 = omega (arith, size k.before.before.before.before.before.before) in
    k.wrong_face-v.ensures
    ∙ ap (λ (o : List ℕ). wrong_face (lowest (λ f. not (same_face o a.theirs.now f)) a.nf)) k.requires.ours.0
    ∙ ap (λ (n : ℕ). wrong_face (lowest (λ f. not (same_face fs a.theirs.now f)) n)) q

pub returns-then-not-passes : goal.returns-then-not-passes
returns-then-not-passes c = let a = c.args in
    a-face a.t (last whole a.levels a.indices.now a.coords.now).mesh.faces (exact_limits a.levels a.indices.now a.coords.now) a.theirs.now a.ys.now
    (c.if-theirs-nf.false ∙ sym (size c.before.before.before.before.before.before.before.before.before)) (c.if-ys-nv.false ∙ c.requires.count.0) c.wrong_face-v.result (faces c.before.before.before) (sym c.passes.ensures ∙ not-true c.passes.result (ap not c.if-not-passes.true))

pub far_cage-requires : goal.far_cage-requires
far_cage-requires c = record { cage = c.requires.cage; claim = c.if-ys-nv.false ∙ c.requires.count.0 }

pub returns : goal.returns
returns c = let a = c.args in
    the_rest a.t (last whole a.levels a.indices.now a.coords.now).mesh.faces (exact_limits a.levels a.indices.now a.coords.now) a.theirs.now a.ys.now
    (c.if-theirs-nf.false ∙ sym (size c.before.before.before.before.before.before.before.before.before.before)) (c.if-ys-nv.false ∙ c.requires.count.0) c.wrong_face-v.result c.far_cage.result (faces c.before.before.before.before) (sym c.passes.ensures ∙ not-false c.passes.result (ap not c.if-not-passes.false)) c.far_cage.ensures
