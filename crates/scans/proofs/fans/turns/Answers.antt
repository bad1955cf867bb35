use Rattle.std.specs.Prelude.{Ok}
use borrow.Author.Count.{below_more}
use native.Mathlib.Omega.{arith}
use Prim.Native.Nat.{ℕ, ◌<◌}
use mathlib.Core.Path.{◌≡◌, sym, ap, ◌∙◌}
use mathlib.Core.Bool.{Bool}
use mathlib.Core.List.{List}
use lib.Dec.{eqb, ltb}
use Rattle.lists.specs.Lists.{lowest, tally}
use Rattle.turns.specs.Turns.{most_valence}
use Rattle.rules.specs.Mesh.{valence}
use Rattle.rules.specs.Refusals.{check, parted, fans_of}
use Rattle.faces.specs.Rings.{turn_of, valence_of}
use Rattle.limits.specs.Verdicts.{verdict_of}
use Rattle.cage.specs.Fans.{place_of}
use Rattle.limits.proofs.Search.{or-stops, or-goes, lowest-here, lowest-nowhere}
use Rattle.cage.proofs.Search.{lowest-found, first_more, placed, unplaced}
use Rattle.cage.proofs.Rounds.{fan-at, short-is, wide_is}
use Rattle.scans.proofs.fans.turns.Lts
use Rattle.scans.proofs.fans.turns.Reads
use Rattle.scans.proofs.fans.turns.Tie
use Rattle.scans.proofs.fans.turns.Goals as goal

abbrev After-turn_at-t : Type 0
After-turn_at-t = Lts.After-turn_at Tie.the-claims Reads.Pre Reads.Post goal.the-invariant-loop-u goal.the-decreases-loop-u

abbrev After-short : Type 0
After-short = Lts.After-short Tie.the-claims Reads.Pre Reads.Post goal.the-invariant-loop-u goal.the-decreases-loop-u

abbrev After-wide : Type 0
After-wide = Lts.After-wide Tie.the-claims Reads.Pre Reads.Post goal.the-invariant-loop-u goal.the-decreases-loop-u

abbrev After-loop-u : Type 0
After-loop-u = Lts.After-loop Tie.the-claims Reads.Pre Reads.Post goal.the-invariant-loop-u goal.the-decreases-loop-u

abbrev crowd : ℕ → List ℕ → ℕ → Bool
crowd v fs x = ltb most_valence (valence (fans_of v fs x))

turned :
    (k : After-turn_at-t) →
    (k.turn_at-t.result ≡ turn_of (fans_of k.args.v k.args.indices.now k.loop-u.u))
turned k =
    k.turn_at-t.ensures ∙ ap turn_of (sym (fan-at k.args.v k.args.indices.now k.loop-u.u k.loop-u-test.true))

is-parted :
    (k : After-short) →
    (parted k.args.indices.now (fans_of k.args.v k.args.indices.now) k.loop-u.u ≡ k.short.result)
is-parted k =
    let fs = k.args.indices.now in
    let u = k.loop-u.u in
    sym (k.short.ensures ∙ rw (turned k.before.before, k.count_of.ensures) (short-is (fans_of k.args.v fs u) (tally (eqb u) fs)))

is_wide :
    (k : After-wide) →
    (k.wide.result ≡ ltb most_valence (valence (fans_of k.args.v k.args.indices.now k.loop-u.u)))
is_wide k =
    k.wide.ensures ∙ ap (λ t. ltb most_valence (valence_of t)) (turned k.before.before.before.before) ∙ wide_is (fans_of k.args.v k.args.indices.now k.loop-u.u)

no-ten :
    (k : After-loop-u) →
    (verdict_of (check 10 (lowest (parted k.args.indices.now (fans_of k.args.v k.args.indices.now)) k.args.v)) ≡ (Ok tt))
no-ten k =
    lowest-nowhere 10 (parted k.args.indices.now (fans_of k.args.v k.args.indices.now)) k.args.v (λ j h. k.loop-u.invariant.0 j (omega (arith, k.loop-u-test.false)))

-- the walks done
crowded :
    (k : After-loop-u) →
    (k.loop-u.crowded ≡ place_of (lowest (crowd k.args.v k.args.indices.now) k.args.v))
crowded k =
    let e : k.loop-u.u ≡ k.args.v = omega (arith, k.loop-u-test.false, k.loop-u.auto.u-end) in
    rw e at k.loop-u.invariant.1

pub returns-then-short : goal.returns-then-short
returns-then-short c = let fs = c.args.indices.now in
    let v = c.args.v in
    let l = c.loop-u in
    c.no.ensures ∙ sym (or-stops (check 10 (lowest (parted fs (fans_of v fs)) v)) _ _
    (lowest-here 10 (parted fs (fans_of v fs)) v l.u c.loop-u-test.true (is-parted c.before.before.before ∙ c.if-short.true) l.invariant.0))

pub loop-u-preserved : goal.loop-u-preserved
loop-u-preserved c = let fs = c.args.indices.now in
    let v = c.args.v in
    let l = c.loop-u in
    let h = c.loop-u-test.true in (
      below_more _ _ l.invariant.0 (is-parted c.before.before.before.before ∙ c.if-short.false),
      c.first-crowded.ensures ∙ rw (is_wide c.before.before, l.invariant.1) (first_more (crowd v fs) l.u),
    )

pub overflow_cast-u-in-Some : goal.overflow_cast-u-in-Some
overflow_cast-u-in-Some c = let fs = c.args.indices.now in
    let p = crowd c.args.v fs in
    let q = lowest-found p c.loop-u.u _ (placed (lowest p c.loop-u.u) _ (sym c.loop-u.invariant.1 ∙ c.in-Some.is)) in
    let b : c.in-Some.u < c.loop-u.u = q.0 in
    omega (arith, c.requires.2)

pub returns-in-Some : goal.returns-in-Some
returns-in-Some c = let fs = c.args.indices.now in
    let v = c.args.v in
    let q = placed (lowest (crowd v fs) v) _ (sym (crowded c.before.before.before) ∙ c.in-Some.is) in
    c.no-in-Some.ensures ∙ sym (or-goes (check 10 (lowest (parted fs (fans_of v fs)) v)) _ (no-ten c.before.before.before) ∙ rw q)

pub returns-in-None : goal.returns-in-None
returns-in-None c = let fs = c.args.indices.now in
    let v = c.args.v in
    let q = unplaced (lowest (crowd v fs) v) (sym (crowded c.before.before) ∙ c.in-None.is) in
    sym (or-goes (check 10 (lowest (parted fs (fans_of v fs)) v)) _ (no-ten c.before.before) ∙ rw q)
