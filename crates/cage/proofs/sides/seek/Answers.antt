use native.Mathlib.Omega.{arith}
use Prim.Native.Nat.{ℕ, ◌-◌, ◌≤◌}
use mathlib.Core.Path.{◌≡◌, refl, sym, ap, ◌∙◌}
use lib.ListN.{get_or}
use Rattle.rules.specs.Mesh.{onward, corner}
use Rattle.cage.specs.Chains.{last_below, leaves, runs}
use lib.Dec.{eqb}
use Rattle.lists.specs.Lists.{pick}
use borrow.Author.Tests.{eq-eqb, ne_eqb, eqb-true}
use Rattle.cage.proofs.Chains.{last-le, last-is, last_none, runs-turn, runs-next}
use Rattle.cage.proofs.sides.seek.Lts
use Rattle.cage.proofs.sides.seek.Reads
use Rattle.cage.proofs.sides.seek.Tie
use Rattle.cage.proofs.sides.seek.Goals as goal

abbrev After-end_of : Type 0
After-end_of = Lts.After-end_of Tie.the-claims Reads.Pre Reads.Post goal.the-invariant-loop-h goal.the-decreases-loop-h Tie.handed_clauses

turn :
    (k : After-end_of) →
    (let a = k.args in
    let fs = a.indices.now in
    let x = corner fs (a.head - 1) in
    let h = k.loop-h.h in
    last_below (runs fs x a.b) a.head ≡ pick (eqb a.b (corner fs (onward (h - 1)))) h (last_below (runs fs x a.b) (h - 1)))
turn k =
    let a = k.args in
    let l = k.loop-h in
    l.invariant.1 ∙ runs-turn a.indices.now (corner a.indices.now (a.head - 1)) a.b l.h k.loop-h-test.true (l.invariant.2 k.loop-h-test.true)

nxt :
    (k : After-end_of) →
    (let a = k.args in
    let fs = a.indices.now in
    let h = k.loop-h.h in
    get_or a.nexts.now (h - 1) 0 ≡ last_below (leaves fs (corner fs (a.head - 1))) (h - 1))
nxt k =
    let fs = k.args.indices.now in
    let l = k.loop-h in
    let t = k.loop-h-test.true in
    k.requires.nexts.next (l.h - 1) (omega (arith, k.requires.sizes.1, l.invariant.0)) ∙ ap (λ (x : ℕ). last_below (leaves fs x) (l.h - 1)) (l.invariant.2 t)

nxt-le :
    (k : After-end_of) →
    get_or k.args.nexts.now (k.loop-h.h - 1) 0 ≤ k.loop-h.h - 1
nxt-le k =
    let a = k.args in
    rw (nxt k) (last-le (leaves a.indices.now (corner a.indices.now (a.head - 1))) (k.loop-h.h - 1))

pub returns-then-end_of-b : goal.returns-then-end_of-b
returns-then-end_of-b c = sym (turn c.before.before ∙ rw (eq-eqb _ _ (sym c.if-end_of-b.true ∙ c.end_of.ensures)))

pub loop-h-smaller : goal.loop-h-smaller
loop-h-smaller c = omega (arith, nxt-le c.before.before.before)

pub loop-h-preserved : goal.loop-h-preserved
loop-h-preserved c = let a = c.args in
    let fs = a.indices.now in
    let x = corner fs (a.head - 1) in
    let h = c.loop-h.h in
    let n = nxt c.before.before.before in (
      omega (arith, nxt-le c.before.before.before, c.loop-h.invariant.0),
      rw n (turn c.before.before.before ∙ rw (ne_eqb _ _ (λ e. c.if-end_of-b.false (c.end_of.ensures ∙ sym e))) (runs-next fs x a.b (h - 1) _ refl)),
      λ l. rw n (eqb-true _ _ (last-is (leaves fs x) (h - 1) (rw n at l))),
    )

pub returns : goal.returns
returns c = let a = c.args in
    let e : c.loop-h.h ≡ 0 = omega arith in
    sym (rw e at c.loop-h.invariant.1 ∙ last_none (runs a.indices.now (corner a.indices.now (a.head - 1)) a.b))
