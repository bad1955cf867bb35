use native.Mathlib.Omega.{arith}
use Prim.Native.Nat.{ℕ, ◌+◌, ◌-◌, ◌<◌}
use mathlib.Core.Path.{◌≡◌, ap, ◌∙◌}
use mathlib.Core.Option.{none}
use lib.ListN.{length, get_or}
use Rattle.rules.specs.Mesh.{backward, corner, links}
use Rattle.faces.specs.Words.{coded}
use Rattle.cage.specs.Chains.{last_below, leaves, fresh_mark, Once}
use Rattle.cage.proofs.Chains.{last-le}
use Rattle.cage.proofs.Marking.{third_back, chain-le, chain-leaves, coming-none, coming-more, fresh-link}
use Rattle.cage.proofs.sides.put_coming.Lts
use Rattle.cage.proofs.sides.put_coming.Reads
use Rattle.cage.proofs.sides.put_coming.Tie
use Rattle.cage.proofs.sides.put_coming.Goals as goal

abbrev In-loop-h : Type 0
In-loop-h = Lts.In-loop Tie.the-claims Reads.Pre Reads.Post goal.the-invariant-loop-h goal.the-decreases-loop-h Tie.handed_clauses

abbrev After-backward-t : Type 0
After-backward-t = Lts.After-backward Tie.the-claims Reads.Pre Reads.Post goal.the-invariant-loop-h goal.the-decreases-loop-h Tie.handed_clauses

abbrev After-fresh-m : Type 0
After-fresh-m = Lts.After-fresh Tie.the-claims Reads.Pre Reads.Post goal.the-invariant-loop-h goal.the-decreases-loop-h Tie.handed_clauses

-- the corner on the chain, and the side that comes to it
corner-below : (k : In-loop-h) → k.loop-h.h - 1 < length k.args.indices.now
corner-below k = omega (arith, k.loop-h.invariant.0, k.loop-h-test.true)

side-below : (k : After-backward-t) → k.backward-t.result < length k.args.indices.now
side-below k =
    rw k.backward-t.ensures (third_back k.args.indices.now k.requires.sizes.0 (k.loop-h.h - 1) (corner-below k.before))

-- where its word stands
word_room : (k : After-fresh-m) → k.args.at + k.backward-t.result < length k.loop-h.words
word_room k = omega (arith, k.requires.sizes.2, side-below k.before.before.before, k.loop-h.invariant.2.size)

word-is :
    (k : After-fresh-m) →
    (let fs = k.args.indices.now in
    Once fs → k.fresh-m.result ≡ coded (get_or (links fs) (backward (k.loop-h.h - 1)) none))
word-is k o =
    let fs = k.args.indices.now in
    let l = k.loop-h in
    k.fresh-m.ensures
    ∙ ap (λ (t : ℕ). fresh_mark fs k.args.u (get_or k.args.marks.now (corner fs t) 0)) k.backward-t.ensures
    ∙ fresh-link fs k.args.marks.now k.args.u k.requires.sizes.0 o k.requires.marks.0 k.requires.marks.1 (l.h - 1) (corner-below k.before.before.before.before) (l.invariant.1 k.loop-h-test.true)

-- the next one
nxt :
    (k : After-fresh-m) →
    (let a = k.args in
    get_or a.nexts.now (k.loop-h.h - 1) 0 ≡ last_below (leaves a.indices.now a.u) (k.loop-h.h - 1))
nxt k =
    let fs = k.args.indices.now in
    let l = k.loop-h in
    k.requires.chain.0.next (l.h - 1) (corner-below k.before.before.before.before) ∙ ap (λ (x : ℕ). last_below (leaves fs x) (l.h - 1)) (l.invariant.1 k.loop-h-test.true)

pub loop-h-init : goal.loop-h-init
loop-h-init c = let a = c.args in
    let fs = a.indices.now in
    let e = c.requires.chain.1 in
    (rw e (last-le (leaves fs a.u) (length fs)), chain-leaves fs a.u (length fs) a.head e, coming-none fs a.at a.u a.head a.words.now e)

pub loop-h-smaller : goal.loop-h-smaller
loop-h-smaller c = let a = c.args in
    omega (arith, chain-le a.indices.now a.u c.loop-h.h _ (nxt c.before.before), c.loop-h-test.true)

pub loop-h-preserved : goal.loop-h-preserved
loop-h-preserved c = let a = c.args in
    let fs = a.indices.now in
    let l = c.loop-h in
    let t = c.loop-h-test.true in
    let v = l.invariant in
    let n = nxt c.before.before in
    let m = get_or a.nexts.now (l.h - 1) 0 in
    let e = c.backward-t.ensures in (
      omega (arith, chain-le fs a.u l.h m n, v.0),
      chain-leaves fs a.u (l.h - 1) m n,
      rw e (coming-more fs a.at a.u l.h m c.fresh-m.result a.words.now l.words t v.0 (v.1 t) n (rw e at (word_room c.before.before)) (word-is c.before.before) v.2),
    )
