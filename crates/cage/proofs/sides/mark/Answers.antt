use native.Mathlib.Omega.{arith}
use Prim.Native.Nat.{ℕ, ◌-◌, ◌<◌}
use mathlib.Core.Path.{◌≡◌, refl, sym, ap, ◌∙◌}
use lib.ListN.{length, length-set, get_or}
use Rattle.rules.specs.Mesh.{onward, corner}
use Rattle.cage.specs.Chains.{last_below, leaves, fresh_mark, lower_of}
use Rattle.cage.proofs.Chains.{last-le}
use Rattle.cage.proofs.Marking.{third-on, chain-le, chain-leaves, lower-le, met-none, least-none, marked_more, met-more, least_more, repeat-more}
use Rattle.cage.proofs.sides.mark.Lts
use Rattle.cage.proofs.sides.mark.Reads
use Rattle.cage.proofs.sides.mark.Tie
use Rattle.cage.proofs.sides.mark.Goals as goal

abbrev In-loop-h : Type 0
In-loop-h = Lts.In-loop Tie.the-claims Reads.Pre Reads.Post goal.the-invariant-loop-h goal.the-decreases-loop-h Tie.handed_clauses

abbrev After-end_of-b : Type 0
After-end_of-b = Lts.After-end_of Tie.the-claims Reads.Pre Reads.Post goal.the-invariant-loop-h goal.the-decreases-loop-h Tie.handed_clauses

abbrev After-lower-seen : Type 0
After-lower-seen = Lts.After-lower Tie.the-claims Reads.Pre Reads.Post goal.the-invariant-loop-h goal.the-decreases-loop-h Tie.handed_clauses

-- the side on the chain: it leaves u, and ends where there is a mark
on : (k : In-loop-h) → corner k.args.indices.now (k.loop-h.h - 1) ≡ k.args.u
on k = k.loop-h.invariant.1 k.loop-h-test.true

room : (k : After-end_of-b) → k.end_of-b.result < length k.loop-h.marks
room k =
    let fs = k.args.indices.now in
    let l = k.loop-h in
    let n = l.invariant.2 in
    let h : l.h - 1 < length fs = omega (arith, l.invariant.0, k.loop-h-test.true) in
    rw k.end_of-b.ensures (omega (arith, k.requires.sizes.1.each (onward (l.h - 1)) (third-on fs k.requires.sizes.0 (l.h - 1) h)))

-- the next one
nxt :
    (k : After-lower-seen) →
    (let a = k.args in
    get_or a.nexts.now (k.loop-h.h - 1) 0 ≡ last_below (leaves a.indices.now a.u) (k.loop-h.h - 1))
nxt k =
    let fs = k.args.indices.now in
    let l = k.loop-h in
    k.requires.chain.0.next (l.h - 1) (omega (arith, l.invariant.0, k.loop-h-test.true)) ∙ ap (λ (x : ℕ). last_below (leaves fs x) (l.h - 1)) (on k.before.before.before.before)

seen-is :
    (k : After-lower-seen) →
    (let a = k.args in
    let l = k.loop-h in
    k.lower-seen.result ≡ lower_of l.seen (fresh_mark a.indices.now a.u (get_or l.marks k.end_of-b.result 0)) l.h)
seen-is k = let l = k.loop-h in k.lower-seen.ensures ∙ ap (λ (m : ℕ). lower_of l.seen m l.h) k.fresh-m.ensures

pub loop-h-init : goal.loop-h-init
loop-h-init c = let a = c.args in
    let fs = a.indices.now in
    let e = c.requires.chain.1 in (
      rw e (last-le (leaves fs a.u) (length fs)),
      chain-leaves fs a.u (length fs) a.head e,
      refl,
      c.requires.marks.0,
      met-none fs a.u a.head a.marks.now e,
      omega arith,
      c.requires.marks.1,
      least-none fs a.u a.head a.low e,
    )

pub loop-h-smaller : goal.loop-h-smaller
loop-h-smaller c = let a = c.args in
    omega (arith, chain-le a.indices.now a.u c.loop-h.h _ (nxt c.before.before), c.loop-h-test.true)

pub loop-h-preserved : goal.loop-h-preserved
loop-h-preserved c = let a = c.args in
    let fs = a.indices.now in
    let l = c.loop-h in
    let t = c.loop-h-test.true in
    let v = l.invariant in
    let b = c.end_of-b.result in
    let r = room c.before.before.before.before.before in
    let e = sym c.end_of-b.ensures in
    let o = on c.before.before.before.before.before.before in
    let n = nxt c.before.before in
    let m = get_or a.nexts.now (l.h - 1) 0 in
    let q = seen-is c.before.before in (
      omega (arith, chain-le fs a.u l.h m n, v.0),
      chain-leaves fs a.u (l.h - 1) m n,
      length-set l.marks b l.h ∙ v.2,
      marked_more fs l.marks b l.h r t v.0 e v.3,
      met-more fs l.marks b l.h r t v.0 e a.u m o n v.4,
      rw q (omega (arith, lower-le l.seen (fresh_mark fs a.u (get_or l.marks b 0)) l.h, v.5)),
      rw q (repeat-more fs l.marks b l.h r t v.0 e a.u l.seen o v.3 v.6),
      rw q (least_more fs l.marks b l.h r t v.0 e a.u m o n l.seen v.4 v.7),
    )
