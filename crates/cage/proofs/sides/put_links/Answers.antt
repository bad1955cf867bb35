use native.Mathlib.Omega.{arith}
use Prim.Native.Nat.{ℕ, ◌≤◌, ◌<◌}
use mathlib.Core.Path.{◌≡◌, sym, ap, ◌∙◌}
use mathlib.Core.List.{map}
use lib.ListN.{length, get_or, take}
use lib.Seq.{sets, take-length}
use Rattle.lists.proofs.Stores.{copy_at}
use Rattle.rules.specs.Mesh.{onward, corner, links}
use Rattle.faces.specs.Words.{coded}
use Rattle.cage.specs.Chains.{last_below, leaves}
use Rattle.cage.proofs.Chains.{last-le, runs-from}
use Rattle.cage.proofs.Across.{link-word, length-words, coded-at}
use Rattle.cage.proofs.sides.put_links.Lts
use Rattle.cage.proofs.sides.put_links.Reads
use Rattle.cage.proofs.sides.put_links.Tie
use Rattle.cage.proofs.sides.put_links.Goals as goal

abbrev After-end_of-b : Type 0
After-end_of-b = Lts.After-end_of Tie.the-claims Reads.Pre Reads.Post goal.the-invariant-loop-s goal.the-decreases-loop-s Tie.handed_clauses

abbrev After-seek-t : Type 0
After-seek-t = Lts.After-seek Tie.the-claims Reads.Pre Reads.Post goal.the-invariant-loop-s goal.the-decreases-loop-s Tie.handed_clauses

below :
    (k : After-end_of-b) →
    k.end_of-b.result < length k.args.heads.now
below k =
    let p = k.requires.sizes.0.thirds in
    rw k.end_of-b.ensures (k.requires.sizes.1.each (onward k.loop-s.s) (omega (arith, k.loop-s-test.true)))

head :
    (k : After-end_of-b) →
    (let fs = k.args.indices.now in
    get_or k.args.heads.now k.end_of-b.result 0 ≡ last_below (leaves fs (corner fs (onward k.loop-s.s))) (length fs))
head k =
    let fs = k.args.indices.now in
    k.requires.chains.0.head k.end_of-b.result (below k) ∙ ap (λ (a : ℕ). last_below (leaves fs a) (length fs)) k.end_of-b.ensures

head-le :
    (k : After-end_of-b) →
    get_or k.args.heads.now k.end_of-b.result 0 ≤ length k.args.indices.now
head-le k =
    let fs = k.args.indices.now in
    rw (head k) (last-le (leaves fs (corner fs (onward k.loop-s.s))) (length fs))

found-link :
    (k : After-seek-t) →
    (let fs = k.args.indices.now in
    k.seek-t.result ≡ get_or (map coded (links fs)) k.loop-s.s 0)
found-link k =
    let fs = k.args.indices.now in
    let x = k.loop-s.s in
    let h = k.loop-s-test.true in
    k.seek-t.ensures
    ∙ runs-from fs (corner fs (onward x)) (corner fs x) (length fs) (get_or k.args.heads.now k.end_of-b.result 0) (head k.before.before)
    ∙ sym (link-word fs k.requires.once.each x h) ∙ sym (coded-at fs x h)

pub seek-t-requires : goal.seek-t-requires
seek-t-requires c = record { sizes = (c.requires.sizes.0, head-le c.before.before); nexts = c.requires.chains.1 }

pub loop-s-preserved : goal.loop-s-preserved
loop-s-preserved c = let fs = c.args.indices.now in
    let l = c.loop-s in
    let t = c.loop-s-test.true in
    let h : l.s < length (map coded (links fs)) = rw (length-words fs) t in
    rw (l.invariant, found-link c.before) (copy_at c.args.words.now (map coded (links fs)) c.args.at l.s 0 h)

pub returns : goal.returns
returns c = let fs = c.args.indices.now in
    let l = c.loop-s in
    let e : length (map coded (links fs)) ≡ l.s = length-words fs ∙ omega arith in
    l.invariant ∙ ap (sets c.args.words.now c.args.at) (ap (λ (n : ℕ). take n (map coded (links fs))) (sym e) ∙ take-length (map coded (links fs)))
