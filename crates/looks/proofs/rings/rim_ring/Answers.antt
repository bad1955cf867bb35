use mathlib.Core.Path.{◌≡◌, sym, ap, ap₂, ◌∙◌}
use Prim.Native.Nat.{ℕ, ◌+◌, ◌-◌, ◌*◌, ◌≤◌, ◌<◌}
use native.Mathlib.Omega.{arith}
use mathlib.Core.List.{List}
use lib.ListN.{length, get_or, set, length-map, length-set}
use lib.Seq.{sets, length-sets}
use Rattle.lists.specs.Lists.{part}
use Rattle.rules.specs.Mesh.{onward, backward, corner, links, here, walk, passed, rim, ring, prev_corner}
use Rattle.faces.specs.Rings.{backs}
use Rattle.faces.proofs.Trails.{some-passed}
use Rattle.faces.proofs.Trips.{first-passed}
use Rattle.marks.specs.Marks.{marks_in}
use Rattle.creases.specs.Rings.{comes}
use Rattle.creases.proofs.Creases.{tally-few}
use Rattle.creases.proofs.Rims.{stored_at}
use Rattle.looks.proofs.Walks.{filled}
use Rattle.looks.proofs.Rims.{rim-is}
use Rattle.looks.proofs.rings.rim_ring.Lts
use Rattle.looks.proofs.rings.rim_ring.Reads
use Rattle.looks.proofs.rings.rim_ring.Tie
use Rattle.looks.proofs.rings.rim_ring.Goals as goal

abbrev Start : Type 0
Start = Lts.Start Tie.the-claims Reads.Pre Reads.Post Tie.handed_clauses

abbrev After-ring_back-r : Type 0
After-ring_back-r = Lts.After-ring_back Tie.the-claims Reads.Pre Reads.Post Tie.handed_clauses

-- a walk passes its first corner
begun : (c : Start) → (let a = c.args in 0 < length (passed (walk (prev_corner (links (part a.at (3 * a.nf) a.words.now)) a.end) a.nf (here a.end))))
begun c =
    let a = c.args in
    some-passed (prev_corner (links (part a.at (3 * a.nf) a.words.now)) a.end) a.nf a.end (filled a.words.now a.at a.nf c.requires.0 a.end c.requires.1)

-- what it found fits
sized : (k : After-ring_back-r) →
    (let a = k.args in
    (k.ring_back-r.result.n + 1 ≤ length a.out.now) × (k.ring_back-r.result.sharp ≤ k.ring_back-r.result.n))
sized k =
    let a = k.args in
    let w = a.words.now in
    let cs = passed (walk (prev_corner (links (part a.at (3 * a.nf) w)) a.end) a.nf (here a.end)) in
    let t = tally-few (comes (marks_in w a.marks a.nf)) cs in
    (omega (arith, k.ring_back-r.ensures.count, begun k.before.before.before.before.before, k.requires.2.few), omega (arith, k.ring_back-r.ensures.count, k.ring_back-r.ensures.sharp, t))

pub next_of-requires : goal.next_of-requires
next_of-requires c = (c.requires.0, c.requires.1)

pub bounds-out-0 : goal.bounds-out-0
bounds-out-0 c = omega (arith, begun c.before.before.before.before, c.requires.2.few)

pub ring_back-r-requires : goal.ring_back-r-requires
ring_back-r-requires c = let e = c.requires.2 in
    (c.requires.0, c.requires.1, record { stops = e.stops; few = omega (arith, e.few, length-set c.args.out.now 0 c.next_of.result) }, c.requires.3)

pub overflow_add-result-2 : goal.overflow_add-result-2
overflow_add-result-2 c = let h = sized c.before.before.before in omega (arith, h.0, h.1)

pub bounds-out-0-2 : goal.bounds-out-0-2
bounds-out-0-2 c = let h = sized c.before.before.before.before in
    rw (c.ring_back-r.ensures.ring, length-sets, length-set) (omega (arith, h.0))

pub bounds-out-m : goal.bounds-out-m
bounds-out-m c = let h = sized c.before.before.before.before.before in
    rw (c.ring_back-r.ensures.ring, length-sets, length-set) (omega (arith, h.0))

pub shape_of-out : goal.shape_of-out
shape_of-out c = rw (c.ring_back-r.ensures.ring, length-sets, length-set)

pub returns : goal.returns
returns c = let a = c.args in
    let w = a.words.now in
    let o = a.out.now in
    let fs = part a.at (3 * a.nf) w in
    let next = prev_corner (links fs) a.end in
    let cs = passed (walk next a.nf (here a.end)) in
    let vs = ring fs (rim cs) in
    let m = c.ring_back-r.result.n in
    let z : c.next_of.result ≡ corner fs (onward (get_or cs 0 0)) =
    c.next_of.ensures ∙ ap (λ (y : ℕ). corner fs (onward y)) (sym (first-passed next a.nf a.end (filled w a.at a.nf c.requires.0 a.end c.requires.1))) in
    let out = c.ring_back-r.ensures.ring ∙ ap (λ (y : ℕ). sets (set o 0 y) 1 (backs fs cs)) z in
    let long : m + 1 ≡ length vs = omega (arith, c.ring_back-r.ensures.count, length-map cs (λ s. corner fs (backward s))) in
    let fits : length vs ≤ length o = omega (arith, long, (sized c.before.before.before.before.before).0) in
    let last : m ≡ length vs - 1 = omega (arith, long) in record {
      ring = rim-is fs (marks_in w a.marks a.nf) cs _ long (ap (λ (y : ℕ). 2 + y) c.ring_back-r.ensures.sharp) (ap (λ (x : List ℕ). get_or x 0 0) out ∙ stored_at o vs 0 (omega (arith, long)) fits)
          (ap₂ (λ (x : List ℕ) (i : ℕ). get_or x i 0) out last ∙ stored_at o vs (length vs - 1) (omega (arith, long)) fits);
      out = out;
    }
