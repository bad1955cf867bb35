use mathlib.Core.Path.{◌≡◌, refl, sym, ap, ◌∙◌}
use Prim.Native.Nat.{ℕ, suc, ◌+◌, ◌-◌, ◌*◌}
use native.Mathlib.Omega.{arith}
use native.Mathlib.Numerals.{add-one}
use mathlib.Core.List.{List}
use lib.ListN.{length, set, take, length-map, length-set}
use lib.Seq.{sets}
use Rattle.lists.specs.Lists.{part}
use Rattle.rules.specs.Mesh.{onward, corner, here, Stop, closed, ended, long, walk, passed, next_corner}
use Rattle.faces.specs.Words.{links_in}
use Rattle.faces.specs.Rings.{step_of, trip_by, trip_of, inners}
use Rattle.faces.specs.declared.walks.Trip.TheVariants as trip
use Rattle.faces.proofs.Links.{next-at, next-below}
use Rattle.faces.proofs.Trails.{some-passed, filled, from-corner, then-here, then-home, then-off}
use Rattle.faces.proofs.Trips.{first-passed, trip_from, trip_on, trip-starts, trip-turn}
use Rattle.faces.proofs.Gathered.{store-more, store-all, inner-at}
use Rattle.faces.proofs.rings.gather_on.Lts
use Rattle.faces.proofs.rings.gather_on.Reads
use Rattle.faces.proofs.rings.gather_on.Tie
use Rattle.faces.proofs.rings.gather_on.Goals as goal

abbrev After-next_vert_at : Type 0
After-next_vert_at = Lts.After-next_vert_at Tie.the-claims Reads.Pre Reads.Post goal.the-invariant-loop-n goal.the-decreases-loop-n Tie.handed_clauses

abbrev After-next_corner : Type 0
After-next_corner = Lts.After-next_corner Tie.the-claims Reads.Pre Reads.Post goal.the-invariant-loop-n goal.the-decreases-loop-n Tie.handed_clauses

pub loop-n-init : goal.loop-n-init
loop-n-init c = let a = c.args in
    let p = c.requires.walk.0 in
    let next = next_corner (links_in a.words.now a.links (3 * a.nf)) a.s in
    let h = filled a.words.now a.links a.nf a.s p in
    (p.start, omega arith, trip-starts next a.nf a.s, some-passed next a.nf a.s h, sym (first-passed next a.nf a.s h), refl, refl)

pub next_vert_at-requires : goal.next_vert_at-requires
next_vert_at-requires c = let a = c.args in
    let p = c.requires in
    (from-corner a.words.now a.links a.nf a.s p.walk.0 c.loop-n.at c.loop-n.invariant.0, p.walk.1, p.walk.2)

pub bounds-out-n : goal.bounds-out-n
bounds-out-n c = let l = c.loop-n in
    omega (arith, l.invariant.3, l.invariant.5, c.requires.few.few)

-- one vertex more
stored :
    (k : After-next_vert_at) →
    (let l = k.loop-n in
    let a = k.args in
    let w = a.words.now in
    let cs = passed (walk (next_corner (links_in w a.links (3 * a.nf)) a.s) a.nf (here a.s)) in
    set l.out l.n k.next_vert_at.result ≡ sets a.out.now 0 (take (l.n + 1) (inners (part a.corners (3 * a.nf) w) cs)))
stored k =
    let l = k.loop-n in
    let a = k.args in
    let w = a.words.now in
    let cs = passed (walk (next_corner (links_in w a.links (3 * a.nf)) a.s) a.nf (here a.s)) in
    let fs = part a.corners (3 * a.nf) w in
    ap (λ (o : List ℕ). set o l.n k.next_vert_at.result) l.invariant.6
    ∙ store-more a.out.now (inners fs cs) l.n k.next_vert_at.result (rw (length-map cs (λ s. corner fs (onward s))) l.invariant.3)
    (inner-at w a.corners a.nf cs l.n l.at l.invariant.3 l.invariant.4 l.invariant.0 ∙ sym k.next_vert_at.ensures)

-- the step as the definition takes it
stepped :
    (k : After-next_corner) →
    (let a = k.args in
    step_of (next_corner (links_in a.words.now a.links (3 * a.nf)) a.s k.loop-n.at) ≡ k.next_corner.result)
stepped k =
    let a = k.args in
    let l = k.loop-n in
    let p = k.requires.walk.0 in
    ap step_of (next-at a.words.now a.links a.nf a.s p a.s l.at l.invariant.0) ∙ sym k.next_corner.ensures

-- what the walk finds, by the step
turned :
    (k : After-next_corner) →
    (let a = k.args in
    let l = k.loop-n in
    let next = next_corner (links_in a.words.now a.links (3 * a.nf)) a.s in
    trip_of (walk next a.nf (here a.s)) ≡
    trip_on (λ t. trip_from (l.n + 1) 0 (walk next (a.nf - (l.n + 1)) (here t))) (l.n + 1) l.at k.next_corner.result)
turned k =
    let a = k.args in
    let l = k.loop-n in
    let next = next_corner (links_in a.words.now a.links (3 * a.nf)) a.s in
    l.invariant.2 ∙ trip-turn next a.nf l.n l.at (omega arith) ∙
    ap (trip_on (λ t. trip_from (l.n + 1) 0 (walk next (a.nf - (l.n + 1)) (here t))) (l.n + 1) l.at) (stepped k)

-- all of them
gathered :
    (k : After-next_corner) →
    (let a = k.args in
    let l = k.loop-n in
    let w = a.words.now in
    let cs = passed (walk (next_corner (links_in w a.links (3 * a.nf)) a.s) a.nf (here a.s)) in
    suc l.n ≡ length cs → set l.out l.n k.next_vert_at.result ≡ sets a.out.now 0 (inners (part a.corners (3 * a.nf) w) cs))
gathered k q =
    let a = k.args in
    let l = k.loop-n in
    let w = a.words.now in
    let cs = passed (walk (next_corner (links_in w a.links (3 * a.nf)) a.s) a.nf (here a.s)) in
    let fs = part a.corners (3 * a.nf) w in
    stored k.before ∙ store-all a.out.now (inners fs cs) 0 (l.n + 1) (omega (arith, length-map cs (λ s. corner fs (onward s))))

same :
    (k : After-next_corner) →
    (let l = k.loop-n in
    length (set l.out l.n k.next_vert_at.result) ≡ length k.args.out.now)
same k = let l = k.loop-n in length-set l.out l.n k.next_vert_at.result ∙ l.invariant.5

pub loop-n-preserved : goal.loop-n-preserved
loop-n-preserved c = let k = c.before.before in
    let a = k.args in
    let p = k.requires in
    let l = k.loop-n in
    let w = a.words.now in
    let next = next_corner (links_in w a.links (3 * a.nf)) a.s in
    let d = then-here next a.nf a.s p.few.stops l.n l.at l.invariant.3 l.invariant.4 c.in-Here.t (stepped k ∙ c.in-Here.is) in (
      next-below w a.links a.nf a.s p.walk.0 a.s l.at c.in-Here.t l.invariant.0 (stepped k ∙ c.in-Here.is),
      omega arith,
      rw c.in-Here.is at (turned k),
      rw add-one d.0,
      rw add-one d.1,
      same k,
      stored k.before,
    )

pub shape_of-out-in-Home : goal.shape_of-out-in-Home
shape_of-out-in-Home c = same c.before.before

pub returns-in-Home : goal.returns-in-Home
returns-in-Home c = let k = c.before.before in
    let a = k.args in
    let p = k.requires in
    let l = k.loop-n in
    let next = next_corner (links_in a.words.now a.links (3 * a.nf)) a.s in
    record { trip = sym (rw c.in-Home.is at (turned k)); ring = gathered k (then-home next a.nf a.s p.few.stops l.n l.at l.invariant.3 l.invariant.4 (stepped k ∙ c.in-Home.is)) }

pub shape_of-out-in-Off : goal.shape_of-out-in-Off
shape_of-out-in-Off c = same c.before.before

pub returns-in-Off : goal.returns-in-Off
returns-in-Off c = let k = c.before.before in
    let a = k.args in
    let p = k.requires in
    let l = k.loop-n in
    let next = next_corner (links_in a.words.now a.links (3 * a.nf)) a.s in
    record { trip = sym (rw c.in-Off.is at (turned k)); ring = gathered k (then-off next a.nf a.s p.few.stops l.n l.at l.invariant.3 l.invariant.4 (stepped k ∙ c.in-Off.is)) }
