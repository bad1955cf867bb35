use mathlib.Core.Path.{◌≡◌, refl, sym, ap, ap₂, ◌∙◌}
use mathlib.Core.Bool.{Bool}
use Prim.Native.Nat.{ℕ, suc, ◌+◌, ◌-◌, ◌*◌}
use native.Mathlib.Omega.{arith}
use native.Mathlib.Numerals.{add-one}
use mathlib.Core.List.{List}
use lib.ListN.{length, set, take, length-map, length-set}
use lib.Seq.{sets}
use Rattle.lists.specs.Lists.{part, pick, keep}
use Rattle.lists.proofs.Stores.{get_d_part}
use Rattle.rules.specs.Sharp.{sharp}
use Rattle.rules.specs.Mesh.{onward, corner, here, Stop, closed, ended, long, walk, passed, next_corner}
use Rattle.rules.proofs.Sides.{on_below}
use Rattle.faces.specs.Words.{links_in}
use Rattle.faces.specs.Rings.{step_of, trip_by, trip_of, inners}
use Rattle.faces.specs.declared.walks.Trip.TheVariants as trip
use Rattle.faces.proofs.Links.{next-at, next-below}
use Rattle.faces.proofs.Trails.{some-passed, filled, from-corner, then-here, then-home, then-off}
use Rattle.faces.proofs.Trips.{first-passed, trip_from, trip_on, trip-starts, trip-turn}
use Rattle.faces.proofs.Gathered.{store-more, store-all, inner-at}
use Rattle.marks.specs.Marks.{marks_in}
use Rattle.marks.proofs.Marks.{mark-at}
use Rattle.creases.specs.Rings.{met_of, noted}
use Rattle.creases.specs.declared.rings.Met.{Met}
use Rattle.creases.proofs.Creases.{met-few, met-more, met_all}
use Rattle.creases.proofs.rings.sharp_on.Lts
use Rattle.creases.proofs.rings.sharp_on.Reads
use Rattle.creases.proofs.rings.sharp_on.Tie
use Rattle.creases.proofs.rings.sharp_on.Goals as goal

abbrev After-next_vert_at-v : Type 0
After-next_vert_at-v = Lts.After-next_vert_at Tie.the-claims Reads.Pre Reads.Post goal.the-invariant-loop-n goal.the-decreases-loop-n Tie.handed_clauses

abbrev After-next_corner : Type 0
After-next_corner = Lts.After-next_corner Tie.the-claims Reads.Pre Reads.Post goal.the-invariant-loop-n goal.the-decreases-loop-n Tie.handed_clauses

pub loop-n-init : goal.loop-n-init
loop-n-init c = let a = c.args in
    let p = c.requires.walk.0 in
    let next = next_corner (links_in a.words.now a.links (3 * a.nf)) a.s in
    let h = filled a.words.now a.links a.nf a.s p in
    (p.start, omega arith, trip-starts next a.nf a.s, some-passed next a.nf a.s h, sym (first-passed next a.nf a.s h), refl, refl, refl)

pub next_vert_at-v-requires : goal.next_vert_at-v-requires
next_vert_at-v-requires c = let a = c.args in
    let p = c.requires in
    (from-corner a.words.now a.links a.nf a.s p.walk.0 c.loop-n.at c.loop-n.invariant.0, p.walk.1, p.walk.2)

pub bounds-out-n : goal.bounds-out-n
bounds-out-n c = let l = c.loop-n in
    omega (arith, l.invariant.3, l.invariant.5, c.requires.few.few)

pub meet-met-requires : goal.meet-met-requires
meet-met-requires c = let a = c.args in
    let p = c.requires in
    let l = c.loop-n in
    let w = a.words.now in
    let cs = passed (walk (next_corner (links_in w a.links (3 * a.nf)) a.s) a.nf (here a.s)) in
    let few = met-few (part a.corners (3 * a.nf) w) cs (sharp (marks_in w a.marks a.nf)) l.n (omega (arith, l.invariant.3)) in
    (omega (arith, p.marks, l.invariant.0), rw l.invariant.7 (omega (arith, few, l.invariant.1, p.walk.0.room)))

-- one vertex more
stored :
    (k : After-next_vert_at-v) →
    (let l = k.loop-n in
    let a = k.args in
    let w = a.words.now in
    let cs = passed (walk (next_corner (links_in w a.links (3 * a.nf)) a.s) a.nf (here a.s)) in
    set l.out l.n k.next_vert_at-v.result ≡ sets a.out.now 0 (take (l.n + 1) (inners (part a.corners (3 * a.nf) w) cs)))
stored k =
    let l = k.loop-n in
    let a = k.args in
    let w = a.words.now in
    let cs = passed (walk (next_corner (links_in w a.links (3 * a.nf)) a.s) a.nf (here a.s)) in
    let fs = part a.corners (3 * a.nf) w in
    ap (λ (o : List ℕ). set o l.n k.next_vert_at-v.result) l.invariant.6
    ∙ store-more a.out.now (inners fs cs) l.n k.next_vert_at-v.result (rw (length-map cs (λ s. corner fs (onward s))) l.invariant.3)
    (inner-at w a.corners a.nf cs l.n l.at l.invariant.3 l.invariant.4 l.invariant.0 ∙ sym k.next_vert_at-v.ensures)

-- the step as the definition takes it
stepped :
    (k : After-next_corner) →
    (let a = k.args in
    step_of (next_corner (links_in a.words.now a.links (3 * a.nf)) a.s k.loop-n.at) ≡ k.next_corner.result)
stepped k =
    let a = k.args in
    let l = k.loop-n in
    let p = k.requires.walk.0 in
    ap step_of (next-at a.words.now a.links a.nf a.s p a.s l.at l.invariant.0) ∙ sym k.next_corner.ensures

-- what the walk finds, by the step
turned :
    (k : After-next_corner) →
    (let a = k.args in
    let l = k.loop-n in
    let next = next_corner (links_in a.words.now a.links (3 * a.nf)) a.s in
    trip_of (walk next a.nf (here a.s)) ≡
    trip_on (λ t. trip_from (l.n + 1) 0 (walk next (a.nf - (l.n + 1)) (here t))) (l.n + 1) l.at k.next_corner.result)
turned k =
    let a = k.args in
    let l = k.loop-n in
    let next = next_corner (links_in a.words.now a.links (3 * a.nf)) a.s in
    l.invariant.2 ∙ trip-turn next a.nf l.n l.at (omega arith) ∙
    ap (trip_on (λ t. trip_from (l.n + 1) 0 (walk next (a.nf - (l.n + 1)) (here t))) (l.n + 1) l.at) (stepped k)

-- all of them
gathered :
    (k : After-next_corner) →
    (let a = k.args in
    let l = k.loop-n in
    let w = a.words.now in
    let cs = passed (walk (next_corner (links_in w a.links (3 * a.nf)) a.s) a.nf (here a.s)) in
    suc l.n ≡ length cs → set l.out l.n k.next_vert_at-v.result ≡ sets a.out.now 0 (inners (part a.corners (3 * a.nf) w) cs))
gathered k q =
    let a = k.args in
    let l = k.loop-n in
    let w = a.words.now in
    let cs = passed (walk (next_corner (links_in w a.links (3 * a.nf)) a.s) a.nf (here a.s)) in
    let fs = part a.corners (3 * a.nf) w in
    stored k.before.before ∙ store-all a.out.now (inners fs cs) 0 (l.n + 1) (omega (arith, length-map cs (λ s. corner fs (onward s))))

same :
    (k : After-next_corner) →
    (let l = k.loop-n in
    length (set l.out l.n k.next_vert_at-v.result) ≡ length k.args.out.now)
same k = let l = k.loop-n in length-set l.out l.n k.next_vert_at-v.result ∙ l.invariant.5

-- the sharp edges, with the one just met
met-on :
    (k : After-next_corner) →
    (let a = k.args in
    let l = k.loop-n in
    let w = a.words.now in
    let cs = passed (walk (next_corner (links_in w a.links (3 * a.nf)) a.s) a.nf (here a.s)) in
    k.meet-met.result ≡ met_of (inners (part a.corners (3 * a.nf) w) (keep (sharp (marks_in w a.marks a.nf)) (take (l.n + 1) cs))))
met-on k =
    let a = k.args in
    let l = k.loop-n in
    let w = a.words.now in
    let cs = passed (walk (next_corner (links_in w a.links (3 * a.nf)) a.s) a.nf (here a.s)) in
    let fs = part a.corners (3 * a.nf) w in
    let p = sharp (marks_in w a.marks a.nf) in
    let v = k.next_vert_at-v.result in
    k.meet-met.ensures
    ∙ ap₂ (λ (b : Bool) (m : Met). pick b (noted m v) m) (sym (mark-at w a.marks a.nf l.at l.invariant.0)) l.invariant.7
    ∙ met-more fs cs p l.n l.at v l.invariant.3 l.invariant.4
    (get_d_part w a.corners (3 * a.nf) (onward l.at) 0 (on_below l.at a.nf l.invariant.0) ∙ sym k.next_vert_at-v.ensures)

met-whole :
    (k : After-next_corner) →
    (let a = k.args in
    let l = k.loop-n in
    let w = a.words.now in
    let cs = passed (walk (next_corner (links_in w a.links (3 * a.nf)) a.s) a.nf (here a.s)) in
    suc l.n ≡ length cs → k.meet-met.result ≡ met_of (inners (part a.corners (3 * a.nf) w) (keep (sharp (marks_in w a.marks a.nf)) cs)))
met-whole k q =
    let a = k.args in
    let l = k.loop-n in
    let w = a.words.now in
    let cs = passed (walk (next_corner (links_in w a.links (3 * a.nf)) a.s) a.nf (here a.s)) in
    met-on k ∙ met_all (part a.corners (3 * a.nf) w) cs (sharp (marks_in w a.marks a.nf)) (l.n + 1) (omega arith)

pub loop-n-preserved : goal.loop-n-preserved
loop-n-preserved c = let a = c.args in
    let p = c.requires in
    let l = c.loop-n in
    let w = a.words.now in
    let next = next_corner (links_in w a.links (3 * a.nf)) a.s in
    let d = then-here next a.nf a.s p.few.stops l.n l.at l.invariant.3 l.invariant.4 c.in-Here.t (stepped c.before.before ∙ c.in-Here.is) in (
      next-below w a.links a.nf a.s p.walk.0 a.s l.at c.in-Here.t l.invariant.0 (stepped c.before.before ∙ c.in-Here.is),
      omega arith,
      rw c.in-Here.is at (turned c.before.before),
      rw add-one d.0,
      rw add-one d.1,
      same c.before.before,
      stored c.before.before.before.before,
      met-on c.before.before,
    )

pub shape_of-out-in-Home : goal.shape_of-out-in-Home
shape_of-out-in-Home c = same c.before.before

pub returns-in-Home : goal.returns-in-Home
returns-in-Home c = let a = c.args in
    let p = c.requires in
    let l = c.loop-n in
    let next = next_corner (links_in a.words.now a.links (3 * a.nf)) a.s in
    let q = then-home next a.nf a.s p.few.stops l.n l.at l.invariant.3 l.invariant.4 (stepped c.before.before ∙ c.in-Home.is) in
    record { trip = sym (rw c.in-Home.is at (turned c.before.before)); met = met-whole c.before.before q; ring = gathered c.before.before q }

pub shape_of-out-in-Off : goal.shape_of-out-in-Off
shape_of-out-in-Off c = same c.before.before

pub returns-in-Off : goal.returns-in-Off
returns-in-Off c = let a = c.args in
    let p = c.requires in
    let l = c.loop-n in
    let next = next_corner (links_in a.words.now a.links (3 * a.nf)) a.s in
    let q = then-off next a.nf a.s p.few.stops l.n l.at l.invariant.3 l.invariant.4 (stepped c.before.before ∙ c.in-Off.is) in
    record { trip = sym (rw c.in-Off.is at (turned c.before.before)); met = met-whole c.before.before q; ring = gathered c.before.before q }
