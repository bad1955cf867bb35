use mathlib.Core.Path.{◌≡◌, refl, sym, ap, ap₂, ◌∙◌}
use mathlib.Core.Bool.{Bool}
use Prim.Native.Nat.{ℕ, suc, ◌+◌, ◌*◌}
use mathlib.Core.Logic.{inl, inr}
use native.Mathlib.Omega.{arith}
use native.Mathlib.Numerals.{add-one}
use mathlib.Core.List.{List}
use lib.ListN.{length, set, take, length-map, length-set}
use lib.Seq.{sets}
use Rattle.lists.specs.Lists.{part, pick, keep}
use Rattle.lists.proofs.Places.{get_d_map}
use Rattle.rules.specs.Mesh.{onward, corner, links, here, walk, passed, next_corner, inner}
use Rattle.rules.specs.Sharp.{sharp}
use Rattle.faces.specs.Rings.{inners}
use Rattle.faces.proofs.Trails.{some-passed, then-here, then-home, then-off}
use Rattle.faces.proofs.Trips.{first-passed}
use Rattle.faces.proofs.Gathered.{store-more, store-all}
use Rattle.marks.specs.Marks.{marks_in}
use Rattle.marks.proofs.Marks.{mark-at}
use Rattle.creases.specs.Rings.{met_of, noted, sharp_ring_of}
use Rattle.creases.specs.declared.rings.Met.{Met}
use Rattle.creases.proofs.Creases.{met-few, met-more, met_all}
use Rattle.creases.proofs.Rims.{ring_by}
use Rattle.looks.proofs.Walks.{filled, next-below}
use Rattle.looks.proofs.rings.inner_ring.Lts
use Rattle.looks.proofs.rings.inner_ring.Reads
use Rattle.looks.proofs.rings.inner_ring.Tie
use Rattle.looks.proofs.rings.inner_ring.Goals as goal

abbrev After-next_of-v : Type 0
After-next_of-v = Lts.After-next_of Tie.the-claims Reads.Pre Reads.Post goal.the-invariant-loop-t goal.the-decreases-loop-t Tie.handed_clauses

abbrev After-meet-met : Type 0
After-meet-met = Lts.After-meet Tie.the-claims Reads.Pre Reads.Post goal.the-invariant-loop-t goal.the-decreases-loop-t Tie.handed_clauses

pub loop-t-init : goal.loop-t-init
loop-t-init c = let a = c.args in
    let next = next_corner (links (part a.at (3 * a.nf) a.words.now)) a.s in
    let h = filled a.words.now a.at a.nf c.requires.0 a.s c.requires.1 in
    (c.requires.1, some-passed next a.nf a.s h, sym (first-passed next a.nf a.s h), refl, refl, refl)

pub bounds-out-n : goal.bounds-out-n
bounds-out-n c = omega (arith, c.loop-t.invariant.1, c.loop-t.invariant.3, c.requires.2.few)

pub meet-met-requires : goal.meet-met-requires
meet-met-requires c = let a = c.args in
    let p = c.requires in
    let l = c.loop-t in
    let w = a.words.now in
    let cs = passed (walk (next_corner (links (part a.at (3 * a.nf) w)) a.s) a.nf (here a.s)) in
    let few = met-few (part a.at (3 * a.nf) w) cs (sharp (marks_in w a.marks a.nf)) l.n (omega (arith, l.invariant.1)) in
    (omega (arith, p.3, l.invariant.0), rw l.invariant.5 (omega (arith, few, l.invariant.1, p.2.few)))

pub next_corner-requires : goal.next_corner-requires
next_corner-requires c = record { listed = (c.requires.0.listed, c.loop-t.invariant.0); apart = c.requires.0.apart }

-- one vertex more
stored :
    (k : After-next_of-v) →
    (let l = k.loop-t in
    let a = k.args in
    let fs = part a.at (3 * a.nf) a.words.now in
    let cs = passed (walk (next_corner (links fs) a.s) a.nf (here a.s)) in
    set l.out l.n k.next_of-v.result ≡ sets a.out.now 0 (take (l.n + 1) (inners fs cs)))
stored k =
    let l = k.loop-t in
    let a = k.args in
    let fs = part a.at (3 * a.nf) a.words.now in
    let cs = passed (walk (next_corner (links fs) a.s) a.nf (here a.s)) in
    let v = k.next_of-v.result in
    ap (λ (o : List ℕ). set o l.n v) l.invariant.4 ∙
    store-more a.out.now (inners fs cs) l.n v (rw (length-map cs (λ s. corner fs (onward s))) l.invariant.1)
    (get_d_map (λ s. corner fs (onward s)) cs l.n 0 0 l.invariant.1 ∙ ap (λ (s : ℕ). corner fs (onward s)) (sym l.invariant.2) ∙ sym k.next_of-v.ensures)

-- the sharp edges, with the one just met
met-on :
    (k : After-meet-met) →
    (let a = k.args in
    let l = k.loop-t in
    let w = a.words.now in
    let fs = part a.at (3 * a.nf) w in
    let cs = passed (walk (next_corner (links fs) a.s) a.nf (here a.s)) in
    k.meet-met.result ≡ met_of (inners fs (keep (sharp (marks_in w a.marks a.nf)) (take (l.n + 1) cs))))
met-on k =
    let a = k.args in
    let l = k.loop-t in
    let w = a.words.now in
    let fs = part a.at (3 * a.nf) w in
    let cs = passed (walk (next_corner (links fs) a.s) a.nf (here a.s)) in
    let v = k.next_of-v.result in
    k.meet-met.ensures
    ∙ ap₂ (λ (b : Bool) (m : Met). pick b (noted m v) m) (sym (mark-at w a.marks a.nf l.x l.invariant.0)) l.invariant.5
    ∙ met-more fs cs (sharp (marks_in w a.marks a.nf)) l.n l.x v l.invariant.1 l.invariant.2 (sym k.next_of-v.ensures)

-- all of them
ended :
    (k : After-meet-met) →
    (let l = k.loop-t in
    let a = k.args in
    let w = a.words.now in
    let fs = part a.at (3 * a.nf) w in
    let cs = passed (walk (next_corner (links fs) a.s) a.nf (here a.s)) in
    suc l.n ≡ length cs → (ring_by (l.n + 1) k.meet-met.result ≡ sharp_ring_of fs (marks_in w a.marks a.nf) (inner cs)) × (set l.out l.n k.next_of-v.result ≡ sets a.out.now 0 (inners fs cs)))
ended k q =
    let l = k.loop-t in
    let a = k.args in
    let w = a.words.now in
    let fs = part a.at (3 * a.nf) w in
    let cs = passed (walk (next_corner (links fs) a.s) a.nf (here a.s)) in
    let e : l.n + 1 ≡ length (inners fs cs) = omega (arith, length-map cs (λ s. corner fs (onward s))) in
    (ap₂ ring_by e (met-on k ∙ met_all fs cs (sharp (marks_in w a.marks a.nf)) (l.n + 1) (omega arith)), stored k.before ∙ store-all a.out.now (inners fs cs) 0 (l.n + 1) e)

pub loop-t-preserved : goal.loop-t-preserved
loop-t-preserved c = let l = c.loop-t in
    let a = c.args in
    let w = a.words.now in
    let next = next_corner (links (part a.at (3 * a.nf) w)) a.s in
    let d = then-here next a.nf a.s c.requires.2.stops l.n l.x l.invariant.1 l.invariant.2 c.in-Here.t (sym c.next_corner.ensures ∙ c.in-Here.is) in (
      next-below w a.at a.nf c.requires.0 a.s l.x c.in-Here.t l.invariant.0 (sym c.next_corner.ensures ∙ c.in-Here.is),
      rw add-one d.0,
      rw add-one d.1,
      rw length-set l.invariant.3,
      stored c.before.before.before.before,
      met-on c.before.before.before,
    )

-- the walk is over, and all of them are stored
pub returns-in-Home : goal.returns-in-Home
returns-in-Home c = let a = c.args in
    let l = c.loop-t in
    let next = next_corner (links (part a.at (3 * a.nf) a.words.now)) a.s in
    let q : suc l.n ≡ length (passed (walk next a.nf (here a.s))) =
    elim c.in-Home.is [
      | inl h ↦ then-home next a.nf a.s c.requires.2.stops l.n l.x l.invariant.1 l.invariant.2 (sym c.next_corner.ensures ∙ h)
      | inr h ↦ then-off next a.nf a.s c.requires.2.stops l.n l.x l.invariant.1 l.invariant.2 (sym c.next_corner.ensures ∙ h)
    ] in
    let e = ended c.before.before.before q in
    record { ring = e.0; out = e.1 }
