use mathlib.Core.Path.{◌≡◌, refl, sym, ap, ap₂, ◌∙◌}
use mathlib.Core.Bool.{Bool}
use Prim.Native.Nat.{ℕ, suc, ◌+◌, ◌*◌, ◌/◌, ◌%◌}
use mathlib.Core.Logic.{inl, inr}
use native.Mathlib.Omega.{arith}
use native.Mathlib.Numerals.{add-one}
use mathlib.Core.List.{List}
use lib.ListN.{length, get_or, set, take, length-map, length-set}
use lib.Seq.{sets, take_all}
use Rattle.lists.specs.Lists.{part, bit, tally}
use Rattle.lists.proofs.Places.{get_d_map}
use Rattle.lists.proofs.Stores.{copy_at}
use Rattle.rules.specs.Mesh.{backward, corner, links, here, walk, passed, prev_corner}
use Rattle.rules.proofs.Refine.{back_below}
use Rattle.faces.specs.Rings.{backs}
use Rattle.faces.proofs.Trails.{some-passed, then-here, then-home, then-off}
use Rattle.faces.proofs.Trips.{first-passed}
use Rattle.faces.proofs.Gathered.{store-all}
use Rattle.marks.specs.Marks.{mark_of, marks_in}
use Rattle.marks.proofs.Marks.{mark-at}
use Rattle.creases.specs.Rings.{comes}
use Rattle.creases.proofs.Creases.{tally-take, tally-few-of}
use Rattle.looks.proofs.Walks.{filled, prev-below}
use Rattle.looks.proofs.rings.ring_back.Lts
use Rattle.looks.proofs.rings.ring_back.Reads
use Rattle.looks.proofs.rings.ring_back.Tie
use Rattle.looks.proofs.rings.ring_back.Goals as goal

abbrev After-prev_of-v : Type 0
After-prev_of-v = Lts.After-prev_of Tie.the-claims Reads.Pre Reads.Post goal.the-invariant-loop-t goal.the-decreases-loop-t Tie.handed_clauses

abbrev After-tallied-k : Type 0
After-tallied-k = Lts.After-tallied Tie.the-claims Reads.Pre Reads.Post goal.the-invariant-loop-t goal.the-decreases-loop-t Tie.handed_clauses

pub loop-t-init : goal.loop-t-init
loop-t-init c = let a = c.args in
    let p = c.requires in
    let next = prev_corner (links (part a.at (3 * a.nf) a.words.now)) a.end in
    let h = filled a.words.now a.at a.nf p.0 a.end p.1 in
    (p.1, some-passed next a.nf a.end h, sym (first-passed next a.nf a.end h), refl, refl, refl)

pub prev_of-v-requires : goal.prev_of-v-requires
prev_of-v-requires c = (c.requires.0, c.loop-t.invariant.0)

pub overflow_add-out : goal.overflow_add-out
overflow_add-out c = let l = c.loop-t in omega (arith, l.invariant.1, c.requires.2.few)

pub offset_bounds-out-n : goal.offset_bounds-out-n
offset_bounds-out-n c = let l = c.loop-t in omega (arith, l.invariant.1, c.requires.2.few)

pub bounds-out-n : goal.bounds-out-n
bounds-out-n c = let l = c.loop-t in omega (arith, l.invariant.1, l.invariant.3, c.requires.2.few)

pub tallied-k-requires : goal.tallied-k-requires
tallied-k-requires c = let a = c.args in
    let p = c.requires in
    let l = c.loop-t in
    let w = a.words.now in
    let cs = passed (walk (prev_corner (links (part a.at (3 * a.nf) w)) a.end) a.nf (here a.end)) in
    let few = tally-few-of (comes (marks_in w a.marks a.nf)) cs l.n (omega (arith, l.invariant.1)) in
    let b = back_below l.x a.nf l.invariant.0 in
    (omega (arith, c.backward.ensures, b, p.3), omega (arith, few, l.invariant.5, l.invariant.1, p.2.few))

pub overflow_add-n : goal.overflow_add-n
overflow_add-n c = let l = c.loop-t in omega (arith, l.invariant.1, c.requires.2.few)

pub prev_corner-requires : goal.prev_corner-requires
prev_corner-requires c = record { listed = (c.requires.0.listed, c.loop-t.invariant.0); apart = c.requires.0.apart }

-- one vertex more
stored :
    (k : After-prev_of-v) →
    (let l = k.loop-t in
    let a = k.args in
    let fs = part a.at (3 * a.nf) a.words.now in
    let cs = passed (walk (prev_corner (links fs) a.end) a.nf (here a.end)) in
    set l.out (1 + l.n) k.prev_of-v.result ≡ sets a.out.now 1 (take (l.n + 1) (backs fs cs)))
stored k =
    let l = k.loop-t in
    let a = k.args in
    let fs = part a.at (3 * a.nf) a.words.now in
    let cs = passed (walk (prev_corner (links fs) a.end) a.nf (here a.end)) in
    let v = k.prev_of-v.result in
    let e : get_or (backs fs cs) l.n 0 ≡ v = get_d_map (λ s. corner fs (backward s)) cs l.n 0 0 l.invariant.1 ∙ ap (λ (s : ℕ). corner fs (backward s)) (sym l.invariant.2) ∙ sym k.prev_of-v.ensures in
    ap (λ (o : List ℕ). set o (1 + l.n) v) l.invariant.4
    ∙ ap (λ (x : ℕ). set (sets a.out.now 1 (take l.n (backs fs cs))) (1 + l.n) x) (sym e)
    ∙ copy_at a.out.now (backs fs cs) 1 l.n 0 (rw (length-map cs (λ s. corner fs (backward s))) l.invariant.1)

-- one more, if the side that came is sharp
tallied-on :
    (k : After-tallied-k) →
    (let a = k.args in
    let l = k.loop-t in
    let w = a.words.now in
    let cs = passed (walk (prev_corner (links (part a.at (3 * a.nf) w)) a.end) a.nf (here a.end)) in
    k.tallied-k.result ≡ tally (comes (marks_in w a.marks a.nf)) (take (l.n + 1) cs))
tallied-on k =
    let a = k.args in
    let l = k.loop-t in
    let w = a.words.now in
    let cs = passed (walk (prev_corner (links (part a.at (3 * a.nf) w)) a.end) a.nf (here a.end)) in
    let ms = marks_in w a.marks a.nf in
    let c = k.backward.result in
    let m : mark_of (get_or w (a.marks + c / 3) 0) (c % 3) ≡ comes ms (get_or cs l.n 0) =
    ap (λ (z : ℕ). mark_of (get_or w (a.marks + z / 3) 0) (z % 3)) k.backward.ensures
    ∙ sym (mark-at w a.marks a.nf (backward l.x) (back_below l.x a.nf l.invariant.0))
    ∙ ap (comes ms) l.invariant.2 in
    k.tallied-k.ensures
    ∙ ap₂ (λ (x : ℕ) (b : Bool). x + bit b) l.invariant.5 m
    ∙ sym (tally-take (comes ms) cs l.n l.invariant.1)

pub loop-t-preserved : goal.loop-t-preserved
loop-t-preserved c = let a = c.args in
    let p = c.requires in
    let l = c.loop-t in
    let w = a.words.now in
    let next = prev_corner (links (part a.at (3 * a.nf) w)) a.end in
    let q = sym c.prev_corner.ensures ∙ c.in-Here.is in
    let d = then-here next a.nf a.end p.2.stops l.n l.x l.invariant.1 l.invariant.2 c.in-Here.t q in (
      prev-below w a.at a.nf p.0 a.end l.x c.in-Here.t l.invariant.0 q,
      rw add-one d.0,
      rw add-one d.1,
      rw length-set l.invariant.3,
      stored c.before.before.before.before.before,
      tallied-on c.before.before.before,
    )

-- all of them
gathered :
    (k : After-tallied-k) →
    (let l = k.loop-t in
    let a = k.args in
    let w = a.words.now in
    let fs = part a.at (3 * a.nf) w in
    let cs = passed (walk (prev_corner (links fs) a.end) a.nf (here a.end)) in
    suc l.n ≡ length cs
    → (l.n + 1 ≡ length cs) × ((k.tallied-k.result ≡ tally (comes (marks_in w a.marks a.nf)) cs) × (set l.out (1 + l.n) k.prev_of-v.result ≡ sets a.out.now 1 (backs fs cs))))
gathered k q =
    let l = k.loop-t in
    let a = k.args in
    let w = a.words.now in
    let fs = part a.at (3 * a.nf) w in
    let cs = passed (walk (prev_corner (links fs) a.end) a.nf (here a.end)) in (
      omega arith,
      (
        tallied-on k ∙ ap (λ (x : List ℕ). tally (comes (marks_in w a.marks a.nf)) x) (take_all (l.n + 1) cs (omega arith)),
        stored k.before.before ∙ store-all a.out.now (backs fs cs) 1 (l.n + 1) (omega (arith, length-map cs (λ s. corner fs (backward s)))),
      ),
    )

-- the walk is over, and all of them are stored
pub returns-in-Home : goal.returns-in-Home
returns-in-Home c = let a = c.args in
    let l = c.loop-t in
    let next = prev_corner (links (part a.at (3 * a.nf) a.words.now)) a.end in
    let q : suc l.n ≡ length (passed (walk next a.nf (here a.end))) =
    elim c.in-Home.is [
      | inl h ↦ then-home next a.nf a.end c.requires.2.stops l.n l.x l.invariant.1 l.invariant.2 (sym c.prev_corner.ensures ∙ h)
      | inr h ↦ then-off next a.nf a.end c.requires.2.stops l.n l.x l.invariant.1 l.invariant.2 (sym c.prev_corner.ensures ∙ h)
    ] in
    let e = gathered c.before.before.before q in
    record { count = e.0; sharp = e.1.0; ring = e.1.1 }
