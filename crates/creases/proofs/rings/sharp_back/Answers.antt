use mathlib.Core.Path.{◌≡◌, refl, sym, ap, ap₂, ◌∙◌}
use mathlib.Core.Bool.{Bool}
use Prim.Native.Nat.{ℕ, suc, ◌+◌, ◌*◌, ◌/◌, ◌%◌}
use mathlib.Core.Logic.{inl, inr}
use native.Mathlib.Omega.{arith}
use native.Mathlib.Numerals.{add-one}
use mathlib.Core.List.{List}
use lib.ListN.{length, get_or, set, take, length-map, length-set}
use lib.Seq.{sets, take_all}
use Rattle.lists.specs.Lists.{part, bit, tally}
use Rattle.lists.proofs.Stores.{copy_at}
use Rattle.rules.specs.Mesh.{backward, corner, here, walk, passed, prev_corner}
use Rattle.rules.proofs.Refine.{back_below}
use Rattle.faces.specs.Words.{links_in}
use Rattle.faces.specs.Rings.{step_of, backs}
use Rattle.faces.proofs.Links.{prev-at, prev-below}
use Rattle.faces.proofs.Trails.{some-passed, then-here, then-home, then-off}
use Rattle.faces.proofs.Trips.{first-passed}
use Rattle.faces.proofs.Gathered.{store-all, back_at}
use Rattle.marks.specs.Marks.{mark_of, marks_in}
use Rattle.marks.proofs.Marks.{mark-at}
use Rattle.creases.specs.Rings.{comes}
use Rattle.creases.proofs.Creases.{tally-take, tally-few-of}
use Rattle.creases.proofs.rings.sharp_back.Lts
use Rattle.creases.proofs.rings.sharp_back.Reads
use Rattle.creases.proofs.rings.sharp_back.Tie
use Rattle.creases.proofs.rings.sharp_back.Goals as goal

abbrev After-backward-c : Type 0
After-backward-c = Lts.After-backward Tie.the-claims Reads.Pre Reads.Post goal.the-invariant-loop-t goal.the-decreases-loop-t Tie.handed_clauses

abbrev After-prev_corner : Type 0
After-prev_corner = Lts.After-prev_corner Tie.the-claims Reads.Pre Reads.Post goal.the-invariant-loop-t goal.the-decreases-loop-t Tie.handed_clauses

pub loop-t-init : goal.loop-t-init
loop-t-init c = let a = c.args in
    let p = c.requires in
    let next = prev_corner (links_in a.words.now a.links (3 * a.nf)) a.end in
    (p.0.start, some-passed next a.q a.s p.3, sym (first-passed next a.q a.s p.3), refl, refl, refl)

pub overflow_add-out-in-loop-t : goal.overflow_add-out-in-loop-t
overflow_add-out-in-loop-t c = let l = c.loop-t in omega (arith, l.invariant.1, c.requires.2.few)

pub offset_bounds-out-from : goal.offset_bounds-out-from
offset_bounds-out-from c = let l = c.loop-t in omega (arith, l.invariant.1, c.requires.2.few)

pub bounds-out-from : goal.bounds-out-from
bounds-out-from c = let l = c.loop-t in omega (arith, l.invariant.1, l.invariant.3, c.requires.2.few, c.requires.4)

pub tallied-k-requires : goal.tallied-k-requires
tallied-k-requires c = let a = c.args in
    let p = c.requires in
    let l = c.loop-t in
    let w = a.words.now in
    let cs = passed (walk (prev_corner (links_in w a.links (3 * a.nf)) a.end) a.q (here a.s)) in
    let few = tally-few-of (comes (marks_in w a.marks a.nf)) cs l.n (omega (arith, l.invariant.1)) in
    let b = back_below l.at a.nf l.invariant.0 in
    (omega (arith, c.backward-c.ensures, b, p.5), omega (arith, few, l.invariant.5, l.invariant.1, p.2.few))

pub overflow_add-n : goal.overflow_add-n
overflow_add-n c = let l = c.loop-t in omega (arith, l.invariant.1, c.requires.2.few)

-- one vertex more
stored :
    (k : After-backward-c) →
    (let l = k.loop-t in
    let a = k.args in
    let w = a.words.now in
    let cs = passed (walk (prev_corner (links_in w a.links (3 * a.nf)) a.end) a.q (here a.s)) in
    set l.out (a.from + l.n) (get_or w (a.corners + k.backward-c.result) 0) ≡ sets a.out.now a.from (take (l.n + 1) (backs (part a.corners (3 * a.nf) w) cs)))
stored k =
    let l = k.loop-t in
    let a = k.args in
    let w = a.words.now in
    let cs = passed (walk (prev_corner (links_in w a.links (3 * a.nf)) a.end) a.q (here a.s)) in
    let fs = part a.corners (3 * a.nf) w in
    let v = back_at w a.corners a.nf cs l.n l.at l.invariant.1 l.invariant.2 l.invariant.0 ∙ ap (λ (z : ℕ). get_or w (a.corners + z) 0) (sym k.backward-c.ensures) in
    ap (λ (o : List ℕ). set o (a.from + l.n) (get_or w (a.corners + k.backward-c.result) 0)) l.invariant.4
    ∙ ap (λ (x : ℕ). set (sets a.out.now a.from (take l.n (backs fs cs))) (a.from + l.n) x) (sym v)
    ∙ copy_at a.out.now (backs fs cs) a.from l.n 0 (rw (length-map cs (λ s. corner fs (backward s))) l.invariant.1)

-- the step as the definition takes it
stepped :
    (k : After-prev_corner) →
    (let a = k.args in
    step_of (prev_corner (links_in a.words.now a.links (3 * a.nf)) a.end k.loop-t.at) ≡ k.prev_corner.result)
stepped k =
    let a = k.args in
    let l = k.loop-t in
    let p = k.requires.0 in
    ap step_of (prev-at a.words.now a.links a.nf a.s p a.end l.at l.invariant.0) ∙ sym k.prev_corner.ensures

-- one more, if the side that came is sharp
tallied-on :
    (k : After-prev_corner) →
    (let a = k.args in
    let l = k.loop-t in
    let w = a.words.now in
    let cs = passed (walk (prev_corner (links_in w a.links (3 * a.nf)) a.end) a.q (here a.s)) in
    k.tallied-k.result ≡ tally (comes (marks_in w a.marks a.nf)) (take (l.n + 1) cs))
tallied-on k =
    let a = k.args in
    let l = k.loop-t in
    let w = a.words.now in
    let cs = passed (walk (prev_corner (links_in w a.links (3 * a.nf)) a.end) a.q (here a.s)) in
    let ms = marks_in w a.marks a.nf in
    let m : mark_of (get_or w (a.marks + k.backward-c.result / 3) 0) (k.backward-c.result % 3) ≡ comes ms (get_or cs l.n 0) =
    ap (λ (z : ℕ). mark_of (get_or w (a.marks + z / 3) 0) (z % 3)) k.backward-c.ensures
    ∙ sym (mark-at w a.marks a.nf (backward l.at) (back_below l.at a.nf l.invariant.0))
    ∙ ap (comes ms) l.invariant.2 in
    k.tallied-k.ensures
    ∙ ap₂ (λ (x : ℕ) (b : Bool). x + bit b) l.invariant.5 m
    ∙ sym (tally-take (comes ms) cs l.n l.invariant.1)

same :
    (k : After-prev_corner) →
    (let l = k.loop-t in
    let a = k.args in
    length (set l.out (a.from + l.n) (get_or a.words.now (a.corners + k.backward-c.result) 0)) ≡ length a.out.now)
same k =
    let l = k.loop-t in
    let a = k.args in
    length-set l.out (a.from + l.n) (get_or a.words.now (a.corners + k.backward-c.result) 0) ∙ l.invariant.3

pub loop-t-preserved : goal.loop-t-preserved
loop-t-preserved c = let a = c.args in
    let p = c.requires in
    let l = c.loop-t in
    let w = a.words.now in
    let next = prev_corner (links_in w a.links (3 * a.nf)) a.end in
    let d = then-here next a.q a.s p.2.stops l.n l.at l.invariant.1 l.invariant.2 c.in-Here.t (stepped c.before.before ∙ c.in-Here.is) in (
      prev-below w a.links a.nf a.s p.0 a.end l.at c.in-Here.t l.invariant.0 (stepped c.before.before ∙ c.in-Here.is),
      rw add-one d.0,
      rw add-one d.1,
      same c.before.before,
      stored c.before.before.before.before.before,
      tallied-on c.before.before,
    )

-- the walk is over, and all of them are stored
pub returns-in-Home : goal.returns-in-Home
returns-in-Home c = let k = c.before.before in
    let a = c.args in
    let p = c.requires in
    let l = c.loop-t in
    let w = a.words.now in
    let next = prev_corner (links_in w a.links (3 * a.nf)) a.end in
    let cs = passed (walk next a.q (here a.s)) in
    let fs = part a.corners (3 * a.nf) w in
    let q : suc l.n ≡ length cs =
    elim c.in-Home.is [
      | inl h ↦ then-home next a.q a.s p.2.stops l.n l.at l.invariant.1 l.invariant.2 (stepped k ∙ h)
      | inr h ↦ then-off next a.q a.s p.2.stops l.n l.at l.invariant.1 l.invariant.2 (stepped k ∙ h)
    ] in
    let e : l.n + 1 ≡ length (backs fs cs) = omega (arith, length-map cs (λ s. corner fs (backward s))) in
    record {
      count = ap (λ (z : ℕ). a.from + z) e;
      sharp = tallied-on k ∙ ap (λ (x : List ℕ). tally (comes (marks_in w a.marks a.nf)) x) (take_all (l.n + 1) cs (omega arith));
      ring = stored k.before.before.before ∙ store-all a.out.now (backs fs cs) a.from (l.n + 1) e;
    }
