use mathlib.Core.Path.{◌≡◌, refl, sym, ap, ◌∙◌}
use Prim.Native.Nat.{ℕ, suc, ◌+◌, ◌-◌, ◌*◌, ◌<◌}
use native.Mathlib.Omega.{arith}
use mathlib.Core.Logic.{inl, inr}
use native.Mathlib.Numerals.{add-one}
use mathlib.Core.List.{List}
use lib.ListN.{length, get_or, set, take, length-map, length-set}
use lib.Seq.{sets}
use Rattle.lists.specs.Lists.{part}
use Rattle.lists.proofs.Stores.{copy_at}
use Rattle.rules.specs.Mesh.{backward, corner, here, walk, passed, prev_corner}
use Rattle.faces.specs.Words.{links_in}
use Rattle.faces.specs.Rings.{step_of, backs}
use Rattle.faces.proofs.Links.{prev-at, prev-below}
use Rattle.faces.proofs.Trails.{some-passed, then-here, then-home, then-off}
use Rattle.faces.proofs.Trips.{first-passed}
use Rattle.faces.proofs.Gathered.{store-all, back_at}
use Rattle.faces.proofs.rings.gather_back.Lts
use Rattle.faces.proofs.rings.gather_back.Reads
use Rattle.faces.proofs.rings.gather_back.Tie
use Rattle.faces.proofs.rings.gather_back.Goals as goal

abbrev After-backward : Type 0
After-backward = Lts.After-backward Tie.the-claims Reads.Pre Reads.Post goal.the-invariant-loop-t goal.the-decreases-loop-t Tie.handed_clauses

abbrev After-prev_corner : Type 0
After-prev_corner = Lts.After-prev_corner Tie.the-claims Reads.Pre Reads.Post goal.the-invariant-loop-t goal.the-decreases-loop-t Tie.handed_clauses

pub loop-t-init : goal.loop-t-init
loop-t-init c = let a = c.args in
    let p = c.requires in
    let next = prev_corner (links_in a.words.now a.links (3 * a.nf)) a.end in
    let h : 0 < a.nf + 1 - a.from = omega (arith, p.3) in
    (p.0.start, some-passed next (a.nf + 1 - a.from) a.s h, sym (first-passed next (a.nf + 1 - a.from) a.s h), refl, refl)

pub overflow_add-out-in-loop-t : goal.overflow_add-out-in-loop-t
overflow_add-out-in-loop-t c = let l = c.loop-t in omega (arith, l.invariant.1, c.requires.2.few)

pub offset_bounds-out-from : goal.offset_bounds-out-from
offset_bounds-out-from c = let l = c.loop-t in omega (arith, l.invariant.1, c.requires.2.few)

pub bounds-out-from : goal.bounds-out-from
bounds-out-from c = let l = c.loop-t in omega (arith, l.invariant.1, l.invariant.3, c.requires.2.few, c.requires.4)

pub overflow_add-n : goal.overflow_add-n
overflow_add-n c = let l = c.loop-t in omega (arith, l.invariant.1, c.requires.2.few)

-- one vertex more
stored :
    (k : After-backward) →
    (let l = k.loop-t in
    let a = k.args in
    let w = a.words.now in
    let cs = passed (walk (prev_corner (links_in w a.links (3 * a.nf)) a.end) (a.nf + 1 - a.from) (here a.s)) in
    set l.out (a.from + l.n) (get_or w (a.corners + k.backward.result) 0) ≡ sets a.out.now a.from (take (l.n + 1) (backs (part a.corners (3 * a.nf) w) cs)))
stored k =
    let l = k.loop-t in
    let a = k.args in
    let w = a.words.now in
    let cs = passed (walk (prev_corner (links_in w a.links (3 * a.nf)) a.end) (a.nf + 1 - a.from) (here a.s)) in
    let fs = part a.corners (3 * a.nf) w in
    let v = back_at w a.corners a.nf cs l.n l.at l.invariant.1 l.invariant.2 l.invariant.0 ∙ ap (λ (z : ℕ). get_or w (a.corners + z) 0) (sym k.backward.ensures) in
    ap (λ (o : List ℕ). set o (a.from + l.n) (get_or w (a.corners + k.backward.result) 0)) l.invariant.4
    ∙ ap (λ (x : ℕ). set (sets a.out.now a.from (take l.n (backs fs cs))) (a.from + l.n) x) (sym v)
    ∙ copy_at a.out.now (backs fs cs) a.from l.n 0 (rw (length-map cs (λ s. corner fs (backward s))) l.invariant.1)

-- the step as the definition takes it
stepped :
    (k : After-prev_corner) →
    (let a = k.args in
    step_of (prev_corner (links_in a.words.now a.links (3 * a.nf)) a.end k.loop-t.at) ≡ k.prev_corner.result)
stepped k =
    let a = k.args in
    let l = k.loop-t in
    let p = k.requires.0 in
    ap step_of (prev-at a.words.now a.links a.nf a.s p a.end l.at l.invariant.0) ∙ sym k.prev_corner.ensures

same :
    (k : After-prev_corner) →
    (let l = k.loop-t in
    let a = k.args in
    length (set l.out (a.from + l.n) (get_or a.words.now (a.corners + k.backward.result) 0)) ≡ length a.out.now)
same k =
    let l = k.loop-t in
    let a = k.args in
    length-set l.out (a.from + l.n) (get_or a.words.now (a.corners + k.backward.result) 0) ∙ l.invariant.3

pub loop-t-preserved : goal.loop-t-preserved
loop-t-preserved c = let k = c.before.before in
    let a = k.args in
    let p = k.requires in
    let l = k.loop-t in
    let w = a.words.now in
    let next = prev_corner (links_in w a.links (3 * a.nf)) a.end in
    let d = then-here next (a.nf + 1 - a.from) a.s p.2.stops l.n l.at l.invariant.1 l.invariant.2 c.in-Here.t (stepped k ∙ c.in-Here.is) in (
      prev-below w a.links a.nf a.s p.0 a.end l.at c.in-Here.t l.invariant.0 (stepped k ∙ c.in-Here.is),
      rw (add-one l.n) d.0,
      rw (add-one l.n) d.1,
      same k,
      stored k.before.before,
    )

-- the walk is over, and all of them are stored
pub returns-in-Home : goal.returns-in-Home
returns-in-Home c = let k = c.before.before in
    let a = k.args in
    let p = k.requires in
    let l = k.loop-t in
    let next = prev_corner (links_in a.words.now a.links (3 * a.nf)) a.end in
    let cs = passed (walk next (a.nf + 1 - a.from) (here a.s)) in
    let fs = part a.corners (3 * a.nf) a.words.now in
    let q : suc l.n ≡ length cs =
    elim c.in-Home.is [
      | inl h ↦ then-home next (a.nf + 1 - a.from) a.s p.2.stops l.n l.at l.invariant.1 l.invariant.2 (stepped k ∙ h)
      | inr h ↦ then-off next (a.nf + 1 - a.from) a.s p.2.stops l.n l.at l.invariant.1 l.invariant.2 (stepped k ∙ h)
    ] in
    let e : l.n + 1 ≡ length (backs fs cs) = omega (arith, length-map cs (λ s. corner fs (backward s))) in
    record { count = ap (λ (z : ℕ). a.from + z) e; ring = stored k.before.before ∙ store-all a.out.now (backs fs cs) a.from (l.n + 1) e }
