use mathlib.Core.Path.{◌≡◌, sym, ap, ap₂, ◌∙◌}
use Prim.Native.Nat.{ℕ, ◌+◌, ◌-◌, ◌*◌, ◌≤◌}
use native.Mathlib.Omega.{arith}
use mathlib.Core.List.{List, ◌++◌}
use lib.ListN.{length, get_or, length-map, length-append}
use lib.Seq.{sets, length-sets}
use Rattle.lists.specs.Lists.{part, keep, tally}
use Rattle.lists.proofs.Places.{length-keep}
use Rattle.rules.specs.Mesh.{Fan, onward, backward, corner, here, walk, passed, stop_of, next_corner, prev_corner, fan, ring}
use Rattle.rules.specs.Sharp.{sharp, creases}
use Rattle.rules.proofs.Walks.{trail}
use Rattle.faces.specs.Words.{links_in}
use Rattle.faces.specs.Rings.{inners, backs, down_from}
use Rattle.faces.proofs.Trails.{faces-in, inner-is, long-is}
use Rattle.faces.proofs.Retrace.{length-down}
use Rattle.faces.proofs.Passage.{turned, on-ends, turned-over, counted-closed}
use Rattle.marks.specs.Marks.{marks_in}
use Rattle.creases.specs.Rings.{sharp_ring_of}
use Rattle.creases.specs.declared.rings.Met.{Met}
use Rattle.creases.proofs.Creases.{tally-few}
use Rattle.creases.proofs.Rims.{ring_by, same-ring, stored_at, creased}
use Rattle.creases.proofs.rings.sharp_ring.Lts
use Rattle.creases.proofs.rings.sharp_ring.Reads
use Rattle.creases.proofs.rings.sharp_ring.Tie
use Rattle.creases.proofs.rings.sharp_ring.Goals as goal

abbrev After-sharp_on-p : Type 0
After-sharp_on-p = Lts.After-sharp_on Tie.the-claims Reads.Pre Reads.Post Tie.handed_clauses

-- how many sharp edges the walk on meets
met-count : (k : After-sharp_on-p) →
    (let a = k.args in
    let w = a.words.now in
    k.sharp_on-p.result.met.n ≡ tally (sharp (marks_in w a.marks a.nf)) (trail (next_corner (links_in w a.links (3 * a.nf)) a.s) a.nf (here a.s)))
met-count k =
    let a = k.args in
    let w = a.words.now in
    let fs = part a.corners (3 * a.nf) w in
    let p = sharp (marks_in w a.marks a.nf) in
    let on = trail (next_corner (links_in w a.links (3 * a.nf)) a.s) a.nf (here a.s) in
    ap (λ (m : Met). m.n) k.sharp_on-p.ensures.met ∙ length-map (keep p on) (λ s. corner fs (onward s)) ∙ length-keep p on

pub sharp_on-p-requires : goal.sharp_on-p-requires
sharp_on-p-requires c = let a = c.args in
    let p = c.requires in
    let r = p.0.ringable in
    let e = on-ends a.words.now a.corners a.links a.nf a.s r in
    record { walk = (r.walkable, r.room, r.mated); few = record { stops = e.stops; few = omega (arith, e.few, p.1) }; marks = p.0.room }

pub sharp_rest-requires : goal.sharp_rest-requires
sharp_rest-requires c = let a = c.args in
    let p = c.requires in
    let w = a.words.now in
    let q = sym c.sharp_on-p.ensures.trip ∙ c.in-Ended.is in
    let t = turned w a.corners a.links a.nf a.s p.0.ringable c.in-Ended.n c.in-Ended.end q in
    let f = tally-few (sharp (marks_in w a.marks a.nf)) (trail (next_corner (links_in w a.links (3 * a.nf)) a.s) a.nf (here a.s)) in
    let m = met-count c.before.before.before.before.before.before in
    record { words = (p.0.ringable.walkable, p.0.ringable.room); on = (t.1.some, t.1.fits, t.1.few, rw (c.sharp_on-p.ensures.ring, length-sets) p.1); back = t.1.back; marks = (p.0.room, omega (arith, m, f, t.0, t.1.fits)) }

pub returns-in-Closed : goal.returns-in-Closed
returns-in-Closed c = let a = c.args in
    let p = c.requires in
    let w = a.words.now in
    let ls = links_in w a.links (3 * a.nf) in
    let fs = part a.corners (3 * a.nf) w in
    let ms = marks_in w a.marks a.nf in
    let v = walk (next_corner ls a.s) a.nf (here a.s) in
    let q = sym c.sharp_on-p.ensures.trip ∙ c.in-Closed.is in
    let i = inner-is ls a.nf a.s (faces-in w a.links a.nf a.s p.0.ringable.walkable) c.in-Closed.n q in record { ring = ap₂ ring_by (sym (length-map (passed v) (λ s. corner fs (onward s)) ∙ counted-closed (stop_of v) _ _ _ q)) c.sharp_on-p.ensures.met ∙ sym (ap (sharp_ring_of fs ms) i.is); out = c.sharp_on-p.ensures.ring ∙ sym (ap (λ (f : Fan). sets a.out.now 0 (ring fs f)) i.is) }

pub returns-in-Ended : goal.returns-in-Ended
returns-in-Ended c = let a = c.args in
    let p = c.requires in
    let x = c.sharp_rest.result in
    let n = c.in-Ended.n in
    let e = c.in-Ended.end in
    let w = a.words.now in
    let ls = links_in w a.links (3 * a.nf) in
    let fs = part a.corners (3 * a.nf) w in
    let ms = marks_in w a.marks a.nf in
    let on = trail (next_corner ls a.s) a.nf (here a.s) in
    let q = sym c.sharp_on-p.ensures.trip ∙ c.in-Ended.is in
    let t = turned w a.corners a.links a.nf a.s p.0.ringable n e q in
    let d = creased w a.corners a.links a.nf a.s p.0.ringable ms p.0.both n e q in
    let back = passed (walk (prev_corner ls e) (a.nf + 1 - n) (here a.s)) in
    let b = backs fs back in
    let vs = ring fs (fan ls a.s) in
    let lb : length b ≡ length back = length-map back (λ s. corner fs (backward s)) in
    let lo : length (inners fs on) ≡ n = length-map on (λ s. corner fs (onward s)) ∙ t.0 in
    let ln : n + length b ≡ length vs =
    sym (ap (λ (l : List ℕ). length l) t.1.ring ∙ length-append (down_from (inners fs on) (n - 1)) b ∙ rw (length-down (inners fs on) (n - 1)) (omega (arith, t.1.some))) in
    let fits : length vs ≤ length a.out.now = omega (arith, ln, t.1.back.few, t.1.fits, p.1, lb) in
    let out =
    c.sharp_rest.ensures.ring
    ∙ ap (λ (o : List ℕ). sets o 0 (down_from o (n - 1) ++ b)) c.sharp_on-p.ensures.ring
    ∙ turned-over a.out.now (inners fs on) b n t.1.some lo (omega (arith, t.1.back.few, t.1.fits, p.1, lb))
    ∙ sym (ap (λ (l : List ℕ). sets a.out.now 0 l) t.1.ring) in
    let xn : x.n ≡ length vs = c.sharp_rest.ensures.count ∙ ln in
    let xk : x.creases ≡ length (creases fs ms (fan ls a.s)) = (let m = met-count c.before.before.before.before.before.before.before.before.before in let h = d.number in let y = c.sharp_rest.ensures.creases in omega (arith, m, h, y)) in
    let xa : x.a ≡ get_or (creases fs ms (fan ls a.s)) 0 0 =
    c.sharp_rest.ensures.ends.0 ∙ ap (λ (o : List ℕ). get_or o 0 0) out ∙ stored_at a.out.now vs 0 (omega (arith, ln, t.1.some)) fits ∙ sym d.first in
    let xb : x.b ≡ get_or (creases fs ms (fan ls a.s)) 1 0 =
    c.sharp_rest.ensures.ends.1 ∙ ap₂ (λ (o : List ℕ) (i : ℕ). get_or o (i - 1) 0) out xn ∙ stored_at a.out.now vs (length vs - 1) (omega (arith, ln, t.1.some)) fits ∙ sym d.second in
    record { ring = same-ring x _ _ _ _ xn xk xa xb; out = out }

pub returns-in-Long : goal.returns-in-Long
returns-in-Long c = let a = c.args in
    let p = c.requires in
    let w = a.words.now in
    absurd (p.0.ringable.turns (long-is (links_in w a.links (3 * a.nf)) a.nf a.s (faces-in w a.links a.nf a.s p.0.ringable.walkable) (sym c.sharp_on-p.ensures.trip ∙ c.in-Long.is)))
