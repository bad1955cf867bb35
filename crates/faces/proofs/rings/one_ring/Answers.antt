use mathlib.Core.Path.{◌≡◌, sym, ap, ap₂, ◌∙◌}
use mathlib.Core.Bool.{Bool, false}
use Prim.Native.Nat.{ℕ, ◌+◌, ◌-◌, ◌*◌}
use native.Mathlib.Omega.{arith}
use mathlib.Core.List.{List, ◌++◌}
use lib.ListN.{length, length-map, length-append}
use lib.Seq.{sets, length-sets}
use Rattle.lists.specs.Lists.{part}
use Rattle.rules.specs.Mesh.{Fan, onward, backward, corner, here, walk, passed, stop_of, next_corner, prev_corner, fan, ring}
use Rattle.rules.proofs.Walks.{trail}
use Rattle.faces.specs.Words.{links_in}
use Rattle.faces.specs.Rings.{inners, backs, down_from, is_rim, ring_of}
use Rattle.faces.specs.declared.rings.Ring.{Ring}
use Rattle.faces.proofs.Trails.{faces-in, inner-is, rim-is, long-is}
use Rattle.faces.proofs.Retrace.{length-down}
use Rattle.faces.proofs.Passage.{turned, on-ends, turned-over, counted-closed}
use Rattle.faces.proofs.rings.one_ring.Goals as goal

abbrev counted : ℕ → Bool → Ring
counted n b = record { n = n; rim = b }

pub gather_on-requires : goal.gather_on-requires
gather_on-requires c = let a = c.args in
    let p = c.requires in
    let e = on-ends a.words.now a.corners a.links a.nf a.s p.0 in
    record { walk = (p.0.walkable, p.0.room, p.0.mated); few = record { stops = e.stops; few = omega (arith, e.few, p.1) } }

pub rim_rest-requires : goal.rim_rest-requires
rim_rest-requires c = let a = c.args in
    let p = c.requires in
    let t = (turned a.words.now a.corners a.links a.nf a.s p.0 c.in-Ended.n c.in-Ended.end (sym c.gather_on.ensures.trip ∙ c.in-Ended.is)).1 in
    record { words = (p.0.walkable, p.0.room); on = (t.some, t.fits, t.few, rw (c.gather_on.ensures.ring, length-sets) p.1); back = t.back }

pub returns-in-Closed : goal.returns-in-Closed
returns-in-Closed c = let a = c.args in
    let p = c.requires in
    let w = a.words.now in
    let ls = links_in w a.links (3 * a.nf) in
    let fs = part a.corners (3 * a.nf) w in
    let v = walk (next_corner ls a.s) a.nf (here a.s) in
    let q = sym c.gather_on.ensures.trip ∙ c.in-Closed.is in
    let i = inner-is ls a.nf a.s (faces-in w a.links a.nf a.s p.0.walkable) c.in-Closed.n q in record { ring = ap (λ (n : ℕ). counted n false) (sym (length-map (passed v) (λ s. corner fs (onward s)) ∙ counted-closed (stop_of v) _ _ _ q)) ∙ sym (ap (ring_of fs) i.is); out = c.gather_on.ensures.ring ∙ sym (ap (λ (f : Fan). sets a.out.now 0 (ring fs f)) i.is) }

pub returns-in-Ended : goal.returns-in-Ended
returns-in-Ended c = let a = c.args in
    let p = c.requires in
    let n = c.in-Ended.n in
    let e = c.in-Ended.end in
    let w = a.words.now in
    let ls = links_in w a.links (3 * a.nf) in
    let fs = part a.corners (3 * a.nf) w in
    let on = trail (next_corner ls a.s) a.nf (here a.s) in
    let q = sym c.gather_on.ensures.trip ∙ c.in-Ended.is in
    let t = turned w a.corners a.links a.nf a.s p.0 n e q in
    let i = rim-is ls a.nf a.s (faces-in w a.links a.nf a.s p.0.walkable) p.0.turns n e q in
    let back = passed (walk (prev_corner ls e) (a.nf + 1 - n) (here a.s)) in
    let b = backs fs back in
    let lb : length b ≡ length back = length-map back (λ s. corner fs (backward s)) in
    let lo : length (inners fs on) ≡ n = length-map on (λ s. corner fs (onward s)) ∙ t.0 in
    let ln : n + length b ≡ length (ring fs (fan ls a.s)) =
    sym (ap (λ (l : List ℕ). length l) t.1.ring ∙ length-append (down_from (inners fs on) (n - 1)) b ∙ rw (length-down (inners fs on) (n - 1)) (omega (arith, t.1.some))) in record {
      ring = ap₂ counted (c.rim_rest.ensures.count ∙ ln) (sym (ap is_rim i.is));
      out = c.rim_rest.ensures.ring
          ∙ ap (λ (o : List ℕ). sets o 0 (down_from o (n - 1) ++ b)) c.gather_on.ensures.ring
          ∙ turned-over a.out.now (inners fs on) b n t.1.some lo (omega (arith, t.1.back.few, t.1.fits, p.1, lb))
          ∙ sym (ap (λ (l : List ℕ). sets a.out.now 0 l) t.1.ring);
    }

pub returns-in-Long : goal.returns-in-Long
returns-in-Long c = let a = c.args in
    let p = c.requires in
    let w = a.words.now in
    absurd (p.0.turns (long-is (links_in w a.links (3 * a.nf)) a.nf a.s (faces-in w a.links a.nf a.s p.0.walkable) (sym c.gather_on.ensures.trip ∙ c.in-Long.is)))
