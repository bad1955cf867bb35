use borrow.Author.Rules.{rules}
use mathlib.Core.Path.{◌≡◌, sym, ap, ◌∙◌}
use Prim.Native.Nat.{◌-◌, ◌*◌}
use native.Mathlib.Omega.{arith}
use lib.ListN.{length}
use lib.Seq.{sets}
use Rattle.lists.specs.Lists.{part}
use Rattle.rules.specs.Mesh.{Fan, links, ring, walk, here, next_corner, endless, fan}
use mathlib.Core.List.{List}
use mathlib.Core.Logic.{◌≢◌}
use Prim.Native.Nat.{ℕ}
use Rattle.faces.specs.Rings.{trip_of}
use Rattle.faces.specs.declared.walks.Trip.{Trip}
use Rattle.faces.specs.declared.walks.Trip.TheVariants as trip
use Rattle.looks.specs.Looked.{Seen}
use Rattle.faces.proofs.Trails.{IsInner, IsRim, inner-is, rim-is, long-is, inner-ends}
use Rattle.marks.specs.Marks.{marks_in}
use Rattle.creases.specs.Rings.{sharp_ring_of}
use Rattle.looks.proofs.Walks.{faces-in, last-below, next-below}
use Rattle.looks.proofs.Rims.{rim-ends}
use Rattle.looks.proofs.rings.sharp_ring.Goals as goal

-- the fan, where the turn is inner, and where it is at the rim
module _ (w : List ℕ) (at n s : ℕ) (p : Seen w at n) (t : Trip) (on : t ≡ trip_of (walk (next_corner (links (part at (3 * n) w)) s) n (here s))) where
  inner_fan : (m : ℕ) → t ≡ trip.Closed m → IsInner (links (part at (3 * n) w)) n s
  inner_fan m e = inner-is (links (part at (3 * n) w)) n s (faces-in w at n p) m (sym on ∙ e)

  rim-fan : fan (links (part at (3 * n) w)) s ≢ endless → (m e : ℕ) → t ≡ trip.Ended m e → IsRim (links (part at (3 * n) w)) n s e
  rim-fan h m e q = rim-is (links (part at (3 * n) w)) n s (faces-in w at n p) h m e (sym on ∙ q)

pub walk-requires : goal.walk-requires
walk-requires c = let a = c.args in
    let p = c.requires.0.seen in
    record { start = c.requires.0.start; steps = record { asks = λ x h. (let l = p.listed in let d = p.apart in search rules); stays = λ x t h q. next-below a.words.now a.at a.nf p a.s x t h (search rules) } }

pub inner_ring-requires : goal.inner_ring-requires
inner_ring-requires c = let a = c.args in
    let p = c.requires in
    let i = inner_fan a.words.now a.at a.nf a.s c.requires.0.seen c.walk.result (c.walk.ensures (next_corner (links (part a.at (3 * a.nf) a.words.now)) a.s) (record { each = λ x r b p. search rules })) c.in-Closed.field-0 c.in-Closed.is in (
      p.0.seen,
      p.0.start,
      inner-ends (links (part a.at (3 * a.nf) a.words.now)) a.nf a.s (length a.out.now) i (omega (arith, p.0.few, p.2)),
      p.1,
    )

pub rim_ring-requires : goal.rim_ring-requires
rim_ring-requires c = let a = c.args in
    let p = c.requires in
    let w = a.words.now in
    let e = c.in-Ended.end in
    let i = rim-fan a.words.now a.at a.nf a.s c.requires.0.seen c.walk.result (c.walk.ensures (next_corner (links (part a.at (3 * a.nf) a.words.now)) a.s) (record { each = λ x r b p. search rules })) c.requires.0.turns c.in-Ended.field-0 c.in-Ended.end c.in-Ended.is in (
      p.0.seen,
      rw (← i.end) (last-below w a.at a.nf p.0.seen a.s p.0.start),
      rim-ends (links (part a.at (3 * a.nf) w)) a.nf a.s e (length a.out.now - 1) i (omega (arith, p.0.few, p.2)),
      p.1,
    )

pub returns-in-Closed : goal.returns-in-Closed
returns-in-Closed c = let a = c.args in
    let w = a.words.now in
    let fs = part a.at (3 * a.nf) w in
    let i = inner_fan a.words.now a.at a.nf a.s c.requires.0.seen c.walk.result (c.walk.ensures (next_corner (links (part a.at (3 * a.nf) a.words.now)) a.s) (record { each = λ x r b p. search rules })) c.in-Closed.field-0 c.in-Closed.is in record { ring = c.inner_ring.ensures.ring ∙ sym (ap (sharp_ring_of fs (marks_in w a.marks a.nf)) i.is); out = c.inner_ring.ensures.out ∙ sym (ap (λ (f : Fan). sets a.out.now 0 (ring fs f)) i.is) }

pub returns-in-Ended : goal.returns-in-Ended
returns-in-Ended c = let a = c.args in
    let w = a.words.now in
    let fs = part a.at (3 * a.nf) w in
    let i = rim-fan a.words.now a.at a.nf a.s c.requires.0.seen c.walk.result (c.walk.ensures (next_corner (links (part a.at (3 * a.nf) a.words.now)) a.s) (record { each = λ x r b p. search rules })) c.requires.0.turns c.in-Ended.field-0 c.in-Ended.end c.in-Ended.is in record { ring = c.rim_ring.ensures.ring ∙ sym (ap (sharp_ring_of fs (marks_in w a.marks a.nf)) i.is); out = c.rim_ring.ensures.out ∙ sym (ap (λ (f : Fan). sets a.out.now 0 (ring fs f)) i.is) }

pub returns-in-Long : goal.returns-in-Long
returns-in-Long c = let a = c.args in
    let p = c.requires.0 in
    absurd (p.turns (long-is (links (part a.at (3 * a.nf) a.words.now)) a.nf a.s (faces-in a.words.now a.at a.nf p.seen) (sym (c.walk.ensures (next_corner (links (part a.at (3 * a.nf) a.words.now)) a.s) (record { each = λ x r b p. search rules })) ∙ c.in-Long.is)))
