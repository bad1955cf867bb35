use mathlib.Core.Path.{refl, sym, ap, ◌∙◌}
use native.Mathlib.Omega.{arith}
use Rattle.spots.specs.Spots.{is_stuck}
use Rattle.obj.specs.Inside.{seen_of}
use Rattle.obj.proofs.Few.{one-coord, one-corner}
use Rattle.obj.proofs.Going.{not-whole, going-stuck, few, fits-here, seen_end, filling-first, filling-more, filled-coords, filled-corners}
use Rattle.obj.proofs.Runs.{onward-up, onward-within, filling-onward}
use Rattle.obj.proofs.reading.pass.Goals as goal

pub loop-at-init : goal.loop-at-init
loop-at-init c = (omega arith, filling-first _ _ _, refl, refl)

pub overflow_cast-at : goal.overflow_cast-at
overflow_cast-at c = omega (arith, (few _ _ _ _ _ c.loop-at.invariant.1.going).0)

pub shape_of-coords-then-is_stuck : goal.shape_of-coords-then-is_stuck
shape_of-coords-then-is_stuck c = c.loop-at.invariant.2

pub shape_of-corners-then-is_stuck : goal.shape_of-corners-then-is_stuck
shape_of-corners-then-is_stuck c = c.loop-at.invariant.3

-- stuck: the place is told, and the text is not whole
pub returns-then-is_stuck : goal.returns-then-is_stuck
returns-then-is_stuck c = let l = c.loop-at in
    let s = going-stuck _ _ _ _ _ l.invariant.1.going _ c.wide-c.ensures.0 (omega arith) (ap is_stuck (sym c.turn-to.ensures) ∙ sym c.is_stuck.ensures ∙ c.if-is_stuck.true) in
    record { seen = rw c.wrong_at.ensures (sym (ap seen_of s)); coords = λ w. absurd (not-whole _ _ s w); corners = λ w. absurd (not-whole _ _ s w) }

pub store_coord-requires : goal.store_coord-requires
store_coord-requires c = rw c.ended-h.ensures (fits-here _ _ _ _ _ c.loop-at.invariant.1.going c.wide-c.result c.wide-c.ensures.0 (omega arith))

pub store_corner-requires : goal.store_corner-requires
store_corner-requires c = rw c.ended-h.ensures (fits-here _ _ _ _ _ c.loop-at.invariant.1.going c.wide-c.result c.wide-c.ensures.0 (omega arith))

pub overflow_add-i : goal.overflow_add-i
overflow_add-i c = omega (arith, (few _ _ _ _ _ c.loop-at.invariant.1.going).1.0, one-coord c.ended-h.result, c.coords_held-i.ensures)

pub overflow_add-j : goal.overflow_add-j
overflow_add-j c = omega (arith, (few _ _ _ _ _ c.loop-at.invariant.1.going).1.1, one-corner c.ended-h.result, c.corners_held-j.ensures)

pub loop-at-smaller : goal.loop-at-smaller
loop-at-smaller c = omega (arith, onward-up _ _ _ _ _ _ c.onward-s.ensures)

pub loop-at-preserved : goal.loop-at-preserved
loop-at-preserved c = let l = c.loop-at in
    let free = ap is_stuck (sym c.turn-to.ensures) ∙ sym c.is_stuck.ensures ∙ c.if-is_stuck.false in
    let f = filling-more _ _ _ _ _ _ _ _ _ l.invariant.1 c.wide-c.result c.wide-c.ensures.0 (omega (arith, c.loop-at-test.true)) free _ _ (rw c.ended-h.ensures at c.store_coord.ensures) (rw c.ended-h.ensures at c.store_corner.ensures) in
    let o = c.onward-s.ensures in (
      onward-within _ _ _ _ _ _ (omega (arith, c.loop-at-test.true)) o,
      filling-onward _ _ _ _ _ _ _ _ _ _ _ (rw (c.turn-to.ensures, c.coords_held-i.ensures, c.corners_held-j.ensures, c.ended-h.ensures) f) o,
      c.store_coord.auto.coords ∙ l.invariant.2,
      c.store_corner.auto.corners ∙ l.invariant.3,
    )

pub overflow_cast-at-2 : goal.overflow_cast-at-2
overflow_cast-at-2 c = omega (arith, (few _ _ _ _ _ c.loop-at.invariant.1.going).0)

pub shape_of-coords : goal.shape_of-coords
shape_of-coords c = c.loop-at.invariant.2

pub shape_of-corners : goal.shape_of-corners
shape_of-corners c = c.loop-at.invariant.3

pub returns : goal.returns
returns c = let f = c.loop-at.invariant.1 in record { seen = c.seen_at.ensures ∙ seen_end _ _ _ _ _ f.going (omega arith); coords = λ w. filled-coords _ _ _ _ _ _ _ _ _ f w (omega arith); corners = λ w. filled-corners _ _ _ _ _ _ _ _ _ f w (omega arith) }
