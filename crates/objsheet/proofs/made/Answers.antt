use mathlib.Core.Path.{refl, sym, ◌∙◌}
use native.Mathlib.Omega.{arith}
use lib.ListN.{length}
use Rattle.std.proofs.lemmas.Result.{err_from_is_err_and}
use Rattle.objsheet.proofs.Laws.{over, lists-are, front, not-read, by-writer}
use Rattle.objsheet.proofs.made.Goals as goal

pub returns-then-text-gt1900544 : goal.returns-then-text-gt1900544
returns-then-text-gt1900544 c = let a = c.args in
    record { answer = over (length a.out.now) a.levels a.text.now (omega arith); bytes = refl }

pub slice_bounds-corners-end : goal.slice_bounds-corners-end
slice_bounds-corners-end c = let g = front _ _ _ _ _ _ c.read_obj.ensures c.in_ok-read.was in omega (arith, g.corners-fit, c.read_obj.auto.corners)

pub slice_bounds-write_sheet-end : goal.slice_bounds-write_sheet-end
slice_bounds-write_sheet-end c = let g = front _ _ _ _ _ _ c.read_obj.ensures c.in_ok-read.was in rw g.corners (sym g.corners-long)

pub slice_bounds-coords-end : goal.slice_bounds-coords-end
slice_bounds-coords-end c = let g = front _ _ _ _ _ _ c.read_obj.ensures c.in_ok-read.was in omega (arith, g.coords-fit, c.read_obj.auto.coords)

pub slice_bounds-write_sheet-end-2 : goal.slice_bounds-write_sheet-end-2
slice_bounds-write_sheet-end-2 c = let g = front _ _ _ _ _ _ c.read_obj.ensures c.in_ok-read.was in rw g.coords (sym g.coords-long)

pub returns-in_err-read : goal.returns-in_err-read
returns-in_err-read c = let a = c.args in
    let p = err_from_is_err_and c.from_residual.result c.from_residual.ensures.1 in
    let s = lists-are c.coords_room-coords.result c.corners_room-corners.result _ _ c.coords_room-coords.ensures c.corners_room-corners.ensures c.read_obj.ensures.answer in
    rw (p.1, p.2) (record { answer = not-read (length a.out.now) a.levels a.text.now c.if-text-gt1900544.false _ (sym s ∙ c.in_err-read.was); bytes = refl })

pub returns : goal.returns
returns c = let a = c.args in
    let g = front _ _ _ _ _ _ c.read_obj.ensures c.in_ok-read.was in
    let s = lists-are c.coords_room-coords.result c.corners_room-corners.result _ _ c.coords_room-coords.ensures c.corners_room-corners.ensures c.read_obj.ensures.answer in
    let w = c.write_sheet.ensures in
    record {
      answer = by-writer (length a.out.now) a.levels a.text.now c.if-text-gt1900544.false _ _ _ (sym s ∙ c.in_ok-read.was) (rw (g.coords, g.corners) at w.answer);
      bytes = rw (g.coords, g.corners) at w.bytes;
    }
