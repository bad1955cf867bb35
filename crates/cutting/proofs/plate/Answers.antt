use Rattle.std.specs.Prelude.{Err, Ok}
use Prim.Native.Nat.{ℕ, ◌*◌, ◌≤◌}
use mathlib.Core.List.{List}
use lib.IntN.{ℤ}
use mathlib.Core.Path.{◌≡◌, sym}
use native.Mathlib.Omega.{arith}
use lib.ListN.{length, take}
use lib.Seq.{sets}
use Rattle.lists.proofs.Stores.{part_of}
use Rattle.rules.specs.Position.{whole}
use Rattle.rules.specs.Levels.{positions}
use Rattle.rules.specs.Sheets.{cut_rooms, sheet_outcome}
use Rattle.rules.specs.Calls.{sheet_last}
use Rattle.rules.specs.declared.Counts.{Counts}
use Rattle.sheet.proofs.Calls.{Done, done}
use Rattle.cutting.specs.Output.{text_for}
use Rattle.cutting.proofs.Laws.{within}
use Rattle.cutting.proofs.plate.Goals as goal

-- what a success says: the plate stands at the front of the lent lists
module _ (b : List ℕ) (d : Counts) (e : sheet_outcome cut_rooms b ≡ Ok d) where
  ok : Done cut_rooms b d
  ok = done cut_rooms b d e

  few : (d.vertices ≤ 512) × (d.faces ≤ 512)
  few = within d ok.room

  positions-are : (old new : List ℤ) → new ≡ sets old 0 (positions whole (sheet_last b)) → 1536 ≤ length old → take (3 * d.vertices) new ≡ positions whole (sheet_last b)
  positions-are old new w h = rw w (part_of (positions whole (sheet_last b)) old 0 (3 * d.vertices) ok.positions (omega (arith, few)))

  faces-are : (old new : List ℕ) → new ≡ sets old 0 (sheet_last b).mesh.faces → 1536 ≤ length old → take (3 * d.faces) new ≡ (sheet_last b).mesh.faces
  faces-are old new w h = rw w (part_of (sheet_last b).mesh.faces old 0 (3 * d.faces) ok.faces (omega (arith, few)))

pub slice_bounds-positions-end : goal.slice_bounds-positions-end
slice_bounds-positions-end g c = omega (arith, few c.args.bytes.now c.in-Ok.c (sym c.in-Ok.ensures.answer), c.subdivide_by.auto.positions)

pub slice_bounds-mesh_text-end : goal.slice_bounds-mesh_text-end
slice_bounds-mesh_text-end g c = let e : sheet_outcome cut_rooms c.args.bytes.now ≡ Ok c.in-Ok.c = sym c.in-Ok.ensures.answer in
    rw (positions-are c.args.bytes.now c.in-Ok.c e _ _ c.in-Ok.ensures.positions (omega arith)) (sym (ok c.args.bytes.now c.in-Ok.c e).positions)

pub slice_bounds-indices-end : goal.slice_bounds-indices-end
slice_bounds-indices-end g c = omega (arith, few c.args.bytes.now c.in-Ok.c (sym c.in-Ok.ensures.answer), c.subdivide_by.auto.out)

pub slice_bounds-mesh_text-end-in-Ok : goal.slice_bounds-mesh_text-end-in-Ok
slice_bounds-mesh_text-end-in-Ok g c = let e : sheet_outcome cut_rooms c.args.bytes.now ≡ Ok c.in-Ok.c = sym c.in-Ok.ensures.answer in
    rw (faces-are c.args.bytes.now c.in-Ok.c e _ _ c.in-Ok.ensures.indices (omega arith)) (sym (ok c.args.bytes.now c.in-Ok.c e).faces)

pub mesh_text-requires : goal.mesh_text-requires
mesh_text-requires g c = let e : sheet_outcome cut_rooms c.args.bytes.now ≡ Ok c.in-Ok.c = sym c.in-Ok.ensures.answer in
    let k = ok c.args.bytes.now c.in-Ok.c e in
    let h = few c.args.bytes.now c.in-Ok.c e in
    record { lists = (rw (positions-are c.args.bytes.now c.in-Ok.c e _ _ c.in-Ok.ensures.positions (omega arith)) (omega (arith, k.positions)), rw (faces-are c.args.bytes.now c.in-Ok.c e _ _ c.in-Ok.ensures.indices (omega arith)) (omega (arith, k.faces))); room = omega arith }

pub returns-in-Err : goal.returns-in-Err
unfolding text_for
returns-in-Err g c = let e : sheet_outcome cut_rooms c.args.bytes.now ≡ Err c.in-Err.r = sym c.in-Err.ensures.answer in
    record { put = rw e c.refused_text.ensures.put; upper_bound = c.refused_text.ensures.upper_bound }

pub returns-in-Ok : goal.returns-in-Ok
unfolding text_for
returns-in-Ok g c = let e : sheet_outcome cut_rooms c.args.bytes.now ≡ Ok c.in-Ok.c = sym c.in-Ok.ensures.answer in
    let p = positions-are c.args.bytes.now c.in-Ok.c e _ _ c.in-Ok.ensures.positions (omega arith) in
    let f = faces-are c.args.bytes.now c.in-Ok.c e _ _ c.in-Ok.ensures.indices (omega arith) in
    record { put = rw e (rw (p, f) at c.mesh_text.ensures.put); upper_bound = c.mesh_text.ensures.upper_bound }
