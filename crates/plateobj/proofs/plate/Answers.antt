use Rattle.std.specs.Prelude.{Err, Ok}
use Prim.Native.Nat.{◌*◌, ◌≤◌}
use mathlib.Core.Path.{◌≡◌, sym, ◌∙◌}
use native.Mathlib.Omega.{arith}
use lib.ListN.{take}
use Rattle.lists.proofs.Stores.{part_of}
use Rattle.rules.specs.Position.{whole}
use Rattle.rules.specs.Levels.{positions}
use Rattle.rules.specs.Sheets.{sheet_outcome}
use Rattle.rules.specs.Calls.{sheet_last}
use Rattle.rules.specs.Outcome.{Outcome}
use Rattle.sheet.proofs.Calls.{Done, done}
use Rattle.plateobj.specs.Output.{plate_rooms, text_for}
use Rattle.plateobj.proofs.Laws.{within, rooms-are, plate-has}
use borrow.Author.Rules.{rules}
use Rattle.plateobj.proofs.plate.Lts
use Rattle.plateobj.proofs.plate.Reads
use Rattle.plateobj.proofs.plate.Tie
use Rattle.plateobj.proofs.plate.Goals as goal

abbrev After-subdivide_sheet : Type 0
After-subdivide_sheet = Lts.After-subdivide_sheet Tie.the-claims Reads.Pre Reads.Post Tie.handed_clauses

abbrev In-Refused : Type 0
In-Refused = Lts.Past-After-known_told Tie.the-claims Reads.Pre Reads.Post Tie.handed_clauses

abbrev In-Success : Type 0
In-Success = Lts.Past-After-known_told2 Tie.the-claims Reads.Pre Reads.Post Tie.handed_clauses

-- ---- what the engine said
said : (k : After-subdivide_sheet) → k.subdivide_sheet.result ≡ sheet_outcome plate_rooms k.args.bytes.now
said k =
    rooms-are k.positions_room-positions.result k.indices_room-indices.result k.words_room-words.result k.work_room-work.result _ _
    k.positions_room-positions.ensures k.indices_room-indices.ensures k.words_room-words.ensures k.work_room-work.ensures k.subdivide_sheet.ensures.answer

refused : (k : In-Refused) → sheet_outcome plate_rooms k.args.bytes.now ≡ Err k.in-Err.r
refused k = sym (said k.before.before.before.before.before) ∙ k.in-Err.is

answered : (k : In-Success) → sheet_outcome plate_rooms k.args.bytes.now ≡ Ok k.in-Ok.c
answered k = sym (said k.before.before.before.before.before) ∙ k.in-Ok.is

ok : (k : In-Success) → Done plate_rooms k.args.bytes.now k.in-Ok.c
ok k = done plate_rooms _ _ (answered k)

few : (k : In-Success) → (k.in-Ok.c.vertices ≤ 32768) × (k.in-Ok.c.faces ≤ 32768)
few k = within k.in-Ok.c (ok k).room

positions-are : (k : In-Success) → take (3 * k.in-Ok.c.vertices) k.subdivide_sheet.new.positions ≡ positions whole (sheet_last k.args.bytes.now)
positions-are k =
    let h = few k in
    rw (k.subdivide_sheet.ensures.positions, k.in-Ok.is) (part_of _ _ 0 _ (ok k).positions (omega (arith, h.0, k.positions_room-positions.ensures)))

faces-are : (k : In-Success) → take (3 * k.in-Ok.c.faces) k.subdivide_sheet.new.out ≡ (sheet_last k.args.bytes.now).mesh.faces
faces-are k =
    let h = few k in
    rw (k.subdivide_sheet.ensures.indices, k.in-Ok.is) (part_of _ _ 0 _ (ok k).faces (omega (arith, h.1, k.indices_room-indices.ensures)))

pub slice_bounds-positions-end : goal.slice_bounds-positions-end
slice_bounds-positions-end c = omega (arith, (few c.before.before.before.before).0, c.subdivide_sheet.auto.positions, c.positions_room-positions.ensures)

pub slice_bounds-written-end : goal.slice_bounds-written-end
slice_bounds-written-end c = rw (positions-are c.before.before.before.before.before) (sym (ok c.before.before.before.before.before).positions)

pub slice_bounds-indices-end : goal.slice_bounds-indices-end
slice_bounds-indices-end c = omega (arith, (few c.before.before.before.before.before).1, c.subdivide_sheet.auto.out, c.indices_room-indices.ensures)

pub slice_bounds-written-end-in-Ok : goal.slice_bounds-written-end-in-Ok
slice_bounds-written-end-in-Ok c = rw (faces-are c.before.before.before.before.before.before) (sym (ok c.before.before.before.before.before.before).faces)

pub written-requires : goal.written-requires
written-requires c = (c.requires, rw (positions-are c.before.before.before.before.before.before, faces-are c.before.before.before.before.before.before) (plate-has _ _ (answered c.before.before.before.before.before.before)))

pub returns-in-Err : goal.returns-in-Err
unfolding text_for
returns-in-Err c = record { put = rw (refused c.before.before.before.before.before) c.refused_text.ensures.put; upper_bound = c.refused_text.ensures.upper_bound }

pub returns-in-Ok : goal.returns-in-Ok
unfolding text_for
returns-in-Ok c = record { put = rw (answered c.before.before.before.before.before.before.before.before.before) (rw (positions-are c.before.before.before.before.before.before.before.before.before, faces-are c.before.before.before.before.before.before.before.before.before) at c.written.ensures.put); upper_bound = c.written.ensures.upper_bound }
