use Prim.Native.Nat.{◌+◌, ◌-◌, ◌*◌}
use mathlib.Core.Path.{◌≡◌, sym, ◌∙◌}
use native.Mathlib.Omega.{arith}
use Rattle.reader.proofs.Laws.{good_length, no-faces, faces-are}
use Rattle.reader.proofs.Read.{read, none-is-bad}
use Rattle.reader.proofs.face_block.Goals as goal

pub returns-in_default : goal.returns-in_default
returns-in_default c = no-faces c.args.b.now (none-is-bad c.args.b.now (sym c.read_sheet.ensures ∙ c.in_default.is))

pub slice_bounds-result-end-2 : goal.slice_bounds-result-end-2
slice_bounds-result-end-2 c = let k = read c.args.b.now c.in-Some.s (sym c.in-Some.ensures) in
    omega (arith, good_length c.args.b.now k.good, k.verts, k.faces)

pub returns : goal.returns
returns c = let k = read c.args.b.now c.in-Some.s (sym c.in-Some.ensures) in
    let e : 12 * c.in-Some.s.vertices + 12 * c.in-Some.s.faces - 12 * c.in-Some.s.vertices ≡ 12 * c.in-Some.s.faces = omega arith in
    rw (e, ← k.verts, ← k.faces) (faces-are c.args.b.now k.good)
