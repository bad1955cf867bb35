use mathlib.Core.Path.{sym, ◌∙◌}
use native.Mathlib.Omega.{arith}
use lib.Seq.{length-take-le}
use Rattle.reader.proofs.Laws.{good_length, no-vertices, vertices-are}
use Rattle.reader.proofs.Read.{read, none-is-bad}
use Rattle.reader.proofs.vertex_block.Goals as goal

pub returns-in_default : goal.returns-in_default
returns-in_default c = no-vertices c.args.b.now (none-is-bad c.args.b.now (sym c.read_sheet.ensures ∙ c.in_default.is))

pub slice_bounds-result-end-2 : goal.slice_bounds-result-end-2
slice_bounds-result-end-2 c = let k = read c.args.b.now c.in-Some.s (sym c.in-Some.ensures) in
    sym (length-take-le _ _ (omega (arith, good_length c.args.b.now k.good, k.verts)))

pub returns : goal.returns
returns c = let k = read c.args.b.now c.in-Some.s (sym c.in-Some.ensures) in rw (← k.verts) (vertices-are c.args.b.now k.good)
