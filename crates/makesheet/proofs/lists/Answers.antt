use Prim.Native.Nat.{◌+◌, ◌*◌}
use mathlib.Core.Path.{◌≡◌, refl, sym}
use native.Mathlib.Omega.{arith}
use lib.ListN.{take, drop}
use lib.Seq.{length-take-le}
use Rattle.rules.specs.Sheets.{word_at, signed, words_of, coords_of}
use Rattle.reader.proofs.Read.{decoded}
use Rattle.makesheet.proofs.Laws.{rest}
use Rattle.makesheet.proofs.lists.Lts
use Rattle.makesheet.proofs.lists.Reads
use Rattle.makesheet.proofs.lists.Tie
use Rattle.makesheet.proofs.lists.Goals as goal

abbrev After-coords : Type 0
After-coords = Lts.After-numbers_from Tie.the-claims Reads.Pre Reads.Post

abbrev After-corners : Type 0
After-corners = Lts.After-numbers_from2 Tie.the-claims Reads.Pre Reads.Post

coords-are : (k : After-coords) → (let a = k.args in take a.nc k.numbers_from.new.s ≡ coords_of (drop 12 a.bytes.now) a.nc)
coords-are k =
    let h = k.requires in
    rw (k.numbers_from.ensures, rest k.args.bytes.now 12)
    (decoded (λ i. signed (word_at (drop 12 k.args.bytes.now) (4 * i))) _ k.args.nc k.args.nc refl (omega arith))

corners-are : (k : After-corners) → (let a = k.args in take a.ni k.numbers_from-2.new.s ≡ words_of (drop (12 + 4 * a.nc) a.bytes.now) a.ni)
corners-are k =
    let h = k.requires in
    rw (k.numbers_from-2.ensures, rest k.args.bytes.now (12 + 4 * k.args.nc))
    (decoded (λ i. word_at (drop (12 + 4 * k.args.nc) k.args.bytes.now) (4 * i)) _ k.args.ni k.args.ni refl (omega arith))

pub slice_bounds-write_sheet-end : goal.slice_bounds-write_sheet-end
slice_bounds-write_sheet-end c = sym (length-take-le _ _ (omega (arith, c.numbers_from-2.auto.s)))

pub slice_bounds-write_sheet-end-2 : goal.slice_bounds-write_sheet-end-2
slice_bounds-write_sheet-end-2 c = sym (length-take-le _ _ (omega (arith, c.numbers_from.auto.s)))

pub returns : goal.returns
returns c = let w = c.write_sheet.ensures in
    let x = coords-are c.before.before.before.before.before.before.before.before.before.before.before.before in
    let y = corners-are c.before.before.before.before.before.before.before.before in
    rw (x, y) at w
