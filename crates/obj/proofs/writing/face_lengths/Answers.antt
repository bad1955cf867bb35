use Prim.Native.Nat.{suc}
use mathlib.Core.Path.{◌≡◌, refl}
use mathlib.Core.List.{map}
use native.Mathlib.Omega.{arith}
use Rattle.lists.specs.Lists.{rows}
use Rattle.listing.specs.Text.{face_line}
use Rattle.obj.proofs.Lines.{rows_long}
use Rattle.obj.proofs.writing.face_lengths.Goals as goal

pub loop-f-init : goal.loop-f-init
unfolding rows
loop-f-init c = (omega arith, (refl, omega arith))

pub face_length-long-requires : goal.face_length-long-requires
face_length-long-requires c = (omega arith, c.requires.1)

pub loop-f-preserved : goal.loop-f-preserved
loop-f-preserved c = let l = c.loop-f in
    let e = rows_long (face_line (map suc c.args.w.now)) l.f in
    let a = l.invariant.1.0 in
    let d = c.face_length-long.ensures.0 in
    (omega arith, (rw (e, a, d), omega arith))

pub returns : goal.returns
returns c = let l = c.loop-f in
    let e : l.f ≡ c.args.n = omega arith in
    (rw e at l.invariant.1.0, omega arith)
