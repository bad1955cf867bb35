use Prim.Native.Nat.{ℕ}
use mathlib.Core.Path.{◌∙◌}
use native.Mathlib.Omega.{arith}
use lib.IntN.{ℤ, pos}
use lib.ListN.{length-replicate}
use Rattle.fontcut.proofs.Head.{number_is, refused-by, room-is}
use Rattle.fontcut.proofs.Sheets.{ready, batch-text}
use Rattle.fontcut.proofs.batch.Goals as goal

pub returns-then-number-ne0 : goal.returns-then-number-ne0
returns-then-number-ne0 c = let a = c.args in
    let e = c.subdivide_sheets-number.ensures.returned ∙ number_is a.bytes.now a.lengths.now _ (length-replicate {A = ℕ} 320 0) in
    record { put = rw (← (refused-by a.bytes.now a.lengths.now _ e c.if-number-ne0.true)) c.refused_by.ensures.put; upper_bound = c.refused_by.ensures.upper_bound }

pub slots-requires : goal.slots-requires
slots-requires c = let r = ready _ _ _ _ _ c.subdivide_sheets-number.ensures c.if-number-ne0.false in
    let k = c.subdivide_sheets-number.auto in
    (r.five, r.positions, r.indices, omega (arith, r.five, k.positions, k.out, k.answers, length-replicate {A = ℤ} 12288 (pos 0), length-replicate {A = ℕ} 12288 0, length-replicate {A = ℕ} 320 0, c.requires))

pub returns : goal.returns
returns c = let a = c.args in
    let t = batch-text a.bytes.now a.lengths.now _ _ _ c.subdivide_sheets-number.ensures c.if-number-ne0.false room-is (length-replicate {A = ℕ} 320 0) in
    record { put = rw (← t) c.slots.ensures.put; upper_bound = c.slots.ensures.upper_bound }
