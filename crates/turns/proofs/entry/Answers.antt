use Prim.Native.Nat.{ℕ}
use mathlib.Core.Path.{◌≡◌, ap, ap₂, ◌∙◌}
use lib.IntN.{ℤ, pos}
use lib.ListN.{get_or}
use lib.Ieee.{binary32, Float, div, of_int}
use mir.Syntax.{w32}
use mir.Val.{to_z, of_z}
use mir.ValLaws.{to_z-of_z}
use Rattle.turns.specs.Table.{place}
use Rattle.turns.proofs.Rule.{unit}
use Rattle.turns.proofs.entry.Goals as goal

read : (c : goal.After-row_known-1) →
    to_z w32 (of_z w32 (get_or c.args.table.now c.place-i.result (pos 0))) ≡
    get_or c.args.table.now (place c.args.k c.args.m) (pos 0)
read c =
    let xs = c.args.table.now in
    let i = c.place-i.result in
    to_z-of_z w32 (get_or xs i (pos 0)) (record { sfits = c.result-1.given }) ∙ ap (λ (j : ℕ). get_or xs j (pos 0)) c.place-i.ensures.0

pub int_to_float-result : goal.int_to_float-result
int_to_float-result c = rw (read c) c.requires.has.held

pub returns : goal.returns
returns c = ap₂ (λ (z : ℤ) (u : Float). div binary32 (of_int binary32 z) u) (read c) unit
