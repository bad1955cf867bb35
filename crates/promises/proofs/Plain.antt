-- Request [12]: the plain call and the linked one. `plain::loop_subdivide_plain` and `loopsubdiv::loop_subdivide_whole` promise `SharpCall`, their twins for C `Told` of it,
-- `sheet::subdivide_sheet_plain` and `sheet::subdivide_sheet` `SheetCall`; lent the same, they answer the same and leave the same in every buffer.
use mathlib.Core.Path.{◌≡◌}
use Prim.Native.Nat.{ℕ}
use mathlib.Core.List.{List}
use lib.IntN.{ℤ}
use Rattle.rules.specs.Position.{whole}
use Rattle.rules.specs.Sharp.{sharp_outcome}
use Rattle.rules.specs.Sheets.{sheet_outcome}
use Rattle.rules.specs.Calls.{Lent, Buffers, final, whole_room, sharp_final, SharpCall, sheet_last, SheetCall, Told}
use Rattle.rules.specs.Outcome.{Outcome}
use Rattle.promises.proofs.Promises.{one-outcome, one-outcome-told}

module _ (linked plain : Lent (Buffers ℤ)) (same : linked.old ≡ plain.old) where
  module _ (l : ℕ) (sharp fs : List ℕ) (xs : List ℤ) where
    pub plain-is-linked : (r q : Outcome) → SharpCall l sharp fs xs linked r → SharpCall l sharp fs xs plain q → r ≡ q × linked.new ≡ plain.new
    plain-is-linked r q c k = one-outcome whole (sharp_final l sharp fs xs) (λ old. sharp_outcome whole (whole_room old) l sharp fs xs) linked plain r q same c k

    -- for C: the same five numbers
    pub plain-is-linked-told : (told also : List ℕ) → Told (SharpCall l sharp fs xs linked) told → Told (SharpCall l sharp fs xs plain) also → told ≡ also × linked.new ≡ plain.new
    plain-is-linked-told told also = one-outcome-told (SharpCall l sharp fs xs linked) (SharpCall l sharp fs xs plain) (linked.new ≡ plain.new) plain-is-linked told also

  pub plain-is-linked-on-a-sheet : (bytes : List ℕ) (r q : Outcome) → SheetCall bytes linked r → SheetCall bytes plain q → r ≡ q × linked.new ≡ plain.new
  plain-is-linked-on-a-sheet bytes r q c k = one-outcome whole (final whole (sheet_last bytes)) (λ old. sheet_outcome (whole_room old) bytes) linked plain r q same c k
