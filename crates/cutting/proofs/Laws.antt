-- What fits the room that is lent, and which of 16 and the rest decides.
use Rattle.std.specs.Prelude.{Err}
use Prim.Native.Nat.{ℕ, ◌≤◌, ◌<◌}
use mathlib.Core.Path.{◌≡◌}
use mathlib.Core.List.{List}
use mathlib.Core.Option.{none}
use native.Mathlib.Omega.{arith}
use lib.ListN.{length}
use borrow.Author.Tests.{lt-ltb, le-ltb}
use Rattle.rules.specs.Refusals.{short_of}
use Rattle.rules.specs.Sheets.{most_input, cut_rooms, sheet_outcome, cut_outcome}
use Rattle.loopsubdiv.proofs.Outcomes.{whole_room_lem}
use Rattle.rules.specs.declared.Counts.{Counts}

pub within : (c : Counts) → short_of (cut_rooms c) ≡ none → (c.vertices ≤ 512) × (c.faces ≤ 512)
within c e =
    let w = whole_room_lem 1536 1536 12288 3072 c e in
    (omega (arith, w.positions), omega (arith, w.indices))

pub over : (b : List ℕ) → most_input < length b → cut_outcome b ≡ Err (record { number = 16; place = 0 })
unfolding cut_outcome
over b h = rw (lt-ltb most_input (length b) h)

pub not-over : (b : List ℕ) → length b ≤ most_input → cut_outcome b ≡ sheet_outcome cut_rooms b
unfolding cut_outcome
not-over b h = rw (le-ltb most_input (length b) h)
