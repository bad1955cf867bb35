-- Demand 3 of a sheet: that of the whole call on its lists (proofs/Promises.antt).
use Rattle.std.specs.Prelude.{Ok}
use Prim.Native.Nat.{ℕ, ◌+◌, ◌*◌, ◌<◌}
use mathlib.Core.List.{List}
use lib.IntN.{ℤ, pos}
use lib.ListN.{get_or}
use Rattle.whole.specs.Fraction.{Within}
use Rattle.rules.specs.Position.{exact}
use Rattle.rules.specs.Levels.{coord, exact_limits}
use Rattle.rules.specs.Sheets.{sheet_levels, sheet_indices, sheet_coords}
use Rattle.rules.specs.declared.Counts.{Counts}
use Rattle.rules.specs.Calls.{Lent, Buffers, SheetCall}
use Rattle.promises.proofs.Promises.{demand-3-of-the-call, call-of-a-sheet}

module _ (bytes : List ℕ) (b : Lent (Buffers ℤ)) (c : Counts) (s : SheetCall bytes b (Ok c)) where
  pub demand-3-of-a-sheet : (v k : ℕ) → v < c.vertices → k < 3
      → Within (sheet_levels bytes + 1) (get_or b.new.positions (3 * v + k) (pos 0)) (coord exact (exact_limits (sheet_levels bytes) (sheet_indices bytes) (sheet_coords bytes)) k v)
  demand-3-of-a-sheet v k h j = demand-3-of-the-call (sheet_levels bytes) (sheet_indices bytes) (sheet_coords bytes) b c (call-of-a-sheet bytes b c s) v k h j
