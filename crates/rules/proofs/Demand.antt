-- Demand 3 (proofs/Bound.antt) for the engine's own rounding.
use Prim.Native.Nat.{ℕ, ◌+◌}
use mathlib.Core.List.{List}
use lib.IntN.{ℤ}
use Rattle.whole.specs.Whole.{nearest}
use Rattle.whole.specs.Fraction.{Within}
use Rattle.whole.proofs.Half.{nearest-rounds}
use Rattle.rules.specs.Position.{whole, exact}
use Rattle.rules.specs.Levels.{coord, last, positions, exact_limits}
use Rattle.rules.proofs.Bound.{bound_by}

pub demand-3 : (l : ℕ) (fs : List ℕ) (xs : List ℤ) (c v : ℕ) → Within (l + 1) (coord whole (positions whole (last whole l fs xs)) c v) (coord exact (exact_limits l fs xs) c v)
demand-3 = bound_by nearest nearest-rounds
