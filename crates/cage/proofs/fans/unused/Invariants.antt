use Prim.Native.Nat.{ℕ, ◌<◌}
use mathlib.Core.Path.{◌≡◌}
use mathlib.Core.Bool.{false, not}
use lib.Dec.{eqb}
use Rattle.lists.specs.Lists.{find, found}
use Rattle.cage.proofs.fans.unused.Given as goal

abbrev pub invariant-loop-u : goal.invariant-loop-u
invariant-loop-u l = (j : ℕ) → j < l.u → not (found (find (eqb j) l.indices)) ≡ false
