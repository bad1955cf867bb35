use Prim.Native.Nat.{ℕ, ◌<◌}
use mathlib.Core.Path.{◌≡◌}
use mathlib.Core.Bool.{false}
use lib.ListN.{get_or}
use Rattle.rules.specs.Mesh.{links}
use Rattle.rules.specs.Sharp.{unlinked}
use Rattle.cage.proofs.marks.marks.Given as goal

abbrev pub invariant-loop-i : goal.invariant-loop-i
invariant-loop-i l = (j : ℕ) → j < l.i → unlinked (links l.indices) (get_or l.sharp j 0) ≡ false
