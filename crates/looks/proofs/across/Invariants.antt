use Prim.Native.Nat.{ℕ, ◌≤◌, ◌<◌}
use mathlib.Core.Path.{◌≡◌}
use mathlib.Core.Bool.{false}
use Rattle.lists.specs.Lists.{part}
use Rattle.rules.specs.Mesh.{side, opposite}
use Rattle.looks.proofs.across.Given as goal

abbrev pub invariant-loop-t : goal.invariant-loop-t
invariant-loop-t l = (l.t ≤ l.n) × ((j : ℕ) → j < l.t → opposite (record { from = l.a; to = l.b }) (side (part l.at l.n l.words) j) ≡ false)
