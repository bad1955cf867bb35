use Prim.Native.Nat.{ℕ, ◌<◌}
use mathlib.Core.Path.{◌≡◌}
use mathlib.Core.Bool.{false}
use lib.Dec.{ltb}
use Rattle.lists.specs.Lists.{lowest}
use Rattle.turns.specs.Turns.{most_valence}
use Rattle.rules.specs.Mesh.{valence}
use Rattle.rules.specs.Refusals.{parted, fans_of}
use Rattle.cage.specs.Fans.{place_of}
use Rattle.cage.proofs.fans.turns.Given as goal

abbrev pub invariant-loop-u : goal.invariant-loop-u
invariant-loop-u l = ((j : ℕ) → j < l.u → parted l.indices (fans_of l.v l.indices) j ≡ false)
    × (l.crowded ≡ place_of (lowest (λ x. ltb most_valence (valence (fans_of l.v l.indices x))) l.u))
