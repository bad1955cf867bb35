-- What check 9 leaves.
use Rattle.std.specs.Prelude.{ℕ, ◌<◌, List, length}
use Rattle.rules.specs.Mesh.{last_corner}

-- each of the v vertices starts at a corner of the list
pub record Started (v : ℕ) (fs : List ℕ) : Type 0 where
  pub each : (u : ℕ) → u < v → last_corner fs u < length fs
