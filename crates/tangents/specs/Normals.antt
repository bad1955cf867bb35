-- Tangents and normals as the code answers them, and what it asks of the words in which a mesh stands.
use Rattle.std.specs.Prelude.{ℕ, ◌*◌, ◌≡◌, Bool, List, map, length, Float}
use Rattle.lists.specs.Lists.{pick}
use Rattle.turns.specs.Turns.{most_valence}
use Rattle.rules.specs.Mesh.{links}
use Rattle.rules.specs.Tangents.{point, Pair, inner_tangents, rim_tangents, normal_at}
use Rattle.rules.specs.Sound.{Sound}
use Rattle.rules.specs.Sound.{Small}
use Rattle.faces.specs.Words.{Holds}
use Rattle.levels.specs.Level.{mesh_in}
use Rattle.tangents.specs.declared.Tangents.{Tangents}

abbrev pub both : Pair → Tangents
both p = record { s = p.s; t = p.t }

-- at vertex v, from its ring
abbrev pub tangents_by : List Float → ℕ → Bool → List ℕ → Pair
tangents_by xs v rim vs = let rs = map (point xs) vs in pick rim (rim_tangents (point xs v) rs) (inner_tangents rs)

-- the fewest in a ring: two on the rim, three round an inner vertex
abbrev pub fewest : Bool → ℕ
fewest rim = pick rim 2 3

-- what normals ask of words w and limit positions xs: a sound mesh of n faces and v vertices stands at `at` with its links, its valences are in bounds, and every
-- vertex has its position. Every accepted cage meets it, at its last level
pub record Smooth (w : List ℕ) (at n v : ℕ) (xs : List Float) : Type 0 where
  pub holds : Holds w at (mesh_in w at n v)
  pub sound : Sound n (mesh_in w at n v)
  pub small : Small most_valence (mesh_in w at n v)
  pub sized : length xs ≡ 3 * v

-- the normal of each vertex
abbrev pub normal_in : List ℕ → ℕ → ℕ → ℕ → List Float → ℕ → List Float
normal_in w at n v xs = normal_at (mesh_in w at n v) (links (mesh_in w at n v).faces) xs
