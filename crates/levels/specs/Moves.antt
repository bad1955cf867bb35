-- The new positions of one level over lent coordinates, three to a vertex, in either kind of number.
use Rattle.std.specs.Prelude.{ℕ, ◌+◌, ◌*◌, ◌≤◌, ◌<◌, ◌⊎◌, List, length, get_or}
use Rattle.std.proofs.Math.Option.{none}
use Rattle.lists.specs.Lists.{count, gather, part}
use Rattle.turns.specs.Turns.{most_valence}
use Rattle.rules.specs.Mesh.{links, firsts}
use Rattle.rules.specs.Position.{refining, Numbers}
use Rattle.rules.specs.Levels.{three, moved, edge_at}
use Rattle.rules.specs.Sound.{Sound}
use Rattle.rules.specs.Sound.{Small}
use Rattle.faces.specs.Words.{Holds}
use Rattle.levels.specs.Level.{mesh_in}

-- what the moves ask of the words: a sound mesh of n faces and v vertices stands at `at`, and no valence is over the largest. Every accepted cage meets it, at every level
pub record Movable (w : List ℕ) (at n v : ℕ) : Type 0 where
  pub holds : Holds w at (mesh_in w at n v)
  pub sound : Sound n (mesh_in w at n v)
  pub few : Small most_valence (mesh_in w at n v)
  pub small : v + 3 * n < 4294967296

-- and of the coordinates: those of v vertices stand at `from`, and apart from them there is room at `to` for those of e more
pub record Placed (long from to v e : ℕ) : Type 0 where
  pub old : from + 3 * v ≤ long
  pub new : to + 3 * (v + e) ≤ long
  pub apart : (from + 3 * v ≤ to) ⊎ (to + 3 * (v + e) ≤ from)

-- how many edges the mesh has
abbrev pub edges_in : List ℕ → ℕ → ℕ → ℕ
edges_in w at n = length (firsts (links (part at (3 * n) w)))

module _ (𝓝 : Numbers) (w : List ℕ) (at n : ℕ) (xs : List 𝓝.N) where
  -- the old vertices, and the new ones of the edges, in the order in which these are first met
  abbrev pub old_point : ℕ → ℕ → List 𝓝.N
  old_point v u = moved 𝓝 refining (mesh_in w at n v) (links (part at (3 * n) w)) xs u

  abbrev pub edge_point : ℕ → List 𝓝.N
  edge_point s = three 𝓝 (edge_at 𝓝 (part at (3 * n) w) xs s (get_or (links (part at (3 * n) w)) s none))

  abbrev pub old_points : ℕ → List 𝓝.N
  old_points v = gather (old_point v) (count 0 v)

  abbrev pub edge_points : List 𝓝.N
  edge_points = gather edge_point (firsts (links (part at (3 * n) w)))
