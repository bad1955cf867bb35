-- Request 12: one level over lent words that hold no links: what a mesh in the words is, what a level asks, and what stands there afterwards.
use Rattle.std.specs.Prelude.{ℕ, ◌+◌, ◌*◌, ◌≤◌, ◌<◌, ◌≡◌, ◌⊎◌, List, length, drop}
use Rattle.turns.specs.Turns.{most_valence}
use Rattle.lists.specs.Lists.{part}
use Rattle.rules.specs.Mesh.{links, Mesh, firsts, refined}
use Rattle.rules.specs.Sound.{Sound}
use Rattle.rules.specs.Sound.{Small}
use Rattle.faces.specs.Words.{face_count}
use Rattle.levels.specs.Level.{mesh_in}

-- a mesh stands in the words: as in `faces`, but of the words where its links would stand nothing is said
pub record Stands (w : List ℕ) (at : ℕ) (m : Mesh) : Type 0 where
  pub faces : part at (3 * face_count m) w ≡ m.faces
  pub starts : part (at + 6 * face_count m) m.verts w ≡ m.starts
  pub room : at + 6 * face_count m + m.verts ≤ length w

-- what a level asks of the words: as in `levels`, without links
pub record Ready (w : List ℕ) (at to n v : ℕ) : Type 0 where
  pub sound : Sound n (mesh_in w at n v)
  pub old : at + 9 * n + v ≤ length w
  pub new : to + 24 * n + (v + length (firsts (links (part at (3 * n) w)))) ≤ length w
  pub apart : (at + 9 * n + v ≤ to) ⊎ (to + 24 * n + (v + length (firsts (links (part at (3 * n) w)))) ≤ at)
  pub small : v + 12 * n + 16 < 4294967296

-- and what it leaves
pub record Grown (w₀ w : List ℕ) (at to n v : ℕ) : Type 0 where
  pub stands : Stands w to (refined (mesh_in w₀ at n v) (links (mesh_in w₀ at n v).faces))
  pub long : length w ≡ length w₀
  pub rest : (k : ℕ) → at + 9 * n + v ≤ k → to + 24 * n + (v + length (firsts (links (mesh_in w₀ at n v).faces))) ≤ k → drop k w ≡ drop k w₀
  pub kept : (i k : ℕ) → (i + k ≤ at + 6 * n + v) ⊎ (at + 9 * n + v ≤ i) → (i + k ≤ to) ⊎ (to + 24 * n + (v + length (firsts (links (mesh_in w₀ at n v).faces))) ≤ i)
      → part i k w ≡ part i k w₀

-- what the moves ask: the mesh of n faces and v vertices at `at`, and the words of its marks at `marks`
pub record Movable (w : List ℕ) (at marks n v : ℕ) : Type 0 where
  pub room : at + 6 * n + v ≤ length w
  pub marked : marks + n ≤ length w
  pub sound : Sound n (mesh_in w at n v)
  pub few : Small most_valence (mesh_in w at n v)
  pub small : v + 3 * n < 4294967295
