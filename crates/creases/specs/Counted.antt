-- Request 6 over lent coordinates: a vertex by how many sharp and rim edges it has.
use Rattle.std.specs.Prelude.{ℕ, ◌≡◌, true, false, List, [], ◌∷◌, eqb, ltb, ℤ}
use Rattle.lists.specs.Lists.{pick}
use Rattle.rules.specs.Position.{Stage, Numbers}
use Rattle.rules.specs.Levels.{coord}
use Rattle.weights.specs.Lent.{by_ring, Readable}

module _ (𝓝 : Numbers) where
  abbrev pub staying : List 𝓝.N → ℕ → ℕ → 𝓝.N
  staying xs v c = coord 𝓝 xs c v

  -- coordinate c of vertex v, by its ring vs and its k sharp and rim edges, of which the first two lead to a and b
  abbrev pub by_count : Stage → List 𝓝.N → ℕ → List ℕ → ℕ → ℕ → ℕ → ℕ → 𝓝.N
  by_count s xs v vs k a b c = pick (ltb k 2) (by_ring 𝓝 s xs v false vs c) (pick (eqb k 2) (by_ring 𝓝 s xs v true (a ∷ b ∷ []) c) (coord 𝓝 xs c v))

-- the two far ends are there, where they are asked
pub record Creasable (xs : List ℤ) (k a b : ℕ) : Type 0 where
  pub ends : k ≡ 2 → Readable xs a × Readable xs b
