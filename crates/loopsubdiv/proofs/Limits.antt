-- The limit of a mesh that stands in the words: one vertex more of a loop; for both kinds of number.
use mathlib.Core.Path.{◌≡◌, refl, ◌∙◌}
use Prim.Native.Nat.{ℕ, ◌+◌, ◌*◌, ◌<◌}
use native.Mathlib.Omega.{arith}
use mathlib.Core.List.{List}
use lib.ListN.{length}
use lib.Seq.{sets}
use Rattle.lists.specs.Lists.{count, gather, part}
use Rattle.lists.proofs.Stores.{piece-more}
use Rattle.rules.specs.Mesh.{links}
use Rattle.rules.specs.Position.{limit, Numbers}
use Rattle.rules.specs.Levels.{moved, limits}
use Rattle.levels.specs.Level.{mesh_in}

module _ (𝓝 : Numbers) (w : List ℕ) (at n v : ℕ) (xs : List 𝓝.N) where
  -- vertex u at its limit
  abbrev pub limit_point : ℕ → List 𝓝.N
  limit_point u = moved 𝓝 limit (mesh_in w at n v) (links (part at (3 * n) w)) xs u

  limit-long : (u : ℕ) → length (limit_point u) ≡ 3
  unfolding moved
  limit-long u = refl

  pub limit-more : (l x y p : List 𝓝.N) (u : ℕ) → u < v → x ≡ sets l 0 (gather limit_point (count 0 u)) → y ≡ sets x (3 * u) p → p ≡ limit_point u
      → y ≡ sets l 0 (gather limit_point (count 0 (u + 1)))
  limit-more l x y p u h e a b = a ∙ rw (b, e) (piece-more limit_point 3 limit-long l 0 v u h (3 * u) (omega arith))

  pub limits-are : (l x : List 𝓝.N) (u : ℕ) → u ≡ v → x ≡ sets l 0 (gather limit_point (count 0 u)) → x ≡ sets l 0 (limits 𝓝 (mesh_in w at n v) (links (part at (3 * n) w)) xs)
  unfolding limits
  limits-are l x u e q = rw e at q
