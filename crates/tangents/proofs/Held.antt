-- What the caller of `normals` has where the words hold a level of an accepted cage.
use mathlib.Core.Path.{◌≡◌, ap}
use Prim.Native.Nat.{ℕ}
use mathlib.Core.List.{List}
use Rattle.lists.specs.Lists.{count, gather}
use Rattle.rules.specs.Mesh.{links, Mesh}
use Rattle.rules.specs.Position.{single}
use Rattle.rules.specs.Levels.{Level, positions}
use Rattle.rules.specs.Tangents.{normal_at, normals}
use Rattle.rules.proofs.Sound.{Sound}
use Rattle.faces.specs.Words.{Holds}
use Rattle.levels.proofs.Standing.{mesh-is}
use Rattle.tangents.specs.Normals.{normal_in}

module _ (w : List ℕ) (at n : ℕ) (a : Level single) (h : Holds w at a.mesh) (p : Sound n a.mesh) where
  -- they are the normals of docs/RULES.md
  pub normals-level : gather (normal_in w at n a.mesh.verts (positions single a)) (count 0 a.mesh.verts) ≡ normals a
  unfolding normals
  normals-level = ap (λ (m : Mesh). gather (normal_at m (links m.faces) (positions single a)) (count 0 a.mesh.verts)) (mesh-is w at n a.mesh h p)
