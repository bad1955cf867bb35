-- The normals of the last level, from the limit positions that were written.
use mathlib.Core.Path.{◌≡◌, sym, ap, ap₂, ◌∙◌}
use Prim.Native.Nat.{ℕ, ◌-◌, ◌*◌, ◌≤◌}
use native.Mathlib.Omega.{arith}
use mathlib.Core.List.{List}
use lib.Ieee.{Float}
use lib.ListN.{length, take, drop}
use lib.Seq.{sets}
use Rattle.lists.specs.Lists.{count, gather}
use Rattle.lists.proofs.Stores.{part_of}
use Rattle.rules.specs.Mesh.{links, Mesh}
use Rattle.rules.specs.Position.{single}
use Rattle.rules.specs.Levels.{last, positions}
use Rattle.rules.specs.Tangents.{normal_at, normals}
use Rattle.rules.proofs.Spokes.{length-positions}
use Rattle.faces.specs.Words.{Holds}
use Rattle.tangents.specs.Normals.{Smooth, normal_in}
use Rattle.room.specs.Held.{start_of, half_of, Planned}
use Rattle.room.proofs.Last.{last-movable, last-mesh}

module _ (l : ℕ) (fs : List ℕ) (xs : List Float) (n v : ℕ) (p : Planned single l fs xs n v) where
  long : length (positions single (last single l fs xs)) ≡ 3 * v
  long = length-positions single (last single l fs xs) ∙ ap (λ (k : ℕ). 3 * k) (sym p.verts)

  -- what was written at the front of the positions
  pub front_read : (old new : List Float) → 3 * v ≤ length old → new ≡ sets old 0 (positions single (last single l fs xs)) → take (3 * v - 0) (drop 0 new) ≡ positions single (last single l fs xs)
  front_read old new h e = let z : 3 * v - 0 ≡ 3 * v = omega arith in rw (e, z) (part_of (positions single (last single l fs xs)) old 0 (3 * v) long (omega arith))

  module _ (w : List ℕ) (held : Holds w (start_of l (half_of n v)) (last single l fs xs).mesh) where
    pub last-smooth : (ys : List Float) → ys ≡ positions single (last single l fs xs) → Smooth w (start_of l (half_of n v)) n v ys
    last-smooth ys e =
        let m = last-movable single l fs xs n v p w held in
        rw e (record { holds = m.holds; sound = m.sound; small = m.few; sized = long })

    pub last-normals : (ys : List Float) → ys ≡ positions single (last single l fs xs) → gather (normal_in w (start_of l (half_of n v)) n v ys) (count 0 v) ≡ normals (last single l fs xs)
    unfolding normals
    last-normals ys e =
        rw e (ap₂ (λ (m : Mesh) (k : ℕ). gather (normal_at m (links m.faces) (positions single (last single l fs xs))) (count 0 k))
        (last-mesh single l fs xs n v p w held) p.verts)
