-- The last level in the work buffers, and what goes out of it; for both kinds of number.
use mathlib.Core.Path.{◌≡◌, sym, ap, ap₂, ◌∙◌}
use Prim.Native.Nat.{ℕ, ◌+◌, ◌-◌, ◌*◌, ◌%◌, ◌≤◌}
use native.Mathlib.Omega.{arith}
use native.Mathlib.Nat.{le_refl}
use mathlib.Core.Bool.{Bool, true, false}
use mathlib.Core.List.{List}
use lib.Dec.{eqb}
use lib.ListN.{length, take, drop}
use lib.Seq.{take-take}
use Rattle.lists.specs.Lists.{pick, part}
use Rattle.lists.proofs.Stores.{length_part}
use Rattle.rules.specs.Mesh.{links, Mesh}
use Rattle.rules.specs.Position.{Numbers}
use Rattle.rules.specs.Levels.{last, limits, positions}
use Rattle.rules.proofs.Cage.{Accepted, accepted}
use Rattle.faces.specs.Words.{Holds}
use Rattle.levels.specs.Level.{mesh_in}
use Rattle.levels.specs.Moves.{Movable}
use Rattle.room.specs.Held.{start_of, half_of, third_of, Held, Planned}
use Rattle.room.proofs.Sizes.{faces_of, verts_of, Fits, fits}
use Rattle.room.proofs.Held.{Sides, left, right, sides, movable, read}

-- the front that is read is the part that holds the level
pub front-is : {A : Type 0} (i t : ℕ) (x : List A) → take t (pick (eqb (i % 2) 0) (take (t - 0) (drop 0 x)) (take (2 * t - t) (drop t x))) ≡ part (start_of i t) t x
front-is {A} i t x = go (eqb (i % 2) 0)
  where
    go : (b : Bool) → take t (pick b (take (t - 0) (drop 0 x)) (take (2 * t - t) (drop t x))) ≡ take t (drop (pick b 0 t) x)
    go true = take-take t (t - 0) (drop 0 x) (omega arith)
    go false = take-take t (2 * t - t) (drop t x) (omega arith)

module _ (𝓝 : Numbers) (l : ℕ) (fs : List ℕ) (xs : List 𝓝.N) (n v : ℕ) (p : Planned 𝓝 l fs xs n v) where
  pub ok : Accepted 𝓝 l fs xs
  ok = accepted 𝓝 l fs xs p.passes

  pub last_fits : Fits 𝓝 fs xs l l
  last_fits = fits 𝓝 fs xs l ok l (le_refl l)

  pub faces-are : n ≡ faces_of fs l
  faces-are = p.faces ∙ last_fits.faces

  pub half_is : half_of n v ≡ 8 * faces_of fs l + 4 * verts_of 𝓝 fs xs l
  half_is = omega (arith, faces-are, p.verts)

  pub third-is : third_of v ≡ 3 * verts_of 𝓝 fs xs l
  third-is = ap (λ (k : ℕ). 3 * k) p.verts

  module _ (w : List ℕ) (held : Holds w (start_of l (half_of n v)) (last 𝓝 l fs xs).mesh) where
    pub last-movable : Movable w (start_of l (half_of n v)) n v
    last-movable = rw (sym faces-are, sym p.verts) at (movable 𝓝 fs xs l ok (half_of n v) half_is l (le_refl l) w held)

    pub last-mesh : mesh_in w (start_of l (half_of n v)) n v ≡ (last 𝓝 l fs xs).mesh
    last-mesh = rw (sym faces-are, sym p.verts) at (read 𝓝 fs xs l ok (half_of n v) half_is l (le_refl l) w held)

    pub last-faces : part (start_of l (half_of n v)) (3 * n) w ≡ (last 𝓝 l fs xs).mesh.faces
    last-faces = ap (λ (m : Mesh). m.faces) last-mesh

    -- the limit positions, of the coordinates that are held
    pub last-limits : (ys : List 𝓝.N) → ys ≡ (last 𝓝 l fs xs).points
        → limits 𝓝 (mesh_in w (start_of l (half_of n v)) n v) (links (part (start_of l (half_of n v)) (3 * n) w)) ys ≡ positions 𝓝 (last 𝓝 l fs xs)
    unfolding positions
    last-limits ys e = ap₂ (λ (m : Mesh) (zs : List 𝓝.N). limits 𝓝 m (links m.faces) zs) last-mesh e

  -- the front that is lent to the limit
  module _ (w : List ℕ) (x : List 𝓝.N) (held : Held 𝓝 (last 𝓝 l fs xs) l (half_of n v) (third_of v) w x) (room : 2 * third_of v ≤ length x) where
    coords-read : part (start_of l (3 * v)) (3 * v) x ≡ (last 𝓝 l fs xs).points
    coords-read = ap (λ (k : ℕ). part (start_of l (3 * v)) (3 * k) x) p.verts ∙ held.coords

    pub last-points : (ys : List 𝓝.N) → ys ≡ take (3 * v) (pick (eqb (l % 2) 0) (take (3 * v - 0) (drop 0 x)) (take (2 * (3 * v) - 3 * v) (drop (3 * v) x))) → ys ≡ (last 𝓝 l fs xs).points
    last-points ys e = e ∙ front-is l (3 * v) x ∙ coords-read

    pub last-long : length (last 𝓝 l fs xs).points ≡ 3 * v
    last-long = sym (ap length coords-read) ∙ length_part x (start_of l (3 * v)) (3 * v) (go (sides l (3 * v)))
      where
        go : Sides l (3 * v) → start_of l (3 * v) + 3 * v ≤ length x
        go (left p q) = omega (arith, p)
        go (right p q) = omega (arith, p)
