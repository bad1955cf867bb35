-- Level 0 in the work buffers: what loading it asks, and that it is held; and that clearing at the end undoes it all. For both kinds of number.
use mathlib.Core.Path.{◌≡◌, refl, ap}
use Prim.Native.Nat.{ℕ, ◌+◌, ◌*◌, ◌/◌, ◌≤◌}
use native.Mathlib.Omega.{arith}
use mathlib.Core.List.{List, ◌++◌}
use lib.ListN.{length, replicate}
use lib.Seq.{sets, length-sets}
use Rattle.lists.specs.Lists.{cleared}
use Rattle.lists.proofs.Stores.{part_of, drop-after}
use Rattle.rules.specs.Mesh.{cage}
use Rattle.rules.specs.Position.{Numbers}
use Rattle.rules.specs.Levels.{last, levels}
use Rattle.rules.proofs.Refine.{Good}
use Rattle.cage.specs.Chains.{Faces, Below, Once}
use Rattle.room.specs.Held.{half_of, third_of, Kept, Held, Parts, Planned, loaded}
use Rattle.room.proofs.Sizes.{verts_of, fits}
use Rattle.room.proofs.Loaded.{loaded-held, loaded-kept}
use Rattle.room.proofs.Last.{ok, faces-are}

pub clear_kept : {A : Type 0} (z : A) (n : ℕ) (x y : List A) → Kept n x y → cleared z n x ≡ cleared z n y
clear_kept {A} z n x y k = ap (λ (l : List A). replicate n z ++ l) k.rest

module _ (𝓝 : Numbers) (l : ℕ) (fs : List ℕ) (xs : List 𝓝.N) (n v : ℕ) (p : Planned 𝓝 l fs xs n v) where
  pub parts_are : Parts 𝓝 l fs xs (half_of n v) (third_of v)
  parts_are = record { words = omega (arith, p.faces, p.verts); coords = ap (λ (k : ℕ). 3 * k) p.verts }

  good : Good (length xs / 3) (length fs / 3) fs
  unfolding cage
  good = (ok 𝓝 l fs xs n v p).sound.good

  first-verts : length xs / 3 ≡ verts_of 𝓝 fs xs 0
  unfolding levels cage
  first-verts = refl

  -- level 0 is within the last
  pub within : (length fs / 3 ≤ n) × (length xs / 3 ≤ v)
  within =
      let f = fits 𝓝 fs xs l (ok 𝓝 l fs xs n v p) 0 (omega arith) in
      (omega (arith, f.fewer, faces-are 𝓝 l fs xs n v p), omega (arith, f.verts, first-verts, p.verts))

  pub small : (length fs ≡ 3 * (length fs / 3)) × (length xs ≡ 3 * (length xs / 3)) × (length xs / 3 ≤ 4096)
  small =
      let s = (ok 𝓝 l fs xs n v p).shape in
      (omega (arith, s.indices), omega (arith, s.coords), s.verts)

  pub loads : Faces fs × Below 4096 fs × Once fs × (length xs / 3 ≤ 4096)
  loads =
      let s = (ok 𝓝 l fs xs n v p).shape in (
        record { thirds = s.indices; few = omega (arith, s.indices, s.faces) },
        record { each = λ k h. let b = good.below k (omega (arith, small.0)) in omega (arith, s.verts) },
        record { each = λ a b h k. good.unique a b (omega (arith, small.0)) (omega (arith, small.0)) },
        s.verts,
      )

  pub load-room : 2 * length fs + length xs / 3 ≤ 2 * half_of n v
  load-room = omega (arith, within, small.0)

  module _ (w : List ℕ) (x : List 𝓝.N) (room : 2 * half_of n v ≤ length w) (room₃ : 2 * third_of v ≤ length x) where
    pub first-held : Held 𝓝 (last 𝓝 0 fs xs) 0 (half_of n v) (third_of v) (sets w 0 (loaded (length xs / 3) fs)) (sets x 0 xs)
    unfolding levels cage
    first-held = record {
      words = loaded-held (length xs / 3) (length fs / 3) fs w small.0 (omega (arith, load-room));
      coords = part_of xs x 0 (3 * (length xs / 3)) small.1 (omega (arith, small.1, within));
    }

    pub first-kept : Kept (2 * half_of n v) (sets w 0 (loaded (length xs / 3) fs)) w × Kept (2 * third_of v) (sets x 0 xs) x
    first-kept = (
      loaded-kept (length xs / 3) (length fs / 3) fs w small.0 (omega (arith, load-room)) (2 * half_of n v) load-room,
      record { long = length-sets x 0 xs; rest = drop-after xs x 0 (2 * third_of v) (omega (arith, small.1, within)) },
    )
