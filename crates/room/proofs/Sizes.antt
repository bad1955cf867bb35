-- The levels of an accepted cage: sound, of small valence, and within the sizes of the last.
use mathlib.Core.Path.{◌≡◌, ap}
use Prim.Native.Nat.{ℕ, ◌+◌, ◌*◌, ◌/◌, ◌≤◌, ◌<◌}
use native.Mathlib.Omega.{arith}
use mathlib.Core.Bool.{not}
use mathlib.Core.List.{List}
use lib.Dec.{T, ltb, nltb→le}
use lib.ListN.{length}
use Rattle.turns.specs.Turns.{most_valence}
use Rattle.rules.specs.Mesh.{links, Mesh, cage, firsts, refined}
use Rattle.rules.specs.Position.{Numbers}
use Rattle.rules.specs.Levels.{Level, Sizes, first, levels, finer, sizes, after}
use Rattle.rules.specs.Refusals.{most_in_mesh, too_large, size_refusal}
use Rattle.rules.proofs.Sound.{Sound}
use Rattle.rules.proofs.Levels.{level, faces_at, sound-level, mesh-levels, counts-level, Small, small-level}
use Rattle.rules.proofs.Growth.{levels-more, verts-up, faces-up, faces-four, faces-counted}
use Rattle.rules.proofs.Checks.{check-none, when-none, nor-l, nor-r}
use Rattle.rules.proofs.Cage.{Accepted}

-- faces, vertices and edges of level i, and of the last
abbrev pub faces_of : List ℕ → ℕ → ℕ
faces_of fs i = faces_at i (length fs / 3)

module _ (𝓝 : Numbers) (fs : List ℕ) (xs : List 𝓝.N) where
  abbrev pub level_at : ℕ → Level 𝓝
  level_at i = levels 𝓝 i (first 𝓝 fs xs)

  abbrev pub verts_of : ℕ → ℕ
  verts_of i = (level_at i).mesh.verts

  pub record Fits (l i : ℕ) : Type 0 where
    pub sound : Sound (faces_of fs i) (level_at i).mesh
    pub faces : length (level_at i).mesh.faces / 3 ≡ faces_of fs i
    pub small : Small most_valence (level_at i).mesh
    pub verts : verts_of i ≤ verts_of l
    pub fewer : faces_of fs i ≤ faces_of fs l
    pub four : i < l → 4 * faces_of fs i ≤ faces_of fs l
    pub most : (faces_of fs l ≤ most_in_mesh) × (verts_of l ≤ most_in_mesh)

  mesh-is : (i : ℕ) → (level_at i).mesh ≡ level i (cage (length xs / 3) fs)
  mesh-is i = mesh-levels 𝓝 i (first 𝓝 fs xs)

  -- one level on
  pub next-verts : (i : ℕ) → verts_of (i + 1) ≡ verts_of i + length (firsts (links (level_at i).mesh.faces))
  unfolding finer refined
  next-verts i = ap (λ (a : Level 𝓝). a.mesh.verts) (levels-more 𝓝 i (first 𝓝 fs xs))

  module _ (l : ℕ) (ok : Accepted 𝓝 l fs xs) where
    small-cage : Small most_valence (cage (length xs / 3) fs)
    unfolding Small cage
    small-cage v h = ok.fans.valences v h

    within : (c : Sizes) → T (not (too_large c)) → (c.faces ≤ most_in_mesh) × (c.verts ≤ most_in_mesh)
    within c t = (
      nltb→le most_in_mesh c.faces (nor-l (ltb most_in_mesh c.faces) (ltb most_in_mesh c.verts) t),
      nltb→le most_in_mesh c.verts (nor-r (ltb most_in_mesh c.faces) (ltb most_in_mesh c.verts) t),
    )

    last_within : (faces_of fs l ≤ most_in_mesh) × (verts_of l ≤ most_in_mesh)
    unfolding size_refusal
    last_within =
        let m = cage (length xs / 3) fs in
        let e = counts-level l (length fs / 3) m ok.sound in
        let w = within (after l (sizes m)) (when-none (too_large (after l (sizes m))) (check-none 13 _ ok.size)) in
        let f = faces-counted l (length fs / 3) m ok.sound in
        let g = ap (λ (c : Sizes). c.faces) e in
        let v = ap (λ (c : Sizes). c.verts) e in
        let q : verts_of l ≡ (level l m).verts = ap (λ (x : Mesh). x.verts) (mesh-is l) in
        (omega (arith, w.0), omega (arith, w.1))

    pub fits : (i : ℕ) → i ≤ l → Fits l i
    fits i h =
        let m = cage (length xs / 3) fs in
        record {
          sound = rw (mesh-is i) (sound-level i (length fs / 3) m ok.sound);
          faces = rw (mesh-is i) (faces-counted i (length fs / 3) m ok.sound);
          small = rw (mesh-is i) (small-level most_valence i (length fs / 3) m (omega arith) ok.sound small-cage);
          verts =
              let p : verts_of i ≡ (level i m).verts = ap (λ (x : Mesh). x.verts) (mesh-is i) in
              let q : verts_of l ≡ (level l m).verts = ap (λ (x : Mesh). x.verts) (mesh-is l) in
              omega (arith, verts-up i l m h);
          fewer = faces-up i l (length fs / 3) h;
          four = λ k. faces-four i l (length fs / 3) k;
          most = last_within;
        }
