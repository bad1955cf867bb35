-- The loop over the levels: what holds whenever its test is reached, and one turn of it; for both kinds of number.
use mathlib.Core.Path.{◌≡◌, refl, sym, ap, ◌∙◌}
use Prim.Native.Nat.{ℕ, ◌+◌, ◌*◌, ◌/◌, ◌≤◌, ◌<◌}
use native.Mathlib.Omega.{arith}
use native.Mathlib.Nat.{le_refl}
use mathlib.Core.List.{List}
use mathlib.Core.Option.{none}
use lib.ListN.{length}
use lib.Seq.{sets}
use Rattle.lists.specs.Lists.{part}
use Rattle.rules.specs.Mesh.{links, firsts, cage}
use Rattle.rules.specs.Position.{Numbers}
use Rattle.rules.specs.Levels.{last, levels, new_positions}
use Rattle.rules.specs.Refusals.{refusal}
use Rattle.rules.proofs.Growth.{faces-more}
use Rattle.rules.proofs.Cage.{Accepted, accepted}
use Rattle.levels.specs.Level.{mesh_in, Ready, Grown}
use Rattle.levels.specs.Moves.{Movable, Placed, edges_in}
use Rattle.room.specs.Held.{start_of, Kept, Held, Parts}
use Rattle.room.proofs.Sizes.{faces_of, level_at, verts_of, fits}
use Rattle.room.proofs.Held.{movable, placed, ready, held_more, more-kept, verts-more, kept-all, kept_then}

module _ (𝓝 : Numbers) (l : ℕ) (fs : List ℕ) (xs : List 𝓝.N) (half third : ℕ) (w₀ : List ℕ) (x₀ : List 𝓝.N) where
  pub record Going (i n v : ℕ) (w : List ℕ) (x : List 𝓝.N) : Type 0 where
    pub bound : i ≤ l
    pub faces : n ≡ faces_of fs i
    pub verts : v ≡ verts_of 𝓝 fs xs i
    pub held : Held 𝓝 (level_at 𝓝 fs xs i) i half third w x
    pub words : Kept (2 * half) w w₀
    pub work : Kept (2 * third) x x₀

  first-verts : length xs / 3 ≡ verts_of 𝓝 fs xs 0
  unfolding levels cage
  first-verts = refl

  pub going-first : Held 𝓝 (last 𝓝 0 fs xs) 0 half third w₀ x₀ → Going 0 (length fs / 3) (length xs / 3) w₀ x₀
  going-first h = record { bound = omega arith; faces = refl; verts = first-verts; held = h; words = kept-all (2 * half) w₀; work = kept-all (2 * third) x₀ }

  module _ (passes : refusal 𝓝 l fs xs ≡ none) (parts : Parts 𝓝 l fs xs half third) (room : 2 * half ≤ length w₀) (room₃ : 2 * third ≤ length x₀) where
    ok : Accepted 𝓝 l fs xs
    ok = accepted 𝓝 l fs xs passes

    half_is : half ≡ 8 * faces_of fs l + 4 * verts_of 𝓝 fs xs l
    half_is = parts.words ∙ ap (λ (k : ℕ). 8 * k + 4 * verts_of 𝓝 fs xs l) (fits 𝓝 fs xs l ok l (le_refl l)).faces

    module _ (i n v : ℕ) (w : List ℕ) (x : List 𝓝.N) (g : Going i n v w x) where
      in_words : 2 * half ≤ length w
      in_words = omega (arith, g.words.long)

      in-work : 2 * third ≤ length x
      in-work = omega (arith, g.work.long)

      module _ (h : i < l) (at to from next : ℕ) (a : at ≡ start_of i half) (b : to ≡ start_of (i + 1) half) (c : from ≡ start_of i third) (d : next ≡ start_of (i + 1) third) where
        pub going-movable : Movable w at n v
        going-movable = rw (a, g.faces, g.verts) (movable 𝓝 fs xs l ok half half_is i (omega arith) w g.held.words)

        pub going-placed : Placed (length x) from next v (edges_in w at n)
        going-placed = rw (a, c, d, g.faces, g.verts) (placed 𝓝 fs xs l ok half half_is i h w g.held.words in_words third (length x) parts.coords in-work)

        pub going-coords : part from (3 * v) x ≡ (level_at 𝓝 fs xs i).points
        going-coords = rw (c, g.verts) g.held.coords

        pub going-ready : Ready w at to n v
        going-ready = rw (a, b, g.faces, g.verts) (ready 𝓝 fs xs l ok half half_is i h w g.held.words in_words)

        module _ (w' : List ℕ) (x' : List 𝓝.N) (e : ℕ) (new : x' ≡ sets x next (new_positions 𝓝 (mesh_in w at n v) (links (part at (3 * n) w)) (part from (3 * v) x)))
            (grown : Grown w w' at to n v) (more : e ≡ length (firsts (links (part at (3 * n) w)))) where
          new' : x' ≡ sets x (start_of (i + 1) third) (new_positions 𝓝 (mesh_in w (start_of i half) (faces_of fs i) (verts_of 𝓝 fs xs i)) (links (part (start_of i half) (3 * faces_of fs i) w)) (part (start_of i third) (3 * verts_of 𝓝 fs xs i) x))
          new' = rw (a, c, d, g.faces, g.verts) at new

          grown' : Grown w w' (start_of i half) (start_of (i + 1) half) (faces_of fs i) (verts_of 𝓝 fs xs i)
          grown' = rw (a, b, g.faces, g.verts) at grown

          more' : e ≡ length (firsts (links (part (start_of i half) (3 * faces_of fs i) w)))
          more' = rw (a, g.faces) at more

          pub going_next : Going (i + 1) (4 * n) (v + e) w' x'
          going_next =
              let k = more-kept 𝓝 fs xs l ok half half_is third parts.coords i h w x in_words in-work g.held w' x' new' grown' in
              record {
                bound = omega arith;
                faces = ap (λ (z : ℕ). 4 * z) g.faces ∙ sym (faces-more i (length fs / 3));
                verts = omega (arith, g.verts, more', verts-more 𝓝 fs xs l ok half half_is third parts.coords i h w x in_words in-work g.held);
                held = held_more 𝓝 fs xs l ok half half_is third parts.coords i h w x in_words in-work g.held w' x' new' grown';
                words = kept_then k.0 g.words;
                work = kept_then k.1 g.work;
              }

      -- the numbers stay small
      pub going-small : (n ≤ 32768) × (v ≤ 32768)
      going-small =
          let f = fits 𝓝 fs xs l ok i g.bound in
          (omega (arith, g.faces, f.fewer, f.most), omega (arith, g.verts, f.verts, f.most))
