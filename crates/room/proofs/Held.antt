-- The work buffers from level to level: what one level asks of them, and what it leaves in them.
use mathlib.Core.Path.{◌≡◌, refl, sym, ap, ap₂, ◌∙◌, subst}
use mathlib.Core.Logic.{inl, inr}
use Prim.Native.Nat.{ℕ, ◌+◌, ◌*◌, ◌%◌, ◌≤◌, ◌<◌}
use native.Mathlib.Omega.{arith}
use mathlib.Core.Bool.{Bool, true, false}
use mathlib.Core.List.{List}
use lib.Dec.{eqb}
use lib.ListN.{length, drop}
use lib.Seq.{sets, length-sets}
use borrow.Author.Tests.{eq-eqb, ne_eqb, eqb-true, eqb-false}
use Rattle.lists.specs.Lists.{part}
use Rattle.lists.proofs.Stores.{part_of, drop-after}
use Rattle.rules.specs.Mesh.{links, Mesh, firsts, refined}
use Rattle.rules.specs.Position.{Numbers}
use Rattle.rules.specs.Levels.{Level, first, finer, new_positions}
use Rattle.rules.proofs.Growth.{levels-more}
use Rattle.rules.proofs.Spokes.{length-new}
use Rattle.rules.proofs.Cage.{Accepted}
use Rattle.faces.specs.Words.{links_in, face_count, Holds}
use Rattle.levels.specs.Level.{mesh_in, Ready, Grown}
use Rattle.levels.specs.Moves.{Movable, Placed, edges_in}
use Rattle.room.specs.Held.{start_of, Kept, Held}
use Rattle.room.proofs.Sizes.{faces_of, level_at, verts_of, Fits, fits, next-verts}

-- the two parts take turns
pub data Sides (i h : ℕ) : Type 0 where
  left : start_of i h ≡ 0 → start_of (i + 1) h ≡ h → Sides i h
  right : start_of i h ≡ h → start_of (i + 1) h ≡ 0 → Sides i h

pub sides : (i h : ℕ) → Sides i h
sides i h = go (eqb (i % 2) 0) refl
  where
    go : (b : Bool) → eqb (i % 2) 0 ≡ b → Sides i h
    go true e =
        let p : (i + 1) % 2 ≡ 0 → ⊥ = λ q. (let z = eqb-true (i % 2) 0 e in omega arith) in
        left (rw e) (rw (ne_eqb ((i + 1) % 2) 0 p))
    go false e =
        let p : (i + 1) % 2 ≡ 0 = (let z = eqb-false (i % 2) 0 e in omega arith) in
        right (rw e) (rw (eq-eqb ((i + 1) % 2) 0 p))

-- a mesh that is held is the mesh that is read
pub mesh-read : (w : List ℕ) (at n : ℕ) (m : Mesh) → Holds w at m → face_count m ≡ n → mesh_in w at n m.verts ≡ m
mesh-read w at n m h e =
    let f : part at (3 * n) w ≡ m.faces = rw e at h.faces in
    let s : part (at + 6 * n) m.verts w ≡ m.starts = rw e at h.starts in
    ap₂ {C = Mesh} (λ a b. record { verts = m.verts; faces = a; starts = b }) f s

module _ (𝓝 : Numbers) (fs : List ℕ) (xs : List 𝓝.N) (l : ℕ) (ok : Accepted 𝓝 l fs xs) (half : ℕ) (parts : half ≡ 8 * faces_of fs l + 4 * verts_of 𝓝 fs xs l) where
  -- ---- any level

  module _ (i : ℕ) (k : i ≤ l) (w : List ℕ) (held : Holds w (start_of i half) (level_at 𝓝 fs xs i).mesh) where
    pub here : Fits 𝓝 fs xs l i
    here = fits 𝓝 fs xs l ok i k

    pub read : mesh_in w (start_of i half) (faces_of fs i) (verts_of 𝓝 fs xs i) ≡ (level_at 𝓝 fs xs i).mesh
    read = mesh-read w (start_of i half) (faces_of fs i) (level_at 𝓝 fs xs i).mesh held here.faces

    pub faces-read : part (start_of i half) (3 * faces_of fs i) w ≡ (level_at 𝓝 fs xs i).mesh.faces
    faces-read = ap (λ (m : Mesh). m.faces) read

    -- what the moves ask of the words
    pub movable : Movable w (start_of i half) (faces_of fs i) (verts_of 𝓝 fs xs i)
    movable = record {
      holds = rw read held;
      sound = rw read here.sound;
      few = rw read here.small;
      small = omega (arith, here.verts, here.fewer, here.most);
    }

  -- ---- any level but the last

  module _ (i : ℕ) (h : i < l) (w : List ℕ) (held : Holds w (start_of i half) (level_at 𝓝 fs xs i).mesh) (room : 2 * half ≤ length w) where
    now-fits : Fits 𝓝 fs xs l i
    now-fits = here i (omega arith) w held

    then-fits : Fits 𝓝 fs xs l (i + 1)
    then-fits = fits 𝓝 fs xs l ok (i + 1) (omega arith)

    more : verts_of 𝓝 fs xs i + length (firsts (links (level_at 𝓝 fs xs i).mesh.faces)) ≤ verts_of 𝓝 fs xs l
    more = omega (arith, then-fits.verts, next-verts 𝓝 fs xs i)

    more-read : verts_of 𝓝 fs xs i + length (firsts (links (part (start_of i half) (3 * faces_of fs i) w))) ≤ verts_of 𝓝 fs xs l
    more-read = rw (faces-read i (omega arith) w held) more

    pub placed : (third long : ℕ) → third ≡ 3 * verts_of 𝓝 fs xs l → 2 * third ≤ long
        → Placed long (start_of i third) (start_of (i + 1) third) (verts_of 𝓝 fs xs i) (edges_in w (start_of i half) (faces_of fs i))
    placed third long e r = go (sides i third)
      where
        go : Sides i third → Placed long (start_of i third) (start_of (i + 1) third) (verts_of 𝓝 fs xs i) (edges_in w (start_of i half) (faces_of fs i))
        go (left p q) = record {
          old = omega (arith, now-fits.verts, p);
          new = omega (arith, more-read, q);
          apart = inl (omega (arith, now-fits.verts, p, q));
        }
        go (right p q) = record {
          old = omega (arith, now-fits.verts, p);
          new = omega (arith, more-read, q);
          apart = inr (omega (arith, more-read, p, q));
        }

    pub ready : Ready w (start_of i half) (start_of (i + 1) half) (faces_of fs i) (verts_of 𝓝 fs xs i)
    ready = go (sides i half)
      where
        linked : links_in w (start_of i half + 3 * faces_of fs i) (3 * faces_of fs i) ≡ links (part (start_of i half) (3 * faces_of fs i) w)
        linked = rw (faces-read i (omega arith) w held) (rw now-fits.faces at held.links)

        go : Sides i half → Ready w (start_of i half) (start_of (i + 1) half) (faces_of fs i) (verts_of 𝓝 fs xs i)
        go (left p q) = record {
          sound = rw (read i (omega arith) w held) now-fits.sound;
          linked = linked;
          old = omega (arith, now-fits.verts, now-fits.four h, p);
          new = omega (arith, now-fits.four h, more-read, q);
          apart = inl (omega (arith, now-fits.verts, now-fits.four h, p, q));
          small = omega (arith, now-fits.verts, now-fits.four h, now-fits.most);
        }
        go (right p q) = record {
          sound = rw (read i (omega arith) w held) now-fits.sound;
          linked = linked;
          old = omega (arith, now-fits.verts, now-fits.four h, p);
          new = omega (arith, now-fits.four h, more-read, q);
          apart = inr (omega (arith, now-fits.verts, now-fits.four h, more-read, p, q));
          small = omega (arith, now-fits.verts, now-fits.four h, now-fits.most);
        }

    module _ (w' : List ℕ) (g : Grown w w' (start_of i half) (start_of (i + 1) half) (faces_of fs i) (verts_of 𝓝 fs xs i)) where
      pub words-held : Holds w' (start_of (i + 1) half) (level_at 𝓝 fs xs (i + 1)).mesh
      unfolding finer
      words-held = rw (levels-more 𝓝 i (first 𝓝 fs xs)) (subst (λ (m : Mesh). Holds w' (start_of (i + 1) half) (refined m (links m.faces))) (read i (omega arith) w held) g.holds)

      pub words-kept : Kept (2 * half) w' w
      words-kept = record { long = g.long; rest = go (sides i half) }
        where
          go : Sides i half → drop (2 * half) w' ≡ drop (2 * half) w
          go (left p q) = g.rest (2 * half) (omega (arith, now-fits.verts, now-fits.four h, p)) (omega (arith, now-fits.four h, more-read, q))
          go (right p q) = g.rest (2 * half) (omega (arith, now-fits.verts, now-fits.four h, p)) (omega (arith, now-fits.four h, more-read, q))

  -- ---- the coordinates

  module _ (i : ℕ) (h : i < l) (third : ℕ) (parts₃ : third ≡ 3 * verts_of 𝓝 fs xs l) (x x' : List 𝓝.N) (room : 2 * third ≤ length x)
      (new : x' ≡ sets x (start_of (i + 1) third) (level_at 𝓝 fs xs (i + 1)).points) where
    count-new : length (level_at 𝓝 fs xs (i + 1)).points ≡ 3 * verts_of 𝓝 fs xs (i + 1)
    unfolding finer
    count-new =
        let m = (level_at 𝓝 fs xs i).mesh in
        let e = ap (λ (a : Level 𝓝). length a.points) (levels-more 𝓝 i (first 𝓝 fs xs)) in
        omega (arith, e, length-new 𝓝 m (links m.faces) (level_at 𝓝 fs xs i).points, next-verts 𝓝 fs xs i)

    inside : start_of (i + 1) third + 3 * verts_of 𝓝 fs xs (i + 1) ≤ 2 * third
    inside = go (sides i third)
      where
        go : Sides i third → start_of (i + 1) third + 3 * verts_of 𝓝 fs xs (i + 1) ≤ 2 * third
        go (left p q) = omega (arith, (fits 𝓝 fs xs l ok (i + 1) (omega arith)).verts, q)
        go (right p q) = omega (arith, (fits 𝓝 fs xs l ok (i + 1) (omega arith)).verts, q)

    pub coords-held : part (start_of (i + 1) third) (3 * verts_of 𝓝 fs xs (i + 1)) x' ≡ (level_at 𝓝 fs xs (i + 1)).points
    coords-held = rw new (part_of (level_at 𝓝 fs xs (i + 1)).points x (start_of (i + 1) third) (3 * verts_of 𝓝 fs xs (i + 1)) count-new (omega (arith, inside)))

    pub coords-kept : Kept (2 * third) x' x
    coords-kept = record {
      long = rw new (length-sets x (start_of (i + 1) third) (level_at 𝓝 fs xs (i + 1)).points);
      rest = rw new (drop-after (level_at 𝓝 fs xs (i + 1)).points x (start_of (i + 1) third) (2 * third) (omega (arith, inside, count-new)));
    }

  -- ---- one level, of both buffers

  module _ (third : ℕ) (parts₃ : third ≡ 3 * verts_of 𝓝 fs xs l) (i : ℕ) (h : i < l) (w : List ℕ) (x : List 𝓝.N) (room : 2 * half ≤ length w) (room₃ : 2 * third ≤ length x)
      (held : Held 𝓝 (level_at 𝓝 fs xs i) i half third w x) where
    points-new :
        new_positions 𝓝 (mesh_in w (start_of i half) (faces_of fs i) (verts_of 𝓝 fs xs i)) (links (part (start_of i half) (3 * faces_of fs i) w)) (part (start_of i third) (3 * verts_of 𝓝 fs xs i) x)
        ≡ (level_at 𝓝 fs xs (i + 1)).points
    unfolding finer
    points-new =
        rw (read i (omega arith) w held.words, faces-read i (omega arith) w held.words, held.coords)
        (sym (ap (λ (a : Level 𝓝). a.points) (levels-more 𝓝 i (first 𝓝 fs xs))))

    module _ (w' : List ℕ) (x' : List 𝓝.N)
        (new : x' ≡ sets x (start_of (i + 1) third) (new_positions 𝓝 (mesh_in w (start_of i half) (faces_of fs i) (verts_of 𝓝 fs xs i)) (links (part (start_of i half) (3 * faces_of fs i) w)) (part (start_of i third) (3 * verts_of 𝓝 fs xs i) x)))
        (g : Grown w w' (start_of i half) (start_of (i + 1) half) (faces_of fs i) (verts_of 𝓝 fs xs i)) where
      placed-new : x' ≡ sets x (start_of (i + 1) third) (level_at 𝓝 fs xs (i + 1)).points
      placed-new = new ∙ ap (λ (ps : List 𝓝.N). sets x (start_of (i + 1) third) ps) points-new

      pub held_more : Held 𝓝 (level_at 𝓝 fs xs (i + 1)) (i + 1) half third w' x'
      held_more = record {
        words = words-held i h w held.words room w' g;
        coords = coords-held i h third parts₃ x x' room₃ placed-new;
      }

      pub more-kept : Kept (2 * half) w' w × Kept (2 * third) x' x
      more-kept = (words-kept i h w held.words room w' g, coords-kept i h third parts₃ x x' room₃ placed-new)

    -- how many vertices come
    pub verts-more : verts_of 𝓝 fs xs (i + 1) ≡ verts_of 𝓝 fs xs i + length (firsts (links (part (start_of i half) (3 * faces_of fs i) w)))
    verts-more = rw (faces-read i (omega arith) w held.words) (next-verts 𝓝 fs xs i)

pub kept-all : {A : Type 0} (n : ℕ) (x : List A) → Kept n x x
kept-all n x = record { long = refl; rest = refl }

pub kept_then : {A : Type 0} {n : ℕ} {x y z : List A} → Kept n x y → Kept n y z → Kept n x z
kept_then a b = record { long = a.long ∙ b.long; rest = a.rest ∙ b.rest }
