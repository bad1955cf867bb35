-- Request 6: the loop over the levels with marks: what holds whenever its test is reached, and one turn of it.
use mathlib.Core.Path.{◌≡◌, refl, sym, ap, ap₂, ◌∙◌, subst}
use mathlib.Core.Logic.{◌⊎◌, inl, inr}
use Prim.Native.Nat.{ℕ, ◌+◌, ◌-◌, ◌*◌, ◌/◌, ◌%◌, ◌≤◌, ◌<◌}
use native.Mathlib.Omega.{arith}
use native.Mathlib.Nat.{le_refl}
use mathlib.Core.Bool.{Bool, false}
use mathlib.Core.List.{List, map}
use mathlib.Core.Option.{Option, none}
use lib.IntN.{ℤ}
use lib.ListN.{length, get_or, drop, length-append}
use lib.Seq.{sets, length-sets, ext_get_or}
use Rattle.lists.specs.Lists.{count, gather, part}
use Rattle.lists.proofs.Places.{length-count, length-gather}
use Rattle.lists.proofs.Stores.{part_of, part-outside, drop-after, get_d_part}
use Rattle.rules.specs.Mesh.{links, Mesh, firsts, cage}
use Rattle.rules.specs.Position.{Stage, refining, whole}
use Rattle.rules.specs.Levels.{levels, three}
use Rattle.rules.specs.Sharp.{sharp, sharp_moved, sharp_edge, SharpLevel, sharp_first, sharp_finer, sharp_last, sharp_new, finer_marks}
use Rattle.rules.proofs.Growth.{faces-more}
use Rattle.rules.proofs.Cage.{Accepted, accepted}
use Rattle.rules.proofs.Both.{Both}
use Rattle.rules.proofs.Marked.{both_at, sharp-more}
use Rattle.rules.proofs.Sharp.{sharp-mesh}
use Rattle.faces.specs.Words.{link_of, face_count, Holds}
use Rattle.levels.specs.Level.{mesh_in, Ready, Grown}
use Rattle.levels.specs.Moves.{Movable, Placed, edges_in}
use Rattle.room.specs.Held.{start_of, Kept, Parts}
use Rattle.room.proofs.Sizes.{faces_of, level_at, verts_of, Fits, fits, next-verts}
use Rattle.room.proofs.Held.{Sides, left, right, sides, read, faces-read, movable, placed, ready, words-held, words-kept, kept-all, kept_then}
use Rattle.marks.specs.Marks.{mark_of, marks_in, marks_from}
use Rattle.marks.proofs.Marks.{mark-at, marks-grown, length-marks}
use Rattle.creases.specs.Moves.{Markable}
use Rattle.sharp.specs.Marked.{marks_at, SharpHeld, Listed}

-- ---- stores beside

-- marks are read in their words only
pub marks-same : (w x : List ℕ) (at n : ℕ) → part at n w ≡ part at n x → marks_in w at n ≡ marks_in x at n
marks-same w x at n e =
    ext_get_or false (marks_in w at n) (marks_in x at n) (length-marks w at n ∙ sym (length-marks x at n))
    (λ s h.
    let b : s < 3 * n = omega (arith, length-marks w at n) in
    let q : s / 3 < n = omega arith in
    mark-at w at n s b
    ∙ ap (λ (z : ℕ). mark_of z (s % 3)) (sym (get_d_part w at n (s / 3) 0 q) ∙ ap (λ (l : List ℕ). get_or l (s / 3) 0) e ∙ get_d_part x at n (s / 3) 0 q)
    ∙ sym (mark-at x at n s b))

-- a mesh stays where nothing is stored in it
pub holds-beside : (w vs : List ℕ) (at to : ℕ) (m : Mesh) → Holds w at m → at + 6 * face_count m + m.verts ≤ to → Holds (sets w to vs) at m
holds-beside w vs at to m h k = record {
  faces = part-outside vs w to at (3 * face_count m) (inl (omega arith)) ∙ h.faces;
  links = ap (λ (l : List ℕ). map link_of l) (part-outside vs w to (at + 3 * face_count m) (3 * face_count m) (inl (omega arith))) ∙ h.links;
  starts = part-outside vs w to (at + 6 * face_count m) m.verts (inl (omega arith)) ∙ h.starts;
  room = rw (length-sets w to vs) h.room;
}

-- how many coordinates the refined mesh has
module _ (m : Mesh) (ls : List (Option ℕ)) (ms : List Bool) (xs : List ℤ) where
  moved_length : (p : Stage) → length (gather (sharp_moved whole p m ls ms xs) (count 0 m.verts)) ≡ 3 * m.verts
  unfolding sharp_moved
  moved_length p = length-gather (sharp_moved whole p m ls ms xs) 3 (λ a. refl) (count 0 m.verts) ∙ ap (λ (z : ℕ). 3 * z) (length-count 0 m.verts)

  pub length-sharp-new : length (sharp_new whole m ls ms xs) ≡ 3 * (m.verts + length (firsts ls))
  unfolding sharp_new
  length-sharp-new =
      let f : ℕ → List ℤ = λ s. three whole (sharp_edge whole m.faces xs s (sharp ms s) (get_or ls s none)) in
      length-append (gather (sharp_moved whole refining m ls ms xs) (count 0 m.verts)) (gather f (firsts ls))
      ∙ omega (arith, moved_length refining, length-gather f 3 (λ s. refl) (firsts ls))

-- four words to a face
pub length-four : (ws : List ℕ) (n : ℕ) → length (gather (marks_from ws) (count 0 n)) ≡ 4 * n
length-four ws n = length-gather (marks_from ws) 4 (λ f. refl) (count 0 n) ∙ ap (λ (z : ℕ). 4 * z) (length-count 0 n)

module _ (l : ℕ) (sl fs : List ℕ) (xs : List ℤ) (half third : ℕ) (w₀ : List ℕ) (x₀ : List ℤ) where
  pub record Marching (i n v : ℕ) (w : List ℕ) (x : List ℤ) : Type 0 where
    pub bound : i ≤ l
    pub faces : n ≡ faces_of fs i
    pub verts : v ≡ verts_of whole fs xs i
    pub held : Holds w (start_of i half) (level_at whole fs xs i).mesh
    pub marks : marks_in w (marks_at i half n) n ≡ (sharp_last whole i sl fs xs).marks
    pub coords : part (start_of i third) (3 * v) x ≡ (sharp_last whole i sl fs xs).points
    pub words : Kept (2 * half) w w₀
    pub work : Kept (2 * third) x x₀

  module _ (listed : Listed l sl fs xs) (parts : Parts whole l fs xs half third) (room : 2 * half ≤ length w₀) (room₃ : 2 * third ≤ length x₀) where
    ok : Accepted whole l fs xs
    ok = accepted whole l fs xs listed.passes

    pub half_is : half ≡ 8 * faces_of fs l + 4 * verts_of whole fs xs l
    half_is = parts.words ∙ ap (λ (k : ℕ). 8 * k + 4 * verts_of whole fs xs l) (fits whole fs xs l ok l (le_refl l)).faces

    mesh-is : (i : ℕ) → (sharp_last whole i sl fs xs).mesh ≡ (level_at whole fs xs i).mesh
    mesh-is i = sharp-mesh whole i sl fs xs

    count-is : (i : ℕ) → i ≤ l → face_count (sharp_last whole i sl fs xs).mesh ≡ faces_of fs i
    count-is i h = ap face_count (mesh-is i) ∙ (fits whole fs xs l ok i h).faces

    first-verts : length xs / 3 ≡ verts_of whole fs xs 0
    unfolding levels cage
    first-verts = refl

    pub marching-first : SharpHeld (sharp_last whole 0 sl fs xs) 0 half third w₀ x₀ → Marching 0 (length fs / 3) (length xs / 3) w₀ x₀
    marching-first h = record {
      bound = omega arith;
      faces = refl;
      verts = first-verts;
      held = subst (λ (m : Mesh). Holds w₀ (start_of 0 half) m) (mesh-is 0) h.words;
      marks = subst (λ (k : ℕ). marks_in w₀ (marks_at 0 half k) k ≡ (sharp_last whole 0 sl fs xs).marks) (count-is 0 (omega arith)) h.marks;
      coords = subst (λ (k : ℕ). part (start_of 0 third) (3 * k) x₀ ≡ (sharp_last whole 0 sl fs xs).points) (ap (λ (m : Mesh). m.verts) (mesh-is 0) ∙ sym first-verts) h.coords;
      words = kept-all (2 * half) w₀;
      work = kept-all (2 * third) x₀;
    }

    module _ (i n v : ℕ) (w : List ℕ) (x : List ℤ) (g : Marching i n v w x) where
      pub marching-held : SharpHeld (sharp_last whole i sl fs xs) i half third w x
      marching-held = record {
        words = subst (λ (m : Mesh). Holds w (start_of i half) m) (sym (mesh-is i)) g.held;
        marks = subst (λ (k : ℕ). marks_in w (marks_at i half k) k ≡ (sharp_last whole i sl fs xs).marks) (g.faces ∙ sym (count-is i g.bound)) g.marks;
        coords = subst (λ (k : ℕ). part (start_of i third) (3 * k) x ≡ (sharp_last whole i sl fs xs).points) (g.verts ∙ ap (λ (m : Mesh). m.verts) (sym (mesh-is i))) g.coords;
      }

      -- the numbers stay small
      pub marching-small : (n ≤ 32768) × (v ≤ 32768)
      marching-small =
          let f = fits whole fs xs l ok i g.bound in
          (omega (arith, g.faces, f.fewer, f.most), omega (arith, g.verts, f.verts, f.most))

      in_words : 2 * half ≤ length w
      in_words = omega (arith, g.words.long)

      in-work : 2 * third ≤ length x
      in-work = omega (arith, g.work.long)

      here : Fits whole fs xs l i
      here = fits whole fs xs l ok i g.bound

      module _ (h : i < l) where
        -- the words of the marks are there
        pub marching-fits : (4 * n ≤ half) × (9 * n + v + n ≤ half)
        marching-fits = (omega (arith, half_is, g.faces, here.four h), omega (arith, half_is, g.faces, g.verts, here.four h, here.verts))

        module _ (at to from next : ℕ) (a : at ≡ start_of i half) (b : to ≡ start_of (i + 1) half) (c : from ≡ start_of i third) (d : next ≡ start_of (i + 1) third) where
          pub marching-within : (at ≤ half) × (to ≤ half)
          marching-within = go (sides i half)
            where
              go : Sides i half → (at ≤ half) × (to ≤ half)
              go (left p q) = (omega (arith, a, p), omega (arith, b, q))
              go (right p q) = (omega (arith, a, p), omega (arith, b, q))

          marching-movable : Movable w at n v
          marching-movable = rw (a, g.faces, g.verts) (movable whole fs xs l ok half half_is i (omega arith) w g.held)

          faces-are : part at (3 * n) w ≡ (level_at whole fs xs i).mesh.faces
          faces-are = rw (a, g.faces) (faces-read whole fs xs l ok half half_is i (omega arith) w g.held)

          mesh-read : mesh_in w at n v ≡ (level_at whole fs xs i).mesh
          mesh-read = rw (a, g.faces, g.verts) (read whole fs xs l ok half half_is i (omega arith) w g.held)

          marks-read : marks_in w (at + (half - n)) n ≡ (sharp_last whole i sl fs xs).marks
          marks-read = ap (λ (k : ℕ). marks_in w (k + (half - n)) n) a ∙ g.marks

          both_read : Both n (links (part at (3 * n) w)) (marks_in w (at + (half - n)) n)
          both_read =
              let p = (both_at whole l i sl fs xs listed.passes listed.linked).both in
              let q : Both n (links (sharp_last whole i sl fs xs).mesh.faces) (sharp_last whole i sl fs xs).marks =
              subst (λ (k : ℕ). Both k (links (sharp_last whole i sl fs xs).mesh.faces) (sharp_last whole i sl fs xs).marks) (count-is i g.bound ∙ sym g.faces) p in
              let r = subst (λ (f : List ℕ). Both n (links f) (sharp_last whole i sl fs xs).marks) (ap (λ (m : Mesh). m.faces) (mesh-is i) ∙ sym faces-are) q in
              subst (λ (ms : List Bool). Both n (links (part at (3 * n) w)) ms) (sym marks-read) r

          pub marching-markable : Markable w at (at + (half - n)) n v
          marching-markable = record {
            movable = marching-movable;
            room = omega (arith, in_words, marching-within, marching-fits);
            both = both_read;
          }

          pub marching-placed : Placed (length x) from next v (edges_in w at n)
          marching-placed = rw (a, c, d, g.faces, g.verts) (placed whole fs xs l ok half half_is i h w g.held in_words third (length x) parts.coords in-work)

          pub marching-coords : part from (3 * v) x ≡ (sharp_last whole i sl fs xs).points
          marching-coords = ap (λ (k : ℕ). part k (3 * v) x) c ∙ g.coords

          pub marching-ready : Ready w at to n v
          marching-ready = rw (a, b, g.faces, g.verts) (ready whole fs xs l ok half half_is i h w g.held in_words)

          module _ (w' : List ℕ) (e : ℕ) (grown : Grown w w' at to n v) (more : e ≡ length (firsts (links (part at (3 * n) w)))) where
            pub more-is : verts_of whole fs xs (i + 1) ≡ v + e
            more-is = omega (arith, g.verts, more ∙ ap (λ (f : List ℕ). length (firsts (links f))) faces-are, next-verts whole fs xs i)

            -- both levels lie before their marks, and the parts are apart
            pub marching-apart : (at + (half - n) + n ≤ length w') × (to + (half - 4 * n) + 4 * n ≤ length w') × ((at + (half - n) + n ≤ to + (half - 4 * n)) ⊎ (to + (half - 4 * n) + 4 * n ≤ at + (half - n)))
            marching-apart = go (sides i half)
              where
                go : Sides i half → (at + (half - n) + n ≤ length w') × (to + (half - 4 * n) + 4 * n ≤ length w') × ((at + (half - n) + n ≤ to + (half - 4 * n)) ⊎ (to + (half - 4 * n) + 4 * n ≤ at + (half - n)))
                go (left p q) = (omega (arith, grown.long, in_words, a, p, marching-fits), omega (arith, grown.long, in_words, b, q, marching-fits), inl (omega (arith, a, b, p, q, marching-fits)))
                go (right p q) = (omega (arith, grown.long, in_words, a, p, marching-fits), omega (arith, grown.long, in_words, b, q, marching-fits), inr (omega (arith, a, b, p, q, marching-fits)))

            new-fits : Fits whole fs xs l (i + 1)
            new-fits = fits whole fs xs l ok (i + 1) (omega arith)

            edges_are : length (firsts (links (mesh_in w at n v).faces)) ≡ e
            edges_are = sym more

            -- the numbers of the next level are small too
            pub marching-more : (4 * n ≤ 32768) × (v + e ≤ 32768)
            marching-more = (omega (arith, g.faces, here.four h, here.most), omega (arith, more-is, new-fits.verts, here.most))

            marks-kept : marks_in w' (at + (half - n)) n ≡ marks_in w (at + (half - n)) n
            marks-kept = marks-same w' w (at + (half - n)) n (go (sides i half))
              where
                go : Sides i half → part (at + (half - n)) n w' ≡ part (at + (half - n)) n w
                go (left p q) = grown.kept (at + (half - n)) n (inr (omega (arith, marching-fits))) (inl (omega (arith, a, b, p, q, marching-fits)))
                go (right p q) = grown.kept (at + (half - n)) n (inr (omega (arith, marching-fits)))
                    (inr (omega (arith, a, b, p, q, marching-fits, half_is, g.faces, here.four h, more-is, new-fits.verts, edges_are)))

            module _ (w'' : List ℕ) (x' : List ℤ)
                (marked : w'' ≡ sets w' (to + (half - 4 * n)) (gather (marks_from (part (at + (half - n)) n w')) (count 0 n)))
                (new : x' ≡ sets x next (sharp_new whole (mesh_in w at n v) (links (part at (3 * n) w)) (marks_in w (at + (half - n)) n) (part from (3 * v) x))) where
              grown' : Grown w w' (start_of i half) (start_of (i + 1) half) (faces_of fs i) (verts_of whole fs xs i)
              grown' = rw (a, b, g.faces, g.verts) at grown

              faces' : 4 * n ≡ faces_of fs (i + 1)
              faces' = ap (λ (z : ℕ). 4 * z) g.faces ∙ sym (faces-more i (length fs / 3))

              held' : Holds w'' (start_of (i + 1) half) (level_at whole fs xs (i + 1)).mesh
              held' =
                  let m = (level_at whole fs xs (i + 1)).mesh in
                  let p = words-held whole fs xs l ok half half_is i h w g.held in_words w' grown' in
                  let k : start_of (i + 1) half + 6 * face_count m + m.verts ≤ to + (half - 4 * n) =
                  omega (arith, b, faces', new-fits.faces, new-fits.fewer, new-fits.verts, half_is) in
                  subst (λ (z : List ℕ). Holds z (start_of (i + 1) half) m) (sym marked)
                  (holds-beside w' (gather (marks_from (part (at + (half - n)) n w')) (count 0 n)) (start_of (i + 1) half) (to + (half - 4 * n)) m p k)

              step : sharp_last whole (i + 1) sl fs xs ≡ sharp_finer whole (sharp_last whole i sl fs xs)
              step = sharp-more whole i (sharp_first whole sl fs xs)

              marks' : marks_in w'' (marks_at (i + 1) half (4 * n)) (4 * n) ≡ (sharp_last whole (i + 1) sl fs xs).marks
              unfolding sharp_finer
              marks' =
                  let r = marching-apart.1 in
                  ap (λ (k : ℕ). marks_in w'' (k + (half - 4 * n)) (4 * n)) (sym b)
                  ∙ ap (λ (z : List ℕ). marks_in z (to + (half - 4 * n)) (4 * n)) marked
                  ∙ marks-grown w' (at + (half - n)) (to + (half - 4 * n)) n r
                  ∙ ap₂ {C = List Bool} (λ k ms. finer_marks k ms) (g.faces ∙ sym (count-is i g.bound)) (marks-kept ∙ marks-read)
                  ∙ sym (ap (λ (y : SharpLevel whole). y.marks) step)

              points' : sharp_new whole (mesh_in w at n v) (links (part at (3 * n) w)) (marks_in w (at + (half - n)) n) (part from (3 * v) x) ≡ (sharp_last whole (i + 1) sl fs xs).points
              unfolding sharp_finer
              points' =
                  ap (λ (m : Mesh). sharp_new whole m (links m.faces) (marks_in w (at + (half - n)) n) (part from (3 * v) x)) (mesh-read ∙ sym (mesh-is i))
                  ∙ ap₂ {C = List ℤ} (λ ms ps. sharp_new whole (sharp_last whole i sl fs xs).mesh (links (sharp_last whole i sl fs xs).mesh.faces) ms ps) marks-read marching-coords
                  ∙ sym (ap (λ (y : SharpLevel whole). y.points) step)

              abbrev ps : List ℤ
              ps = (sharp_last whole (i + 1) sl fs xs).points

              placed-new : x' ≡ sets x next ps
              placed-new = new ∙ ap (λ (zs : List ℤ). sets x next zs) points'

              long-new : length ps ≡ 3 * (v + e)
              long-new = sym (ap length points') ∙ length-sharp-new (mesh_in w at n v) (links (part at (3 * n) w)) (marks_in w (at + (half - n)) n) (part from (3 * v) x) ∙ omega (arith, more)

              inside : next + 3 * (v + e) ≤ 2 * third
              inside = go (sides i third)
                where
                  go : Sides i third → next + 3 * (v + e) ≤ 2 * third
                  go (left p q) = omega (arith, new-fits.verts, more-is, d, q, parts.coords)
                  go (right p q) = omega (arith, new-fits.verts, more-is, d, q, parts.coords)

              coords' : part (start_of (i + 1) third) (3 * (v + e)) x' ≡ ps
              coords' = ap₂ {C = List ℤ} (λ k z. part k (3 * (v + e)) z) (sym d) placed-new ∙ part_of ps x next (3 * (v + e)) long-new (omega (arith, inside, in-work))

              work' : Kept (2 * third) x' x
              work' = record {
                long = ap length placed-new ∙ length-sets x next ps;
                rest = ap (λ (z : List ℤ). drop (2 * third) z) placed-new ∙ drop-after ps x next (2 * third) (omega (arith, inside, long-new));
              }

              words' : Kept (2 * half) w'' w'
              words' =
                  let vs = gather (marks_from (part (at + (half - n)) n w')) (count 0 n) in
                  record {
                    long = ap length marked ∙ length-sets w' (to + (half - 4 * n)) vs;
                    rest = ap (λ (z : List ℕ). drop (2 * half) z) marked ∙ drop-after vs w' (to + (half - 4 * n)) (2 * half) (omega (arith, marching-within, marching-fits, length-four (part (at + (half - n)) n w') n));
                  }

              pub marching-next : Marching (i + 1) (4 * n) (v + e) w'' x'
              marching-next = record {
                bound = omega arith;
                faces = faces';
                verts = sym more-is;
                held = held';
                marks = marks';
                coords = coords';
                words = kept_then words' (kept_then (words-kept whole fs xs l ok half half_is i h w g.held in_words w' grown') g.words);
                work = kept_then work' g.work;
              }
