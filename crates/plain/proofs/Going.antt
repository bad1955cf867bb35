-- Request 12: the loop over the levels, without links: what holds whenever its test is reached, and one turn of it. Of each turn the laws of crate `sharp` are cited
-- over the words with their links put in.
use mathlib.Core.Path.{◌≡◌, refl, sym, ap, ap₂, ◌∙◌, subst}
use mathlib.Core.Logic.{◌⊎◌, inl, inr}
use Prim.Native.Nat.{ℕ, ◌+◌, ◌-◌, ◌*◌, ◌/◌, ◌≤◌, ◌<◌}
use native.Mathlib.Omega.{arith}
use mathlib.Core.Bool.{Bool}
use mathlib.Core.List.{List, map}
use lib.IntN.{ℤ}
use lib.ListN.{length, drop}
use lib.Seq.{sets, length-sets}
use Rattle.turns.specs.Turns.{most_valence}
use Rattle.lists.specs.Lists.{count, gather, part}
use Rattle.lists.proofs.Stores.{part_of, part-outside, drop-after}
use Rattle.rules.specs.Mesh.{links, Mesh, firsts, refined, cage}
use Rattle.rules.specs.Position.{whole}
use Rattle.rules.specs.Levels.{first, levels, finer}
use Rattle.rules.specs.Sharp.{sharp_last, sharp_new}
use Rattle.rules.proofs.Sound.{Sound}
use Rattle.rules.proofs.Levels.{Small}
use Rattle.rules.proofs.Growth.{levels-more}
use Rattle.rules.proofs.Range.{AllNear}
use Rattle.rules.proofs.Cage.{Accepted, accepted}
use Rattle.rules.proofs.Marked.{near-sharp-at}
use Rattle.rules.proofs.Sharp.{sharp-mesh}
use Rattle.faces.specs.Words.{coded, face_count, Holds}
use Rattle.levels.specs.Level as linked
use Rattle.levels.specs.Level.{mesh_in}
use Rattle.levels.specs.Moves.{Placed, edges_in}
use Rattle.levels.proofs.Growth.{w₅, grown-by}
use Rattle.room.specs.Held.{start_of, Kept, Parts}
use Rattle.room.proofs.Sizes.{faces_of, level_at, verts_of, Fits, fits}
use Rattle.room.proofs.Held.{Sides, left, right, sides, kept-all, kept_then}
use Rattle.marks.specs.Marks.{marks_in, marks_from}
use Rattle.creases.specs.Moves.{Markable}
use Rattle.sharp.specs.Marked.{marks_at, Listed}
use Rattle.sharp.proofs.Marching.{Marching, half_is, marks-same, length-four, marching-small, marching-fits, marching-within, marching-markable, marching-placed, marching-coords, marching-ready, marching-apart, marching-more, more-is, marching-next}
use Rattle.plain.specs.Level.{Stands, Ready, Grown, Movable}
use Rattle.plain.specs.Held.{Held}
use Rattle.plain.proofs.Ghost.{ghost, wires-long, ghost-long, faces-same, part_same, mesh-same, marks-ghost, ghost-holds}

-- a mesh that stands is the mesh that is read
pub mesh-read : (w : List ℕ) (at n v : ℕ) (m : Mesh) → Stands w at m → face_count m ≡ n → m.verts ≡ v → mesh_in w at n v ≡ m
mesh-read w at n v m h e f =
    let a : part at (3 * n) w ≡ m.faces = rw e at h.faces in
    let s : part (at + 6 * n) m.verts w ≡ m.starts = rw e at h.starts in
    ap (λ (k : ℕ). mesh_in w at n k) (sym f) ∙ ap₂ {C = Mesh} (λ x y. record { verts = m.verts; faces = x; starts = y }) a s

pub room-read : (w : List ℕ) (at n v : ℕ) (m : Mesh) → Stands w at m → face_count m ≡ n → m.verts ≡ v → at + 6 * n + v ≤ length w
room-read w at n v m h e f = rw (e, f) at h.room

-- and stays where nothing is stored in it
pub stands-beside : (w vs : List ℕ) (at to : ℕ) (m : Mesh) → Stands w at m → at + 6 * face_count m + m.verts ≤ to → Stands (sets w to vs) at m
stands-beside w vs at to m h k = record {
  faces = part-outside vs w to at (3 * face_count m) (inl (omega arith)) ∙ h.faces;
  starts = part-outside vs w to (at + 6 * face_count m) m.verts (inl (omega arith)) ∙ h.starts;
  room = rw (length-sets w to vs) h.room;
}

module _ (l : ℕ) (sl fs : List ℕ) (xs : List ℤ) (half third : ℕ) (w₀ : List ℕ) (x₀ : List ℤ) where
  pub record Going (i n v : ℕ) (w : List ℕ) (x : List ℤ) : Type 0 where
    pub bound : i ≤ l
    pub faces : n ≡ faces_of fs i
    pub verts : v ≡ verts_of whole fs xs i
    pub held : Stands w (start_of i half) (level_at whole fs xs i).mesh
    pub marks : marks_in w (marks_at i half n) n ≡ (sharp_last whole i sl fs xs).marks
    pub coords : part (start_of i third) (3 * v) x ≡ (sharp_last whole i sl fs xs).points
    pub words : Kept (2 * half) w w₀
    pub work : Kept (2 * third) x x₀

  -- what one turn has, once it knows where it reads and writes; and what it has once the words are grown, which leaves the edges' number e
  pub record Turned (i n v : ℕ) (w : List ℕ) (x : List ℤ) (at to from next : ℕ) (w' : List ℕ) (e : ℕ) : Type 0 where
    pub apart : (at + (half - n) + n ≤ length w') × (to + (half - 4 * n) + 4 * n ≤ length w') × ((at + (half - n) + n ≤ to + (half - 4 * n)) ⊎ (to + (half - 4 * n) + 4 * n ≤ at + (half - n)))
    pub more : (4 * n ≤ 32768) × (v + e ≤ 32768)
    pub again : (w'' : List ℕ) (x' : List ℤ) → w'' ≡ sets w' (to + (half - 4 * n)) (gather (marks_from (part (at + (half - n)) n w')) (count 0 n))
        → x' ≡ sets x next (sharp_new whole (mesh_in w at n v) (links (part at (3 * n) w)) (marks_in w (at + (half - n)) n) (part from (3 * v) x)) → Going (i + 1) (4 * n) (v + e) w'' x'

  pub record Turn (i n v : ℕ) (w : List ℕ) (x : List ℤ) (at to from next : ℕ) : Type 0 where
    pub fits : (4 * n ≤ half) × (9 * n + v + n ≤ half)
    pub within : (at ≤ half) × (to ≤ half)
    pub movable : Movable w at (at + (half - n)) n v
    pub placed : Placed (length x) from next v (edges_in w at n)
    pub near : AllNear (part from (3 * v) x)
    pub ready : Ready w at to n v
    pub turned : (w' : List ℕ) (e : ℕ) → Grown w w' at to n v → e ≡ length (firsts (links (part at (3 * n) w))) → Turned i n v w x at to from next w' e

  module _ (listed : Listed l sl fs xs) (parts : Parts whole l fs xs half third) (room : 2 * half ≤ length w₀) (room₃ : 2 * third ≤ length x₀) where
    ok : Accepted whole l fs xs
    ok = accepted whole l fs xs listed.passes

    mesh-is : (i : ℕ) → (sharp_last whole i sl fs xs).mesh ≡ (level_at whole fs xs i).mesh
    mesh-is i = sharp-mesh whole i sl fs xs

    count-is : (i : ℕ) → i ≤ l → face_count (sharp_last whole i sl fs xs).mesh ≡ faces_of fs i
    count-is i h = ap face_count (mesh-is i) ∙ (fits whole fs xs l ok i h).faces

    first-verts : length xs / 3 ≡ verts_of whole fs xs 0
    unfolding levels cage
    first-verts = refl

    pub going-first : Held (sharp_last whole 0 sl fs xs) 0 half third w₀ x₀ → Going 0 (length fs / 3) (length xs / 3) w₀ x₀
    going-first h = record {
      bound = omega arith;
      faces = refl;
      verts = first-verts;
      held = subst (λ (m : Mesh). Stands w₀ (start_of 0 half) m) (mesh-is 0) h.words;
      marks = subst (λ (k : ℕ). marks_in w₀ (marks_at 0 half k) k ≡ (sharp_last whole 0 sl fs xs).marks) (count-is 0 (omega arith)) h.marks;
      coords = subst (λ (k : ℕ). part (start_of 0 third) (3 * k) x₀ ≡ (sharp_last whole 0 sl fs xs).points) (ap (λ (m : Mesh). m.verts) (mesh-is 0) ∙ sym first-verts) h.coords;
      words = kept-all (2 * half) w₀;
      work = kept-all (2 * third) x₀;
    }

    module _ (i n v : ℕ) (w : List ℕ) (x : List ℤ) (g : Going i n v w x) where
      pub going-held : Held (sharp_last whole i sl fs xs) i half third w x
      going-held = record {
        words = subst (λ (m : Mesh). Stands w (start_of i half) m) (sym (mesh-is i)) g.held;
        marks = subst (λ (k : ℕ). marks_in w (marks_at i half k) k ≡ (sharp_last whole i sl fs xs).marks) (g.faces ∙ sym (count-is i g.bound)) g.marks;
        coords = subst (λ (k : ℕ). part (start_of i third) (3 * k) x ≡ (sharp_last whole i sl fs xs).points) (g.verts ∙ ap (λ (m : Mesh). m.verts) (sym (mesh-is i))) g.coords;
      }

      here : Fits whole fs xs l i
      here = fits whole fs xs l ok i g.bound

      -- the mesh, its links and its marks lie in one part
      part-is : (start_of i half ≤ half) × (7 * n + v ≤ half)
      part-is = (go (sides i half), omega (arith, half_is l sl fs xs half third w₀ x₀ listed parts room room₃, here.fewer, here.verts, g.faces, g.verts))
        where
          go : Sides i half → start_of i half ≤ half
          go (left p q) = omega (arith, p)
          go (right p q) = omega (arith, p)

      room-is : start_of i half + 6 * n + v ≤ length w
      room-is = room-read w (start_of i half) n v (level_at whole fs xs i).mesh g.held (here.faces ∙ sym g.faces) (sym g.verts)

      mesh-here : mesh_in w (start_of i half) n v ≡ (level_at whole fs xs i).mesh
      mesh-here = mesh-read w (start_of i half) n v (level_at whole fs xs i).mesh g.held (here.faces ∙ sym g.faces) (sym g.verts)

      -- with links, the linked loop could go on
      ghostly : Marching l sl fs xs half third w₀ x₀ i n v (ghost w (start_of i half) n) x
      ghostly = record {
        bound = g.bound;
        faces = g.faces;
        verts = g.verts;
        held = subst (λ (m : Mesh). Holds (ghost w (start_of i half) n) (start_of i half) m) mesh-here (ghost-holds w (start_of i half) n v room-is);
        marks = marks-ghost w (start_of i half) n v room-is (marks_at i half n) (omega (arith, part-is)) ∙ g.marks;
        coords = g.coords;
        words = kept_then (record {
          long = ghost-long w (start_of i half) n v room-is;
          rest = drop-after (map coded (links (part (start_of i half) (3 * n) w))) w (start_of i half + 3 * n) (2 * half) (omega (arith, part-is, wires-long w (start_of i half) n v room-is));
        }) g.words;
        work = g.work;
      }

      going-small : (n ≤ 32768) × (v ≤ 32768)
      going-small = marching-small l sl fs xs half third w₀ x₀ listed parts room room₃ i n v (ghost w (start_of i half) n) x ghostly

      module _ (h : i < l) where
        going-fits : (4 * n ≤ half) × (9 * n + v + n ≤ half)
        going-fits = marching-fits l sl fs xs half third w₀ x₀ listed parts room room₃ i n v (ghost w (start_of i half) n) x ghostly h

        module _ (at to from next : ℕ) (a : at ≡ start_of i half) (b : to ≡ start_of (i + 1) half) (c : from ≡ start_of i third) (d : next ≡ start_of (i + 1) third) where
          abbrev gw : List ℕ
          gw = ghost w at n

          march : Marching l sl fs xs half third w₀ x₀ i n v gw x
          march = rw a ghostly

          room_at : at + 6 * n + v ≤ length w
          room_at = rw a room-is

          going-within : (at ≤ half) × (to ≤ half)
          going-within = marching-within l sl fs xs half third w₀ x₀ listed parts room room₃ i n v gw x march h at to from next a b c d

          markable : Markable gw at (at + (half - n)) n v
          markable = marching-markable l sl fs xs half third w₀ x₀ listed parts room room₃ i n v gw x march h at to from next a b c d

          going-movable : Movable w at (at + (half - n)) n v
          going-movable = record {
            room = room_at;
            marked = omega (arith, markable.room, ghost-long w at n v room_at);
            sound = subst (λ (m : Mesh). Sound n m) (mesh-same w at n v room_at) markable.movable.sound;
            few = subst (λ (m : Mesh). Small most_valence m) (mesh-same w at n v room_at) markable.movable.few;
            small = omega (arith, going-small);
          }

          going-placed : Placed (length x) from next v (edges_in w at n)
          going-placed =
              subst (λ (f : List ℕ). Placed (length x) from next v (length (firsts (links f)))) (faces-same w at n v room_at)
              (marching-placed l sl fs xs half third w₀ x₀ listed parts room room₃ i n v gw x march h at to from next a b c d)

          going-near : AllNear (part from (3 * v) x)
          going-near = rw (marching-coords l sl fs xs half third w₀ x₀ listed parts room room₃ i n v gw x march h at to from next a b c d) (near-sharp-at l i sl fs xs listed.passes).0

          linked-ready : linked.Ready gw at to n v
          linked-ready = marching-ready l sl fs xs half third w₀ x₀ listed parts room room₃ i n v gw x march h at to from next a b c d

          going-ready : Ready w at to n v
          going-ready =
              let f = faces-same w at n v room_at in
              let k = ghost-long w at n v room_at in
              record {
                sound = going-movable.sound;
                old = rw k at linked-ready.old;
                new = rw (f, k) at linked-ready.new;
                apart = rw f at linked-ready.apart;
                small = linked-ready.small;
              }

          module _ (w' : List ℕ) (e : ℕ) (grown : Grown w w' at to n v) (more : e ≡ length (firsts (links (part at (3 * n) w)))) where
            -- what the linked engine would leave
            abbrev gw' : List ℕ
            gw' = w₅ gw at to n v linked-ready

            linked-grown : linked.Grown gw gw' at to n v
            linked-grown = grown-by gw at to n v linked-ready

            linked-more : e ≡ length (firsts (links (part at (3 * n) gw)))
            linked-more = more ∙ ap (λ (f : List ℕ). length (firsts (links f))) (sym (faces-same w at n v room_at))

            long_same : length gw' ≡ length w'
            long_same = linked-grown.long ∙ ghost-long w at n v room_at ∙ sym grown.long

            going-apart : (at + (half - n) + n ≤ length w') × (to + (half - 4 * n) + 4 * n ≤ length w') × ((at + (half - n) + n ≤ to + (half - 4 * n)) ⊎ (to + (half - 4 * n) + 4 * n ≤ at + (half - n)))
            going-apart =
                let r = marching-apart l sl fs xs half third w₀ x₀ listed parts room room₃ i n v gw x march h at to from next a b c d gw' e linked-grown linked-more in
                (rw long_same at r.0, rw long_same at r.1, r.2)

            going_more : (4 * n ≤ 32768) × (v + e ≤ 32768)
            going_more = marching-more l sl fs xs half third w₀ x₀ listed parts room room₃ i n v gw x march h at to from next a b c d gw' e linked-grown linked-more

            new-fits : Fits whole fs xs l (i + 1)
            new-fits = fits whole fs xs l ok (i + 1) (omega arith)

            new-verts : verts_of whole fs xs (i + 1) ≡ v + e
            new-verts = more-is l sl fs xs half third w₀ x₀ listed parts room room₃ i n v gw x march h at to from next a b c d gw' e linked-grown linked-more

            -- the old marks stay, with links and without
            beside : (at + (half - n) + n ≤ to) ⊎ (to + 24 * n + (v + e) ≤ at + (half - n))
            beside = go (sides i half)
              where
                go : Sides i half → (at + (half - n) + n ≤ to) ⊎ (to + 24 * n + (v + e) ≤ at + (half - n))
                go (left p q) = inl (omega (arith, a, b, p, q, going-fits))
                go (right p q) = inr (omega (arith, a, b, p, q, going-fits, half_is l sl fs xs half third w₀ x₀ listed parts room room₃, g.faces, here.four h, new-verts, new-fits.verts))

            marks-part : part (at + (half - n)) n w' ≡ part (at + (half - n)) n gw'
            marks-part =
                grown.kept (at + (half - n)) n (inr (omega (arith, going-fits))) (subst (λ (k : ℕ). (at + (half - n) + n ≤ to) ⊎ (to + 24 * n + (v + k) ≤ at + (half - n))) more beside)
                ∙ sym (linked-grown.kept (at + (half - n)) n (inr (omega (arith, going-fits))) (subst (λ (k : ℕ). (at + (half - n) + n ≤ to) ⊎ (to + 24 * n + (v + k) ≤ at + (half - n))) linked-more beside)
                ∙ part_same w at n v room_at (at + (half - n)) n (omega (arith, going-fits)))

            module _ (w'' : List ℕ) (x' : List ℤ)
                (marked : w'' ≡ sets w' (to + (half - 4 * n)) (gather (marks_from (part (at + (half - n)) n w')) (count 0 n)))
                (new : x' ≡ sets x next (sharp_new whole (mesh_in w at n v) (links (part at (3 * n) w)) (marks_in w (at + (half - n)) n) (part from (3 * v) x))) where
              abbrev four : List ℕ → List ℕ
              four z = gather (marks_from (part (at + (half - n)) n z)) (count 0 n)

              linked-new : x' ≡ sets x next (sharp_new whole (mesh_in gw at n v) (links (part at (3 * n) gw)) (marks_in gw (at + (half - n)) n) (part from (3 * v) x))
              linked-new =
                  new ∙ sym (ap₂ (λ (m : Mesh) (ms : List Bool). sets x next (sharp_new whole m (links m.faces) ms (part from (3 * v) x)))
                  (mesh-same w at n v room_at) (marks-ghost w at n v room_at (at + (half - n)) (omega (arith, going-fits))))

              march' : Marching l sl fs xs half third w₀ x₀ (i + 1) (4 * n) (v + e) (sets gw' (to + (half - 4 * n)) (four gw')) x'
              march' = marching-next l sl fs xs half third w₀ x₀ listed parts room room₃ i n v gw x march h at to from next a b c d gw' e linked-grown linked-more _ x' refl linked-new

              held' : Stands w'' (start_of (i + 1) half) (level_at whole fs xs (i + 1)).mesh
              unfolding finer
              held' =
                  let m = (level_at whole fs xs (i + 1)).mesh in
                  let p : Stands w' to m = rw (levels-more whole i (first whole fs xs)) (subst (λ (y : Mesh). Stands w' to (refined y (links y.faces))) (rw a mesh-here) grown.stands) in
                  let k : to + 6 * face_count m + m.verts ≤ to + (half - 4 * n) =
                  omega (arith, march'.faces, new-fits.faces, new-fits.fewer, new-fits.verts, half_is l sl fs xs half third w₀ x₀ listed parts room room₃) in
                  rw (marked, sym b) (stands-beside w' (four w') to (to + (half - 4 * n)) m p k)

              marks' : marks_in w'' (marks_at (i + 1) half (4 * n)) (4 * n) ≡ (sharp_last whole (i + 1) sl fs xs).marks
              marks' =
                  let j = to + (half - 4 * n) in
                  let q : part j (4 * n) w'' ≡ part j (4 * n) (sets gw' j (four gw')) =
                  ap (λ (z : List ℕ). part j (4 * n) z) marked
                  ∙ part_of (four w') w' j (4 * n) (length-four (part (at + (half - n)) n w') n) going-apart.1
                  ∙ ap (λ (ws : List ℕ). gather (marks_from ws) (count 0 n)) marks-part
                  ∙ sym (part_of (four gw') gw' j (4 * n) (length-four (part (at + (half - n)) n gw') n) (rw long_same going-apart.1)) in
                  ap (λ (k : ℕ). marks_in w'' (k + (half - 4 * n)) (4 * n)) (sym b)
                  ∙ marks-same w'' (sets gw' j (four gw')) j (4 * n) q
                  ∙ ap (λ (k : ℕ). marks_in (sets gw' j (four gw')) (k + (half - 4 * n)) (4 * n)) b
                  ∙ march'.marks

              words' : Kept (2 * half) w'' w
              words' = record {
                long = ap length marked ∙ length-sets w' (to + (half - 4 * n)) (four w') ∙ grown.long;
                rest =
                    ap (λ (z : List ℕ). drop (2 * half) z) marked
                    ∙ drop-after (four w') w' (to + (half - 4 * n)) (2 * half) (omega (arith, going-within, going-fits, length-four (part (at + (half - n)) n w') n))
                    ∙ grown.rest (2 * half) (omega (arith, going-within, going-fits))
                    (omega (arith, more, going-within, half_is l sl fs xs half third w₀ x₀ listed parts room room₃, g.faces, here.four h, new-verts, new-fits.verts));
              }

              going_next : Going (i + 1) (4 * n) (v + e) w'' x'
              going_next = record {
                bound = march'.bound;
                faces = march'.faces;
                verts = march'.verts;
                held = held';
                marks = marks';
                coords = march'.coords;
                words = kept_then words' g.words;
                work = march'.work;
              }

          pub turn : Turn i n v w x at to from next
          turn = record {
            fits = going-fits;
            within = going-within;
            movable = going-movable;
            placed = going-placed;
            near = going-near;
            ready = going-ready;
            turned = λ w' e grown more. record { apart = going-apart w' e grown more; more = going_more w' e grown more; again = λ w'' x' marked new. going_next w' e grown more w'' x' marked new };
          }
