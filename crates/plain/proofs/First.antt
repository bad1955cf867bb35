-- Request 12: level 0 in the words, without links, with the marks of the listed sides.
use mathlib.Core.Path.{◌≡◌, refl, sym, ap, ◌∙◌, subst}
use mathlib.Core.Logic.{inl, inr}
use Prim.Native.Nat.{ℕ, ◌+◌, ◌-◌, ◌*◌, ◌/◌, ◌≤◌, ◌<◌}
use native.Mathlib.Omega.{arith}
use native.Mathlib.Nat.{zero-add}
use mathlib.Core.Bool.{Bool, ◌||◌}
use mathlib.Core.List.{List, []}
use mathlib.Core.Option.{Option, none}
use lib.IntN.{ℤ}
use lib.ListN.{length, get_or}
use lib.Seq.{sets, length-sets}
use Rattle.lists.specs.Lists.{count, find, gather, part}
use Rattle.lists.proofs.Places.{length-count, length-gather}
use Rattle.lists.proofs.Stores.{part_of, part-outside, drop-after}
use Rattle.rules.specs.Mesh.{links, Mesh, cage}
use Rattle.rules.specs.Position.{whole}
use Rattle.rules.specs.Sharp.{sharp, names, names_across, marks_of, unlinked, sharp_levels, sharp_last}
use Rattle.rules.proofs.Refine.{Good}
use Rattle.rules.proofs.Sides.{length-links}
use Rattle.faces.specs.Words.{coded, face_count, Holds}
use Rattle.cage.proofs.Rounds.{length-starts}
use Rattle.room.specs.Held.{half_of, third_of, Kept, Planned}
use Rattle.room.proofs.First.{within, small, load-room}
use Rattle.room.proofs.Last.{last_fits, faces-are}
use Rattle.marks.specs.Marks.{marks_in, Marking, Listable}
use Rattle.marks.proofs.Marking.{marking-done}
use Rattle.sharp.specs.Marked.{unmarked}
use Rattle.sharp.proofs.First.{part_same, drop-same, clean_of, listable, clean-links, word-is}
use Rattle.sharp.proofs.Marching.{marks-same}
use Rattle.looks.specs.Marking as looked
use Rattle.plain.specs.Level.{Stands}
use Rattle.plain.specs.Held.{Held, loaded, MarksLoaded}
use Rattle.plain.proofs.Ghost.{ghost, ghost-long, ghost-holds}
use Rattle.plain.proofs.Going.{mesh-read, room-read, stands-beside}

-- ---- the control cage

module _ (v : ℕ) (fs w : List ℕ) (n : ℕ) (size : length fs ≡ 3 * n) (room : 2 * length fs + v ≤ length w) where
  abbrev ss : List ℕ
  ss = (cage v fs).starts

  pub loaded-stands : Stands (loaded v fs w) 0 (cage v fs)
  unfolding cage
  loaded-stands =
      let f : 3 * (length fs / 3) ≡ length fs = omega arith in
      let g : 6 * (length fs / 3) ≡ 2 * length fs = omega arith in
      record {
        faces = rw f (part-outside ss (sets w 0 fs) (2 * length fs) 0 (length fs) (inl (omega arith)) ∙ part_of fs w 0 (length fs) refl (omega arith));
        starts = rw (g, zero-add) (part_of ss (sets w 0 fs) (2 * length fs) v (length-starts v fs) (rw (length-sets w 0 fs) (omega arith)));
        room = rw (length-sets (sets w 0 fs) (2 * length fs) ss, length-sets w 0 fs) (omega arith);
      }

  pub loaded-kept : (k : ℕ) → 2 * length fs + v ≤ k → Kept k (loaded v fs w) w
  loaded-kept k h = record {
    long = length-sets (sets w 0 fs) (2 * length fs) ss ∙ length-sets w 0 fs;
    rest = drop-after ss (sets w 0 fs) (2 * length fs) k (omega (arith, length-starts v fs)) ∙ drop-after fs w 0 k (omega arith);
  }

-- ---- its marks

stands_same : (w x : List ℕ) (m : Mesh) → Stands w 0 m → length x ≡ length w → ((j : ℕ) → j < 6 * face_count m + m.verts → get_or x j 0 ≡ get_or w j 0) → Stands x 0 m
stands_same w x m h e f =
    let r = h.room in
    record {
      faces = part_same w x 0 (3 * face_count m) (omega arith) e (λ j k. f j (omega arith)) ∙ h.faces;
      starts = part_same w x (0 + 6 * face_count m) m.verts (omega arith) e (λ j k. f j (omega arith)) ∙ h.starts;
      room = rw e r;
    }

module _ (w : List ℕ) (at n : ℕ) (m : Mesh) (h : Stands w 0 m) (g : Good m.verts n m.faces) (sl : List ℕ) (linked : find (unlinked (links m.faces)) sl ≡ none)
    (few : n ≤ 32768) (after : 6 * n + m.verts ≤ at) (room : at + n ≤ length w) where
  abbrev zeros : List ℕ
  zeros = gather unmarked (count 0 n)

  abbrev bare : List ℕ
  bare = sets w at zeros

  long-zeros : length zeros ≡ n
  long-zeros = length-gather unmarked 1 (λ f. refl) (count 0 n) ∙ omega (arith, length-count 0 n)

  long-bare : length bare ≡ length w
  long-bare = length-sets w at zeros

  face-count : face_count m ≡ n
  face-count = omega (arith, g.size)

  bare-stands : Stands bare 0 m
  bare-stands = stands-beside w zeros 0 at m h (omega (arith, face-count))

  faces-in : part 0 (3 * n) bare ≡ m.faces
  faces-in = ap (λ (y : Mesh). y.faces) (mesh-read bare 0 n m.verts m bare-stands face-count refl)

  -- with links, the linked engine could mark them
  room₀ : 0 + 6 * n + m.verts ≤ length w
  room₀ = room-read w 0 n m.verts m h face-count refl

  abbrev gw : List ℕ
  gw = ghost w 0 n

  holds : Holds gw 0 m
  holds = subst (λ (y : Mesh). Holds gw 0 y) (mesh-read w 0 n m.verts m h face-count refl) (ghost-holds w 0 n m.verts room₀)

  room-g : at + n ≤ length gw
  room-g = rw (ghost-long w 0 n m.verts room₀) room

  abbrev clean : List ℕ
  clean = clean_of gw at n m holds g sl linked after room-g

  ask : Listable clean (3 * n) at n sl
  ask = listable gw at n m holds g sl linked after room-g

  link_at : (x : ℕ) → get_or (links (part 0 (3 * n) bare)) x none ≡ get_or (links m.faces) x none
  link_at x = ap (λ (f : List ℕ). get_or (links f) x none) faces-in

  marks-are : marks_in bare at n ≡ marks_in clean at n
  marks-are = marks-same bare clean at n (part_of zeros w at n long-zeros room ∙ sym (part_of zeros gw at n long-zeros room-g))

  pub markable : looked.Listable bare 0 at n sl
  markable = record {
    none_yet = record {
      long = refl;
      kept = λ j k. refl;
      each = λ x b.
          ap (λ (ms : List Bool). sharp ms x) marks-are ∙ ask.none_yet.each x b
          ∙ ap (λ (o : Option ℕ). names [] x || names_across [] o) (ap (λ (ls : List (Option ℕ)). get_or ls x none) (clean-links gw at n m holds g sl linked after room-g) ∙ sym (link_at x));
    };
    listed = record { room = omega (arith, long-bare); thirds = omega arith; small = omega arith };
    after = omega arith;
    room = omega (arith, long-bare);
    side = ask.side;
    across = λ i b e.
        let s = get_or sl i 0 in
        let z : get_or clean (3 * n + s) 0 ≡ 0 = word-is gw at n m holds g sl linked after room-g s (ask.side i b) ∙ ap coded (sym (link_at s) ∙ e) in
        omega (arith, z, ask.across i b);
    back = λ x y b e.
        let q = clean-links gw at n m holds g sl linked after room-g in
        link_at y ∙ sym (ap (λ (ls : List (Option ℕ)). get_or ls y none) q)
        ∙ ask.back x y b (ap (λ (ls : List (Option ℕ)). get_or ls x none) q ∙ sym (link_at x) ∙ e);
  }

  marks-done : (x : List ℕ) → Marking bare (links (part 0 (3 * n) bare)) at n sl x → marks_in x at n ≡ marks_of (links m.faces) sl
  marks-done x q =
      marking-done bare (links (part 0 (3 * n) bare)) at n sl x (length-links (part 0 (3 * n) bare) ∙ ap (λ (f : List ℕ). length f) faces-in ∙ g.size) q
      ∙ ap (λ (f : List ℕ). marks_of (links f) sl) faces-in

  pub marks-loaded : (half : ℕ) → at ≡ half - n → at + n ≤ 2 * half → (y x : List ℕ) → y ≡ bare → Marking y (links (part 0 (3 * n) y)) at n sl x → MarksLoaded sl m half w x
  marks-loaded half e k y x c p =
      let q = subst (λ (z : List ℕ). Marking z (links (part 0 (3 * n) z)) at n sl x) c p in
      record {
        held = stands_same bare x m bare-stands q.long (λ j b. q.kept j (inl (omega (arith, face-count))));
        marks = subst (λ (z : ℕ). marks_in x (half - z) z ≡ marks_of (links m.faces) sl) (sym face-count) (ap (λ (z : ℕ). marks_in x z n) (sym e) ∙ marks-done x q);
        kept = record {
          long = q.long ∙ long-bare;
          rest = drop-same bare x (2 * half) q.long (λ j b. q.kept j (inr (omega arith))) ∙ drop-after zeros w at (2 * half) (omega (arith, long-zeros));
        };
      }

-- ---- the call's own

module _ (l : ℕ) (sl fs : List ℕ) (xs : List ℤ) (n v : ℕ) (p : Planned whole l fs xs n v) where
  pub few : length fs / 3 ≤ 32768
  few = omega (arith, within whole l fs xs n v p, faces-are whole l fs xs n v p, (last_fits whole l fs xs n v p).most)

  pub first-loaded : (w y : List ℕ) → 2 * half_of n v ≤ length w → y ≡ loaded (length xs / 3) fs w → Stands y 0 (cage (length xs / 3) fs) × Kept (2 * half_of n v) y w
  first-loaded w y r e =
      let a = loaded-stands (length xs / 3) fs w (length fs / 3) (small whole l fs xs n v p).0 (omega (arith, load-room whole l fs xs n v p)) in
      let b = loaded-kept (length xs / 3) fs w (length fs / 3) (small whole l fs xs n v p).0 (omega (arith, load-room whole l fs xs n v p)) (2 * half_of n v) (load-room whole l fs xs n v p) in
      (subst (λ (z : List ℕ). Stands z 0 (cage (length xs / 3) fs)) (sym e) a, subst (λ (z : List ℕ). Kept (2 * half_of n v) z w) (sym e) b)

  -- and so level 0 is held
  pub first-held : (w₀ w : List ℕ) (x : List ℤ) → MarksLoaded sl (cage (length xs / 3) fs) (half_of n v) w₀ w → part 0 (3 * (length xs / 3)) x ≡ xs
      → Held (sharp_last whole 0 sl fs xs) 0 (half_of n v) (third_of v) w x
  unfolding sharp_levels cage
  first-held w₀ w x q e = record {
    words = q.held;
    marks = ap (λ (k : ℕ). marks_in w k (length fs / 3)) (zero-add (half_of n v - length fs / 3)) ∙ q.marks;
    coords = e;
  }
