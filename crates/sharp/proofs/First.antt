-- Request 6: level 0 in the words, with the marks of the listed sides.
use mathlib.Core.Path.{◌≡◌, refl, sym, ap, ◌∙◌, subst}
use mathlib.Core.Logic.{inl, inr}
use Prim.Native.Nat.{ℕ, ◌+◌, ◌-◌, ◌*◌, ◌/◌, ◌%◌, ◌≤◌, ◌<◌}
use native.Mathlib.Omega.{arith}
use native.Mathlib.Nat.{zero-add}
use mathlib.Core.Bool.{Bool, true, false, not, ◌||◌}
use mathlib.Core.List.{List, [], ◌∷◌, map}
use mathlib.Core.Option.{Option, none, some}
use lib.IntN.{ℤ}
use lib.Dec.{T, eqb, leb, nleb→lt}
use lib.ListN.{length, get_or, drop, length-drop}
use lib.Seq.{sets, length-sets, ext_get_or, get_or-drop}
use Rattle.lists.specs.Lists.{pick, count, find, found, gather, part}
use Rattle.lists.proofs.Places.{length-count, length-gather, get_or-gather, find_none}
use Rattle.lists.proofs.Stores.{part_of, piece-more, drop-after, get_d_part, length_part, get_or-within}
use Rattle.rules.specs.Mesh.{links, Mesh, cage}
use Rattle.rules.specs.Position.{whole}
use Rattle.rules.specs.Sharp.{names, names_across, marks_of, unlinked, sharp_levels, sharp_last}
use Rattle.rules.proofs.Checks.{nor-l, nor-r}
use Rattle.rules.proofs.Refine.{Good}
use Rattle.rules.proofs.Sides.{length-links}
use Rattle.rules.proofs.Faces.{link-link}
use Rattle.faces.specs.Words.{link_of, links_in, coded, face_count, Holds}
use Rattle.faces.proofs.Held.{links-held, link-word, link-bound}
use Rattle.room.specs.Held.{half_of, third_of, Planned, loaded}
use Rattle.room.proofs.Last.{ok}
use Rattle.room.proofs.Loaded.{loaded-held}
use Rattle.room.proofs.First.{within, small, load-room}
use Rattle.marks.specs.Marks.{mark_of, marks_in, Marking, Listable}
use Rattle.marks.proofs.Marks.{mark-at}
use Rattle.marks.proofs.Marking.{marking-done}
use Rattle.sharp.specs.Marked.{SharpHeld, Listed, unmarked, MarksLoaded}
use Rattle.sharp.proofs.Marching.{holds-beside}

-- ---- one face more with no mark

pub unmarked-more : (l : List ℕ) (at n k : ℕ) → k < n → (w x : List ℕ) → w ≡ sets l at (gather unmarked (count 0 k)) → x ≡ sets w (at + k) (0 ∷ []) → x ≡ sets l at (gather unmarked (count 0 (k + 1)))
unmarked-more l at n k h w x e q = q ∙ rw e (piece-more unmarked 1 (λ _. refl) l at n k h (at + k) (omega arith))

-- ---- parts and tails by their entries

pub part_same : (w x : List ℕ) (i k : ℕ) → i + k ≤ length w → length x ≡ length w → ((j : ℕ) → j < i + k → get_or x j 0 ≡ get_or w j 0) → part i k x ≡ part i k w
part_same w x i k r e f =
    let a : length (part i k x) ≡ k = length_part x i k (omega arith) in
    ext_get_or 0 (part i k x) (part i k w) (a ∙ sym (length_part w i k r))
    (λ j h. let b : j < k = omega arith in get_d_part x i k j 0 b ∙ f (i + j) (omega arith) ∙ sym (get_d_part w i k j 0 b))

pub drop-same : (w x : List ℕ) (k : ℕ) → length x ≡ length w → ((j : ℕ) → k ≤ j → get_or x j 0 ≡ get_or w j 0) → drop k x ≡ drop k w
drop-same w x k e f =
    ext_get_or 0 (drop k x) (drop k w) (length-drop k x ∙ ap (λ (z : ℕ). z - k) e ∙ sym (length-drop k w))
    (λ j h. get_or-drop k x j 0 ∙ f (k + j) (omega arith) ∙ sym (get_or-drop k w j 0))

pub holds_same : (w x : List ℕ) (m : Mesh) → Holds w 0 m → length x ≡ length w → ((j : ℕ) → j < 6 * face_count m + m.verts → get_or x j 0 ≡ get_or w j 0) → Holds x 0 m
holds_same w x m h e f =
    let r = h.room in
    record {
      faces = part_same w x 0 (3 * face_count m) (omega arith) e (λ j k. f j (omega arith)) ∙ h.faces;
      links = ap (λ (l : List ℕ). map link_of l) (part_same w x (0 + 3 * face_count m) (3 * face_count m) (omega arith) e (λ j k. f j (omega arith))) ∙ h.links;
      starts = part_same w x (0 + 6 * face_count m) m.verts (omega arith) e (λ j k. f j (omega arith)) ∙ h.starts;
      room = rw e r;
    }

-- ---- the marks of the listed sides

no-bit : (k : ℕ) → mark_of 0 k ≡ false
no-bit k = go (eqb k 0) (eqb k 1)
  where
    go : (b c : Bool) → pick b false (pick c false false) ≡ false
    go true c = refl
    go false true = refl
    go false false = refl

nobody : (x : ℕ) (o : Option ℕ) → names [] x || names_across [] o ≡ false
nobody x none = refl
nobody x (some t) = refl

is_some : (o : Option ℕ) → T (not (not (found o))) → 0 < coded o
is_some none t = absurd t
is_some (some t) q = omega arith

module _ (w : List ℕ) (at n : ℕ) (m : Mesh) (h : Holds w 0 m) (g : Good m.verts n m.faces) (sl : List ℕ) (linked : find (unlinked (links m.faces)) sl ≡ none)
    (after : 6 * n + m.verts ≤ at) (room : at + n ≤ length w) where
  abbrev zeros : List ℕ
  zeros = gather unmarked (count 0 n)

  abbrev pub clean_of : List ℕ
  clean_of = sets w at zeros

  long-zeros : length zeros ≡ n
  long-zeros = length-gather unmarked 1 (λ f. refl) (count 0 n) ∙ omega (arith, length-count 0 n)

  long-clean : length clean_of ≡ length w
  long-clean = length-sets w at zeros

  face-count : face_count m ≡ n
  face-count = omega (arith, g.size)

  clean-held : Holds clean_of 0 m
  clean-held = holds-beside w zeros 0 at m h (omega (arith, face-count))

  clean_at : (k : ℕ) → k < n → get_or clean_of (at + k) 0 ≡ 0
  clean_at k b =
      get_or-within zeros w at k 0 (omega (arith, long-zeros)) (omega (arith, long-zeros))
      ∙ ap (λ (z : ℕ). get_or zeros z 0) (let e : k ≡ 1 * k + 0 = omega arith in e)
      ∙ get_or-gather unmarked 1 (λ f. refl) (count 0 n) k 0 0 0 (rw (length-count 0 n) b) (omega arith)

  pub clean-links : links_in clean_of (3 * n) (3 * n) ≡ links m.faces
  clean-links = ap (λ (k : ℕ). links_in clean_of k (3 * n)) (sym (zero-add (3 * n))) ∙ links-held clean_of 0 n m clean-held g

  pub word-is : (s : ℕ) → s < 3 * n → get_or clean_of (3 * n + s) 0 ≡ coded (get_or (links m.faces) s none)
  word-is s b = ap (λ (k : ℕ). get_or clean_of (k + s) 0) (sym (zero-add (3 * n))) ∙ link-word clean_of 0 n m clean-held g s b

  long-links : length (links m.faces) ≡ 3 * n
  long-links = length-links m.faces ∙ g.size

  passed : (i : ℕ) → i < length sl → T (not (unlinked (links m.faces) (get_or sl i 0)))
  passed i b = find_none (unlinked (links m.faces)) 0 sl linked i b

  listed-side : (i : ℕ) → i < length sl → get_or sl i 0 < 3 * n
  listed-side i b =
      let s = get_or sl i 0 in
      let k = nleb→lt (length (links m.faces)) s (nor-l (leb (length (links m.faces)) s) (not (found (get_or (links m.faces) s none))) (passed i b)) in
      omega (arith, k, long-links)

  listed-across : (i : ℕ) → i < length sl → 0 < get_or clean_of (3 * n + get_or sl i 0) 0
  listed-across i b =
      let s = get_or sl i 0 in
      rw (word-is s (listed-side i b)) (is_some (get_or (links m.faces) s none) (nor-r (leb (length (links m.faces)) s) (not (found (get_or (links m.faces) s none))) (passed i b)))

  back : (x y : ℕ) → x < 3 * n → get_or (links_in clean_of (3 * n) (3 * n)) x none ≡ some y → get_or (links_in clean_of (3 * n) (3 * n)) y none ≡ some x
  back x y b e =
      ap (λ (l : List (Option ℕ)). get_or l y none) clean-links
      ∙ link-link m.verts n m.faces g x y b (sym (ap (λ (l : List (Option ℕ)). get_or l x none) clean-links) ∙ e)

  pub listable : Listable clean_of (3 * n) at n sl
  listable = record {
    none_yet = record {
      long = refl;
      kept = λ j k. refl;
      each = λ x b.
          mark-at clean_of at n x b ∙ ap (λ (z : ℕ). mark_of z (x % 3)) (clean_at (x / 3) (omega arith)) ∙ no-bit (x % 3)
          ∙ sym (nobody x (get_or (links_in clean_of (3 * n) (3 * n)) x none));
    };
    after = omega arith;
    room = omega (arith, long-clean);
    side = listed-side;
    across = listed-across;
    below = λ s b. subst (λ (k : ℕ). get_or clean_of (k + s) 0 ≤ 3 * n) (zero-add (3 * n)) (link-bound clean_of 0 n m clean-held g s b);
    back = back;
  }

  pub marks-loaded : (half : ℕ) → at ≡ half - n → at + n ≤ 2 * half → (x : List ℕ) → Marking clean_of (links_in clean_of (3 * n) (3 * n)) at n sl x → MarksLoaded sl m half w x
  marks-loaded half e k x q = record {
    held = holds_same clean_of x m clean-held q.long (λ j b. q.kept j (inl (omega (arith, face-count))));
    marks =
        let d : marks_in x at n ≡ marks_of (links m.faces) sl =
        marking-done clean_of (links_in clean_of (3 * n) (3 * n)) at n sl x (ap (λ (ls : List (Option ℕ)). length ls) clean-links ∙ long-links) q ∙ ap (λ (ls : List (Option ℕ)). marks_of ls sl) clean-links in
        subst (λ (z : ℕ). marks_in x (half - z) z ≡ marks_of (links m.faces) sl) (sym face-count) (ap (λ (z : ℕ). marks_in x z n) (sym e) ∙ d);
    kept = record {
      long = q.long ∙ long-clean;
      rest = drop-same clean_of x (2 * half) q.long (λ j b. q.kept j (inr (omega arith))) ∙ drop-after zeros w at (2 * half) (omega (arith, long-zeros));
    };
  }

  pub marks-loaded-from : (half : ℕ) → at ≡ half - n → at + n ≤ 2 * half → (y x : List ℕ) → y ≡ clean_of → Marking y (links_in y (3 * n) (3 * n)) at n sl x → MarksLoaded sl m half w x
  marks-loaded-from half e k y x c q = marks-loaded half e k x (subst (λ (z : List ℕ). Marking z (links_in z (3 * n) (3 * n)) at n sl x) c q)

-- ---- the call's own

module _ (l : ℕ) (sl fs : List ℕ) (xs : List ℤ) (n v : ℕ) (p : Planned whole l fs xs n v) where
  pub first_good : Good (cage (length xs / 3) fs).verts (length fs / 3) (cage (length xs / 3) fs).faces
  first_good = (ok whole l fs xs n v p).sound.good

  -- the control cage lies before its marks
  pub before-marks : 6 * (length fs / 3) + (cage (length xs / 3) fs).verts ≤ half_of n v - length fs / 3
  unfolding cage
  before-marks = omega (arith, within whole l fs xs n v p)

  pub marks-fit : (length fs / 3 ≤ half_of n v) × (half_of n v - length fs / 3 + length fs / 3 ≤ 2 * half_of n v)
  marks-fit = (omega (arith, within whole l fs xs n v p), omega (arith, within whole l fs xs n v p))

  pub cage-linked : Listed l sl fs xs → find (unlinked (links (cage (length xs / 3) fs).faces)) sl ≡ none
  unfolding cage
  cage-linked h = h.linked

  pub first-loaded : (w y : List ℕ) → 2 * half_of n v ≤ length w → y ≡ sets w 0 (loaded (length xs / 3) fs) → Holds y 0 (cage (length xs / 3) fs) × (length y ≡ length w)
  first-loaded w y r e = (
    subst (λ (z : List ℕ). Holds z 0 (cage (length xs / 3) fs)) (sym e) (loaded-held (length xs / 3) (length fs / 3) fs w (small whole l fs xs n v p).0 (omega (arith, load-room whole l fs xs n v p))),
    ap length e ∙ length-sets w 0 (loaded (length xs / 3) fs),
  )

  pub first-coords : (x y : List ℤ) → 2 * third_of v ≤ length x → y ≡ sets x 0 xs → part 0 (3 * (length xs / 3)) y ≡ xs
  first-coords x y r e =
      ap (λ (z : List ℤ). part 0 (3 * (length xs / 3)) z) e
      ∙ part_of xs x 0 (3 * (length xs / 3)) (small whole l fs xs n v p).1 (omega (arith, (small whole l fs xs n v p).1, within whole l fs xs n v p))

  -- and so level 0 is held
  pub sharp-first : (w₀ w : List ℕ) (x : List ℤ) → MarksLoaded sl (cage (length xs / 3) fs) (half_of n v) w₀ w → part 0 (3 * (length xs / 3)) x ≡ xs
      → SharpHeld (sharp_last whole 0 sl fs xs) 0 (half_of n v) (third_of v) w x
  unfolding sharp_levels cage
  sharp-first w₀ w x q e = record {
    words = q.held;
    marks = ap (λ (k : ℕ). marks_in w k (length fs / 3)) (zero-add (half_of n v - length fs / 3)) ∙ q.marks;
    coords = e;
  }
