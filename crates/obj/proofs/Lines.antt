-- Laws of the writer: searches that end, a line in its buffer, lines one after the other.
use Prim.Native.Nat.{ℕ, zero, suc, ◌+◌, ◌-◌, ◌/◌, ◌%◌, ◌≤◌, ◌<◌}
use mathlib.Core.Path.{◌≡◌, refl, sym, ap, ◌∙◌}
use mathlib.Core.Bool.{Bool, true, false, not, ◌&&◌}
use mathlib.Core.List.{List, map}
use mathlib.Core.Option.{Option}
use native.Mathlib.Omega.{arith}
use native.Mathlib.Nat.{zero-add}
use native.Mathlib.Numerals.{add-one}
use lib.Dec.{T, T_not, eqb, leb}
use lib.IntN.{ℤ}
use lib.ListN.{length, get_or, take, length-append}
use lib.Seq.{sets}
use borrow.Author.Tests.{eq-eqb, ne_eqb, le-leb, lt-leb, leb-false, leb-true, lt-ltb, le-ltb}
use Rattle.lists.specs.Lists.{rows, find, found}
use Rattle.lists.proofs.Places.{Look, look, nowhere, there, get_d_map, find_none, not_found}
use Rattle.lists.proofs.Stores.{part_of}
use Rattle.whole.specs.Whole.{in_range}
use Rattle.rules.specs.Refusals.{most_in_mesh}
use Rattle.listing.specs.Text.{Put, vertex_line, face_line}
use Rattle.listing.proofs.Laws.{put-put}
use Rattle.obj.specs.Form.{obj_text, has_text}
use Rattle.obj.specs.Inside.{Small}
use Rattle.obj.specs.Calls.{text_of}
use Rattle.std.proofs.Common.{Ok, Err}
use Rattle.std.specs.Bool.{MatchBool}
use Rattle.std.specs.List.{AllWithin, HoldsAt}
use Rattle.spots.proofs.Turns.{both}

-- ---- 25: a search that has found one, and one that has found none

module _ {A : Type 0} (p : A → Bool) (d : A) (l : List A) where
  pub some-there : (i : ℕ) → i < length l → p (get_or l i d) ≡ true → false ≡ not (found (find p l))
  some-there i h e = go (find p l) (look p d l)
    where
      go : (o : Option ℕ) → Look p l d o → false ≡ not (found o)
      go _ (nowhere n) = absurd (T_not (p (get_or l i d)) (n i h) (rw e tt))
      go _ (there k f) = refl

  pub none-there : ((j : ℕ) → j < length l → p (get_or l j d) ≡ false) → true ≡ not (found (find p l))
  none-there h = go (find p l) (look p d l)
    where
      go : (o : Option ℕ) → Look p l d o → true ≡ not (found o)
      go _ (nowhere n) = refl
      go _ (there k f) = absurd (let b = f.below in let e = h k b in rw e at f.passes)

  -- what `all` says of a slice is what the search says of its list
  pub by_all : (r : Bool) → MatchBool r (AllWithin (λ x. p x ≡ false) l 0 (length l)) ((k : ℕ) × (k < length l) × HoldsAt (λ x. p x ≡ true) l k) → r ≡ not (found (find p l))
  by_all true m = none-there (λ j h. m j d (omega arith) h)
  by_all false m = some-there m.0 m.1 (m.2 d)

-- ---- a line in a buffer of its own

pub line_of : {l m piece : List ℕ} {n : ℕ} → Put l 0 piece m n → n ≤ length l → take n m ≡ piece
line_of {l} {m} {piece} {n} q h =
    let e : n ≡ length piece = q.next-is ∙ zero-add _ in
    ap (take n) q.text ∙ part_of piece l 0 n (sym e) (omega arith)

-- ---- lines one after the other

pub rows_long : (g : ℕ → List ℕ) (k : ℕ) → length (rows g (k + 1)) ≡ length (rows g k) + length (g k)
unfolding rows
rows_long g k = rw (add-one k) (length-append (rows g k) (g k))

rows_on : (g : ℕ → List ℕ) (k m : ℕ) → length (rows g k) ≤ length (rows g (k + m))
rows_on g k zero = let e : k + 0 ≡ k = omega arith in rw e (omega arith)
rows_on g k (suc m) = let e : k + suc m ≡ k + m + 1 = omega arith in rw (e, rows_long g (k + m)) (omega (arith, rows_on g k m))

pub rows-less : (g : ℕ → List ℕ) (k n : ℕ) → k < n → length (rows g k) + length (g k) ≤ length (rows g n)
rows-less g k n h =
    let e : k + 1 + (n - (k + 1)) ≡ n = omega arith in
    let r = rw e at (rows_on g (k + 1) (n - (k + 1))) in
    omega (arith, rows_long g k)

-- ---- corners from 1

pub corner-is : (w : List ℕ) (i : ℕ) → i < length w → get_or (map suc w) i 0 ≡ get_or w i 0 + 1
corner-is w i h = get_d_map suc w i 0 0 h ∙ omega arith

-- ---- 25, test after test

module _ (xs : List ℤ) (fs : List ℕ) where
  pub part-vertex : (length xs % 3 ≡ 0 → ⊥) → false ≡ has_text xs fs
  unfolding has_text
  part-vertex h = simp (ne_eqb (length xs % 3) 0 h)

  pub part-face : length xs % 3 ≡ 0 → (length fs % 3 ≡ 0 → ⊥) → false ≡ has_text xs fs
  unfolding has_text
  part-face a h = simp (eq-eqb (length xs % 3) 0 a, ne_eqb (length fs % 3) 0 h)

  module _ (a : length xs % 3 ≡ 0) (b : length fs % 3 ≡ 0) where
    pub many-vertices : most_in_mesh < length xs / 3 → false ≡ has_text xs fs
    unfolding has_text
    many-vertices h = simp (eq-eqb (length xs % 3) 0 a, eq-eqb (length fs % 3) 0 b, lt-leb (length xs / 3) most_in_mesh h)

    pub many-faces : length xs / 3 ≤ most_in_mesh → most_in_mesh < length fs / 3 → false ≡ has_text xs fs
    unfolding has_text
    many-faces c h = simp (eq-eqb (length xs % 3) 0 a, eq-eqb (length fs % 3) 0 b, le-leb (length xs / 3) most_in_mesh c, lt-leb (length fs / 3) most_in_mesh h)

    module _ (c : length xs / 3 ≤ most_in_mesh) (d : length fs / 3 ≤ most_in_mesh) where
      shaped : has_text xs fs ≡ (not (found (find (λ x. not (in_range x)) xs)) && not (found (find (λ v. leb (length xs / 3) v) fs)))
      unfolding has_text
      shaped = rw (eq-eqb (length xs % 3) 0 a, eq-eqb (length fs % 3) 0 b, le-leb (length xs / 3) most_in_mesh c, le-leb (length fs / 3) most_in_mesh d)

      pub out_of_range : not (found (find (λ x. not (in_range x)) xs)) ≡ false → false ≡ has_text xs fs
      out_of_range h = sym (shaped ∙ ap (λ (t : Bool). t && not (found (find (λ v. leb (length xs / 3) v) fs))) h)

      pub by-corners : not (found (find (λ x. not (in_range x)) xs)) ≡ true → not (found (find (λ v. leb (length xs / 3) v) fs)) ≡ has_text xs fs
      by-corners h = sym (shaped ∙ ap (λ (t : Bool). t && not (found (find (λ v. leb (length xs / 3) v) fs))) h)

-- ---- what can be written

pub record Has (xs : List ℤ) (fs : List ℕ) : Type 0 where
  pub has : has_text xs fs ≡ true
  pub few-vertices : length xs / 3 ≤ 32768
  pub few-faces : length fs / 3 ≤ 32768
  pub small : Small fs

passed : (b : Bool) → b ≡ true → T b
passed b e = rw e tt

failed : (b : Bool) → T (not b) → b ≡ false
failed true t = absurd t
failed false t = refl

small_by : (v : ℕ) (fs : List ℕ) → v ≤ 32768 → not (found (find (λ c. leb v c) fs)) ≡ true → Small fs
small_by v fs h e =
    record {
      each = λ j l.
          let n = find_none (λ c. leb v c) 0 fs (not_found (find (λ c. leb v c) fs) (passed (not (found (find (λ c. leb v c) fs))) e)) j l in
          let k = leb-false v (get_or fs j 0) (failed (leb v (get_or fs j 0)) n) in
          omega arith;
    }

pub has_of : (xs : List ℤ) (fs : List ℕ) → has_text xs fs ≡ true → Has xs fs
unfolding has_text
has_of xs fs e =
    let a = eqb (length xs % 3) 0 in
    let b = eqb (length fs % 3) 0 in
    let c = leb (length xs / 3) most_in_mesh in
    let d = leb (length fs / 3) most_in_mesh in
    let r = not (found (find (λ x. not (in_range x)) xs)) in
    let q = not (found (find (λ v. leb (length xs / 3) v) fs)) in
    let p1 = both (a && b && c && d && r) q e in
    let p2 = both (a && b && c && d) r p1.0 in
    let p3 = both (a && b && c) d p2.0 in
    let p4 = both (a && b) c p3.0 in
    let v = leb-true (length xs / 3) most_in_mesh p4.1 in
    record { has = e; few-vertices = v; few-faces = leb-true (length fs / 3) most_in_mesh p3.1; small = small_by (length xs / 3) fs v p1.1 }

-- ---- the answer

pub long-is : (xs : List ℤ) (fs : List ℕ) (n m : ℕ) → n ≡ length (rows (vertex_line xs) (length xs / 3)) → m ≡ length (rows (face_line (map suc fs)) (length fs / 3)) → n + m ≡ length (obj_text xs fs)
unfolding obj_text
long-is xs fs n m a b = rw (a, b) (sym (length-append (rows (vertex_line xs) (length xs / 3)) (rows (face_line (map suc fs)) (length fs / 3))))

module _ (room : ℕ) (xs : List ℤ) (fs : List ℕ) where
  pub refused-25 : has_text xs fs ≡ false → Err (record { number = 25; place = 0 }) ≡ text_of room xs fs
  unfolding text_of
  refused-25 e = rw e

  pub refused-22 : (n : ℕ) → has_text xs fs ≡ true → n ≡ length (obj_text xs fs) → room < n → Err (record { number = 22; place = 0 }) ≡ text_of room xs fs
  unfolding text_of
  refused-22 n e l h = rw (e, ← l, lt-ltb room n h)

  pub written : (n : ℕ) → has_text xs fs ≡ true → n ≡ length (obj_text xs fs) → n ≤ room → Ok n ≡ text_of room xs fs
  unfolding text_of
  written n e l h = rw (e, ← l, le-ltb room n h)

pub both-put : (xs : List ℤ) (fs : List ℕ) {s t u : List ℕ} {n m : ℕ} → Put s 0 (rows (vertex_line xs) (length xs / 3)) t n → Put t n (rows (face_line (map suc fs)) (length fs / 3)) u m
    → u ≡ sets s 0 (obj_text xs fs)
unfolding obj_text
both-put xs fs {s} {t} {u} {n} {m} p q = (put-put p q).text
