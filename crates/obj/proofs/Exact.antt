-- Exactly that form: what is read is the text of its lists.
use Prim.Native.Nat.{ℕ, zero, suc, ◌+◌, ◌*◌, ◌/◌, ◌%◌, ◌≤◌}
use mathlib.Core.Path.{◌≡◌, refl, sym, ap, ◌∙◌}
use mathlib.Core.Bool.{true}
use mathlib.Core.List.{List, [], ◌∷◌, ◌++◌, append_assoc, append-nil, map}
use native.Mathlib.Omega.{arith}
use lib.IntN.{ℤ, pos}
use lib.ListN.{length, get_or, take}
use lib.Seq.{take-suc, take-length, length-take-le}
use borrow.Author.Tests.{le-leb, eq-eqb, ne_eqb}
use Rattle.lists.specs.Lists.{pick, rows}
use Rattle.lists.proofs.Places.{skip}
use Rattle.listing.specs.Text.{numeral, signed_numeral, line, vertex_line, face_line}
use Rattle.rules.specs.Refusals.{most_in_mesh}
use Rattle.obj.specs.Form.{obj_text, has_text}
use Rattle.spots.specs.Spots.{is_stuck, is_line}
use Rattle.obj.specs.Reading.{Read, lists, wrong, next, begin, read_from, read_obj}
use Rattle.spots.specs.declared.Spot.TheVariants.{Line}
use Rattle.obj.proofs.Spelled.{spelled, spelled_coords, spelled_corners, pieces, piece, at}
use Rattle.obj.proofs.Sound.{Sound, Good, step, at-line, at-v, at-coord, at-minus, at_above, at-below, at_f, at-corner, at-number}

-- ---- pieces are lines, three at a time

pieces-append : {A : Type 0} (w : ℕ) (g : A → List ℕ) (i : ℕ) (xs ys : List A) → pieces w g i (xs ++ ys) ≡ pieces w g i xs ++ pieces w g (i + length xs) ys
unfolding pieces
pieces-append {A} w g i [] ys = let e : i ≡ i + 0 = omega arith in ap (λ (k : ℕ). pieces w g k ys) e
pieces-append {A} w g i (x ∷ xs) ys =
    let e : suc i + length xs ≡ i + suc (length xs) = omega arith in
    ap (λ (l : List ℕ). piece w i (g x) ++ l) (pieces-append w g (suc i) xs ys ∙ ap (λ (k : ℕ). pieces w g (suc i) xs ++ pieces w g k ys) e)
    ∙ sym (append_assoc (piece w i (g x)) (pieces w g (suc i) xs) (pieces w g (i + suc (length xs)) ys))

pieces-line : {A : Type 0} (w : ℕ) (g : A → List ℕ) (k : ℕ) (a b c : A) → k % 3 ≡ 0 → pieces w g k (a ∷ b ∷ c ∷ []) ≡ line (w ∷ []) (g a) (g b) (g c)
unfolding pieces
pieces-line {A} w g k a b c h =
    simp (
      eq-eqb (k % 3) 0 h,
      ne_eqb (k % 3) 2 (λ z. omega arith),
      ne_eqb (suc k % 3) 0 (λ z. omega arith),
      ne_eqb (suc k % 3) 2 (λ z. omega arith),
      ne_eqb (suc (suc k) % 3) 0 (λ z. omega arith),
      eq-eqb (suc (suc k) % 3) 2 (omega arith),
      append_assoc,
    )

take-three : {A : Type 0} (l : List A) (n : ℕ) (d : A) → 3 * n + 3 ≤ length l → take (3 * (n + 1)) l ≡ take (3 * n) l ++ (get_or l (3 * n) d ∷ get_or l (3 * n + 1) d ∷ get_or l (3 * n + 2) d ∷ [])
take-three {A} l n d h =
    let e : 3 * (n + 1) ≡ suc (suc (suc (3 * n))) = omega arith in
    let a : suc (3 * n) ≡ 3 * n + 1 = omega arith in
    let b : suc (suc (3 * n)) ≡ 3 * n + 2 = omega arith in
    rw (e, take-suc l (suc (suc (3 * n))) d (omega arith), take-suc l (suc (3 * n)) d (omega arith), take-suc l (3 * n) d (omega arith), b, a) (simp append_assoc)

lines_are : {A : Type 0} (w : ℕ) (g : A → List ℕ) (d : A) (l : List A) (n : ℕ) → 3 * n ≤ length l
    → rows (λ k. line (w ∷ []) (g (get_or l (3 * k) d)) (g (get_or l (3 * k + 1) d)) (g (get_or l (3 * k + 2) d))) n ≡ pieces w g 0 (take (3 * n) l)
unfolding rows pieces
lines_are {A} w g d l zero h = refl
lines_are {A} w g d l (suc n) h =
    let e : suc n ≡ n + 1 = omega arith in
    let k : length (take (3 * n) l) ≡ 3 * n = length-take-le (3 * n) l (omega arith) in
    let z : (0 + length (take (3 * n) l)) % 3 ≡ 0 = omega arith in
    rw (
      lines_are w g d l n (omega arith),
      e,
      take-three l n d (omega arith),
      pieces-append w g 0 (take (3 * n) l) (get_or l (3 * n) d ∷ get_or l (3 * n + 1) d ∷ get_or l (3 * n + 2) d ∷ []),
      pieces-line w g (0 + length (take (3 * n) l)) (get_or l (3 * n) d) (get_or l (3 * n + 1) d) (get_or l (3 * n + 2) d) z,
    )
    refl

-- ---- to the end

pub record Whole (xs : List ℤ) (fs : List ℕ) (t : List ℕ) : Type 0 where
  pub good : Good xs fs
  pub thirds : length xs % 3 ≡ 0
  pub corner-thirds : length fs % 3 ≡ 0
  pub text : spelled (at xs fs Line) ≡ t

wrong-lists : {n : ℕ} {xs : List ℤ} {fs : List ℕ} → wrong n ≡ lists xs fs → ⊥
wrong-lists {n} {xs} {fs} e = let z : ◌≡◌ {A = ℕ} 0 1 = cc in omega arith

ended : (i : ℕ) (s : Read) (xs : List ℤ) (fs : List ℕ) → Sound s → pick (is_line s.spot) (lists s.coords s.corners) (wrong i) ≡ lists xs fs → Whole xs fs (spelled s)
ended i _ xs fs (at-line ys gs g m k) e =
    let a : ys ≡ xs = cc in let b : gs ≡ fs = cc in
    rw (← a, ← b) (record { good = g; thirds = m; corner-thirds = k; text = refl })
ended i _ xs fs (at-v ys g m l) e = absurd (wrong-lists e)
ended i _ xs fs (at-coord ys g l) e = absurd (wrong-lists e)
ended i _ xs fs (at-minus ys g l) e = absurd (wrong-lists e)
ended i _ xs fs (at_above ys n g l b) e = absurd (wrong-lists e)
ended i _ xs fs (at-below ys n g l p b) e = absurd (wrong-lists e)
ended i _ xs fs (at_f ys gs g m k v l) e = absurd (wrong-lists e)
ended i _ xs fs (at-corner ys gs g m v l) e = absurd (wrong-lists e)
ended i _ xs fs (at-number ys gs n g m l p b) e = absurd (wrong-lists e)

read-on : (i : ℕ) (s : Read) (b : List ℕ) (xs : List ℤ) (fs : List ℕ) → Sound s → read_from i s b ≡ lists xs fs → Whole xs fs (spelled s ++ b)
unfolding read_from
read-on i s [] xs fs h e = rw (append-nil (spelled s)) (ended i s xs fs h e)
read-on i s (c ∷ b) xs fs h e =
    let k = skip (is_stuck (next s c).spot) wrong-lists e in
    let t = step s c h k.0 in
    let m = rw t.is at k.1 in
    let w = read-on (i + 1) t.to b xs fs t.sound m in
    let z : spelled t.to ++ b ≡ spelled s ++ (c ∷ b) = ap (λ (l : List ℕ). l ++ b) t.spells ∙ append_assoc (spelled s) (c ∷ []) b in
    rw (← z) w

pieces-map : {A B : Type 0} (w : ℕ) (g : B → List ℕ) (f : A → B) (i : ℕ) (xs : List A) → pieces w g i (map f xs) ≡ pieces w (λ x. g (f x)) i xs
unfolding pieces
pieces-map {A} {B} w g f i [] = refl
pieces-map {A} {B} w g f i (x ∷ xs) = ap (λ (l : List ℕ). piece w i (g (f x)) ++ l) (pieces-map w g f (suc i) xs)

length-map : (fs : List ℕ) → length (map suc fs) ≡ length fs
length-map [] = refl
length-map (x ∷ fs) = ap suc (length-map fs)

whole_of : {A : Type 0} (l : List A) → length l % 3 ≡ 0 → take (3 * (length l / 3)) l ≡ l
whole_of {A} l m = let e : 3 * (length l / 3) ≡ length l = omega arith in rw e (take-length l)

vertices-are : (xs : List ℤ) → length xs % 3 ≡ 0 → rows (vertex_line xs) (length xs / 3) ≡ spelled_coords xs
unfolding vertex_line
vertices-are xs m = lines_are 118 signed_numeral (pos 0) xs (length xs / 3) (omega arith) ∙ ap (pieces 118 signed_numeral 0) (whole_of xs m)

faces-are : (fs : List ℕ) → length fs % 3 ≡ 0 → rows (face_line (map suc fs)) (length fs / 3) ≡ spelled_corners fs
unfolding face_line
faces-are fs m =
    let k = length-map fs in
    let m' : length (map suc fs) % 3 ≡ 0 = rw k m in
    lines_are 102 numeral 0 (map suc fs) (length fs / 3) (omega arith)
    ∙ ap (λ (n : ℕ). pieces 102 numeral 0 (take (3 * (n / 3)) (map suc fs))) (sym k)
    ∙ ap (pieces 102 numeral 0) (whole_of (map suc fs) m')
    ∙ pieces-map 102 numeral suc 0 fs

pub text-is : (xs : List ℤ) (fs : List ℕ) → length xs % 3 ≡ 0 → length fs % 3 ≡ 0 → spelled (at xs fs Line) ≡ obj_text xs fs
unfolding spelled obj_text
text-is xs fs m k = rw (vertices-are xs m, faces-are fs k, append-nil (spelled_corners fs)) refl

has : (xs : List ℤ) (fs : List ℕ) → Good xs fs → length xs % 3 ≡ 0 → length fs % 3 ≡ 0 → has_text xs fs ≡ true
unfolding has_text
has xs fs g m k =
    let a = g.few-coords in let b = g.few-corners in
    rw (eq-eqb _ 0 m, eq-eqb _ 0 k, le-leb (length xs / 3) most_in_mesh (omega arith), le-leb (length fs / 3) most_in_mesh (omega arith), g.range, g.below) refl

pub nothing_yet : Sound begin
nothing_yet = at-line [] [] (record { few-coords = omega arith; few-corners = omega arith; range = refl; below = refl }) refl refl

-- "Read exactly that form back"
pub write-back : (b : List ℕ) (xs : List ℤ) (fs : List ℕ) → read_obj b ≡ lists xs fs → (has_text xs fs ≡ true) × (obj_text xs fs ≡ b)
unfolding read_obj spelled pieces
write-back b xs fs e =
    let w = read-on 0 begin b xs fs nothing_yet e in
    (has xs fs w.good w.thirds w.corner-thirds, sym (text-is xs fs w.thirds w.corner-thirds) ∙ w.text)
