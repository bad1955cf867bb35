-- Reading what was written gives the same mesh, and one text has one mesh.
use Prim.Native.Nat.{ℕ, suc, ◌+◌, ◌-◌, ◌/◌, ◌%◌, ◌≤◌, ◌<◌}
use mathlib.Core.Path.{◌≡◌, refl, sym, ap, ◌∙◌}
use mathlib.Core.Bool.{Bool, true, false, not}
use mathlib.Core.List.{List, [], ◌∷◌, ◌++◌, append_assoc, append-nil}
use mathlib.Core.Option.{Option, none, some}
use native.Mathlib.Omega.{arith}
use native.Mathlib.Nat.{add-zero}
use lib.Dec.{leb, eqb}
use lib.IntN.{ℤ, pos, negsuc, nat_abs}
use lib.ListN.{length, length-append}
use borrow.Author.Tests.{lt-ltb, eq-eqb, ne_eqb, eqb-true, eqb-false, leb-true, leb-false, not-false}
use Rattle.lists.specs.Lists.{pick, find, found, later}
use Rattle.whole.specs.Whole.{reach, in_range}
use Rattle.rules.specs.Refusals.{most_in_mesh}
use Rattle.listing.specs.Text.{numeral, signed_numeral}
use Rattle.obj.specs.Form.{obj_text, has_text, Allowed}
use Rattle.spots.specs.Spots.{turn, is_stuck, is_line, ends, after_number}
use Rattle.obj.specs.Reading.{Read, lists, wrong, next, begin, read_from, read_obj}
use Rattle.spots.specs.declared.Spot.{Spot}
use Rattle.spots.specs.declared.Spot.TheVariants.{Line, AfterV, Coord, Minus, Above, Under, AfterF, Corner, Number, Stuck}
use Rattle.spots.proofs.Turns.{both}
use Rattle.obj.proofs.Spelled.{at, lead, piece, pieces, spelled, spelled_coords, spelled_corners, above-end}
use Rattle.obj.proofs.Sound.{below_end, number-end}
use Rattle.obj.proofs.Back.{after, after-append, above-back, below-back, corner-back}
use Rattle.obj.proofs.Exact.{text-is}

-- ---- where number i is awaited
abbrev pub ready : ℕ → Spot → Spot
ready i more = pick (eqb (i % 3) 0) Line more

pub ready-next : (i : ℕ) (more : Spot) → after_number i more ≡ ready (i + 1) more
ready-next i more = go (eqb (i % 3) 2) refl
  where
    go : (t : Bool) → eqb (i % 3) 2 ≡ t → pick t Line more ≡ pick (eqb ((i + 1) % 3) 0) Line more
    go true e = let m = eqb-true (i % 3) 2 e in rw (eq-eqb ((i + 1) % 3) 0 (omega arith))
    go false e = let m = eqb-false (i % 3) 2 e in rw (ne_eqb ((i + 1) % 3) 0 (λ z. m (omega arith)))

module _ (xs : List ℤ) (l : length xs < 98304) where
  letter-v : next (at xs [] Line) 118 ≡ at xs [] AfterV
  unfolding next turn
  letter-v = simp (lt-ltb (length xs) 98304 l, append-nil)

  pub gap-v : next (at xs [] AfterV) 32 ≡ at xs [] Coord
  unfolding next turn
  gap-v = simp append-nil

  sign : next (at xs [] Coord) 45 ≡ at xs [] Minus
  unfolding next turn
  sign = simp append-nil

  lead-back : (t : Bool) → after (at xs [] (pick t Line Coord)) (pick t (118 ∷ 32 ∷ []) []) ≡ at xs [] Coord
  unfolding after
  lead-back true = rw (letter-v, gap-v) refl
  lead-back false = refl

  pub coord-back : (x : ℤ) → nat_abs x ≤ reach → after (at xs [] Coord) (signed_numeral x ++ (ends (length xs) ∷ [])) ≡ at (xs ++ (x ∷ [])) [] (after_number (length xs) Coord)
  unfolding after signed_numeral
  coord-back (pos n) b = rw (after-append (at xs [] Coord) (numeral n) (ends (length xs) ∷ []), above-back xs n b) (above-end xs n)
  coord-back (negsuc n) b =
      ap (λ (s : Read). after s (numeral (suc n) ++ (ends (length xs) ∷ []))) sign
      ∙ after-append (at xs [] Minus) (numeral (suc n)) (ends (length xs) ∷ [])
      ∙ ap (λ (s : Read). after s (ends (length xs) ∷ [])) (below-back xs (suc n) (omega arith) b)
      ∙ below_end xs (suc n)

  piece_back : (x : ℤ) → nat_abs x ≤ reach → after (at xs [] (ready (length xs) Coord)) (piece 118 (length xs) (signed_numeral x)) ≡ at (xs ++ (x ∷ [])) [] (ready (length xs + 1) Coord)
  piece_back x b =
      after-append (at xs [] (ready (length xs) Coord)) (lead 118 (length xs)) (signed_numeral x ++ (ends (length xs) ∷ []))
      ∙ ap (λ (s : Read). after s (signed_numeral x ++ (ends (length xs) ∷ []))) (lead-back (eqb (length xs % 3) 0))
      ∙ coord-back x b
      ∙ ap (λ (p : Spot). at (xs ++ (x ∷ [])) [] p) (ready-next (length xs) Coord)

-- ---- none found in a list: not its first, and none after
find-cons : {A : Type 0} (p : A → Bool) (x : A) (xs : List A) → find p (x ∷ xs) ≡ none → (p x ≡ false) × (find p xs ≡ none)
find-cons {A} p x xs e = go (p x) (find p xs) refl refl e
  where
    go : (t : Bool) (o : Option ℕ) → p x ≡ t → find p xs ≡ o → pick t (some 0) (later o) ≡ none → (p x ≡ false) × (find p xs ≡ none)
    go true o f g e = absurd (let z : ◌≡◌ {A = ℕ} 0 1 = cc in omega arith)
    go false none f g e = (f, g)
    go false (some i) f g e = absurd (let z : ◌≡◌ {A = ℕ} 0 1 = cc in omega arith)

pub coords-back : (xs ys : List ℤ) → length xs + length ys ≤ 98304 → find (λ x. not (in_range x)) ys ≡ none
    → after (at xs [] (ready (length xs) Coord)) (pieces 118 signed_numeral (length xs) ys) ≡ at (xs ++ ys) [] (ready (length (xs ++ ys)) Coord)
unfolding after pieces
coords-back xs [] l f = rw (append-nil xs) refl
coords-back xs (y ∷ ys) l f =
    let g = find-cons (λ x. not (in_range x)) y ys f in
    let b : nat_abs y ≤ reach = leb-true (nat_abs y) reach (not-false (leb (nat_abs y) reach) g.0) in
    let e : length (xs ++ (y ∷ [])) ≡ length xs + 1 = length-append xs (y ∷ []) in
    let e' : length (xs ++ (y ∷ [])) ≡ suc (length xs) = e ∙ omega arith in
    after-append (at xs [] (ready (length xs) Coord)) (piece 118 (length xs) (signed_numeral y)) (pieces 118 signed_numeral (suc (length xs)) ys)
    ∙ ap (λ (s : Read). after s (pieces 118 signed_numeral (suc (length xs)) ys)) (piece_back xs (omega arith) y b)
    ∙ ap (λ (k : ℕ). after (at (xs ++ (y ∷ [])) [] (ready k Coord)) (pieces 118 signed_numeral (suc (length xs)) ys)) (sym e)
    ∙ ap (λ (k : ℕ). after (at (xs ++ (y ∷ [])) [] (ready (length (xs ++ (y ∷ []))) Coord)) (pieces 118 signed_numeral k ys)) (sym e')
    ∙ coords-back (xs ++ (y ∷ [])) ys (omega arith) g.1
    ∙ ap (λ (l : List ℤ). at l [] (ready (length l) Coord)) (append_assoc xs (y ∷ []) ys)

-- ---- corners

module _ (xs : List ℤ) (few : length xs / 3 ≤ reach) (v : 0 < length xs) where
  letter-f : (fs : List ℕ) → length fs < 98304 → next (at xs fs Line) 102 ≡ at xs fs AfterF
  unfolding next turn
  letter-f fs l = simp (lt-ltb (length fs) 98304 l, lt-ltb 0 (length xs) v, append-nil)

  pub gap-f : (fs : List ℕ) → next (at xs fs AfterF) 32 ≡ at xs fs Corner
  unfolding next turn
  gap-f fs = simp append-nil

  lead-corner : (fs : List ℕ) (t : Bool) → length fs < 98304 → after (at xs fs (pick t Line Corner)) (pick t (102 ∷ 32 ∷ []) []) ≡ at xs fs Corner
  unfolding after
  lead-corner fs true l = rw (letter-f fs l, gap-f fs) refl
  lead-corner fs false l = refl

  piece-corner : (fs : List ℕ) (c : ℕ) → length fs < 98304 → c < length xs / 3 → after (at xs fs (ready (length fs) Corner)) (piece 102 (length fs) (numeral (suc c))) ≡ at xs (fs ++ (c ∷ [])) (ready (length fs + 1) Corner)
  unfolding after
  piece-corner fs c l b =
      let e : suc c - 1 ≡ c = omega arith in
      after-append (at xs fs (ready (length fs) Corner)) (lead 102 (length fs)) (numeral (suc c) ++ (ends (length fs) ∷ []))
      ∙ ap (λ (s : Read). after s (numeral (suc c) ++ (ends (length fs) ∷ []))) (lead-corner fs (eqb (length fs % 3) 0) l)
      ∙ after-append (at xs fs Corner) (numeral (suc c)) (ends (length fs) ∷ [])
      ∙ ap (λ (s : Read). after s (ends (length fs) ∷ [])) (corner-back xs fs (suc c) few (omega arith) (omega arith))
      ∙ number-end xs fs (suc c)
      ∙ ap (λ (k : ℕ). at xs (fs ++ (k ∷ [])) (after_number (length fs) Corner)) e
      ∙ ap (λ (p : Spot). at xs (fs ++ (c ∷ [])) p) (ready-next (length fs) Corner)

  pub corners-back : (fs gs : List ℕ) → length fs + length gs ≤ 98304 → find (λ c. leb (length xs / 3) c) gs ≡ none
      → after (at xs fs (ready (length fs) Corner)) (pieces 102 (λ c. numeral (suc c)) (length fs) gs) ≡ at xs (fs ++ gs) (ready (length (fs ++ gs)) Corner)
  unfolding after pieces
  corners-back fs [] l f = rw (append-nil fs) refl
  corners-back fs (y ∷ ys) l f =
      let g = find-cons (λ c. leb (length xs / 3) c) y ys f in
      let b : y < length xs / 3 = leb-false (length xs / 3) y g.0 in
      let e : length (fs ++ (y ∷ [])) ≡ length fs + 1 = length-append fs (y ∷ []) in
      let e' : length (fs ++ (y ∷ [])) ≡ suc (length fs) = e ∙ omega arith in
      after-append (at xs fs (ready (length fs) Corner)) (piece 102 (length fs) (numeral (suc y))) (pieces 102 (λ c. numeral (suc c)) (suc (length fs)) ys)
      ∙ ap (λ (s : Read). after s (pieces 102 (λ c. numeral (suc c)) (suc (length fs)) ys)) (piece-corner fs y (omega arith) b)
      ∙ ap (λ (k : ℕ). after (at xs (fs ++ (y ∷ [])) (ready k Corner)) (pieces 102 (λ c. numeral (suc c)) (suc (length fs)) ys)) (sym e)
      ∙ ap (λ (k : ℕ). after (at xs (fs ++ (y ∷ [])) (ready (length (fs ++ (y ∷ []))) Corner)) (pieces 102 (λ c. numeral (suc c)) k ys)) (sym e')
      ∙ corners-back (fs ++ (y ∷ [])) ys (omega arith) g.1
      ∙ ap (λ (l : List ℕ). at xs l (ready (length l) Corner)) (append_assoc fs (y ∷ []) ys)

-- ---- a whole text

pub record Fits (xs : List ℤ) (fs : List ℕ) : Type 0 where
  pub thirds : length xs % 3 ≡ 0
  pub corner-thirds : length fs % 3 ≡ 0
  pub few : length xs / 3 ≤ 32768
  pub few-faces : length fs / 3 ≤ 32768
  pub range : find (λ x. not (in_range x)) xs ≡ none
  pub below : find (λ c. leb (length xs / 3) c) fs ≡ none

none_found : (o : Option ℕ) → not (found o) ≡ true → o ≡ none
none_found none e = refl
none_found (some i) e = absurd (let z : ◌≡◌ {A = ℕ} 0 1 = cc in omega arith)

pub fits : (xs : List ℤ) (fs : List ℕ) → has_text xs fs ≡ true → Fits xs fs
unfolding has_text
fits xs fs h =
    let a = both _ (not (found (find (λ c. leb (length xs / 3) c) fs))) h in
    let b = both _ (not (found (find (λ x. not (in_range x)) xs))) a.0 in
    let c = both _ (leb (length fs / 3) most_in_mesh) b.0 in
    let d = both _ (leb (length xs / 3) most_in_mesh) c.0 in
    let e = both (eqb (length xs % 3) 0) (eqb (length fs % 3) 0) d.0 in
    record {
      thirds = eqb-true _ 0 e.0;
      corner-thirds = eqb-true _ 0 e.1;
      few = leb-true _ most_in_mesh d.1;
      few-faces = leb-true _ most_in_mesh c.1;
      range = none_found _ b.1;
      below = none_found _ a.1;
    }

faces-back : (xs : List ℤ) (fs : List ℕ) → Fits xs fs → after (at xs [] Line) (spelled_corners fs) ≡ at xs fs Line
unfolding after pieces
faces-back xs [] h = refl
faces-back xs (y ∷ fs) h =
    let g = find-cons (λ c. leb (length xs / 3) c) y fs h.below in
    let b : y < length xs / 3 = leb-false (length xs / 3) y g.0 in
    let f = h.few in let k = h.few-faces in let m = h.corner-thirds in
    corners-back xs (omega arith) (omega arith) [] (y ∷ fs) (omega arith) h.below ∙ rw (eq-eqb (length (y ∷ fs) % 3) 0 m) refl

pub text-back : (xs : List ℤ) (fs : List ℕ) → Fits xs fs → after begin (obj_text xs fs) ≡ at xs fs Line
unfolding spelled
text-back xs fs h =
    let f = h.few in let m = h.thirds in
    let c : after begin (spelled_coords xs) ≡ at xs [] Line = coords-back [] xs (omega arith) h.range ∙ rw (eq-eqb (length xs % 3) 0 m) refl in
    ap (after begin) (sym (text-is xs fs m h.corner-thirds))
    ∙ after-append begin (spelled_coords xs) (spelled_corners fs ++ [])
    ∙ ap (λ (s : Read). after s (spelled_corners fs ++ [])) c
    ∙ ap (after (at xs [] Line)) (append-nil (spelled_corners fs))
    ∙ faces-back xs fs h

-- ---- what is stuck stays so: a text that ends well was never stuck

stuck-is : (p : Spot) → is_stuck p ≡ true → p ≡ Stuck
stuck-is Line e = absurd (let z : ◌≡◌ {A = ℕ} 0 1 = cc in omega arith)
stuck-is AfterV e = absurd (let z : ◌≡◌ {A = ℕ} 0 1 = cc in omega arith)
stuck-is Coord e = absurd (let z : ◌≡◌ {A = ℕ} 0 1 = cc in omega arith)
stuck-is Minus e = absurd (let z : ◌≡◌ {A = ℕ} 0 1 = cc in omega arith)
stuck-is (Above n) e = absurd (let z : ◌≡◌ {A = ℕ} 0 1 = cc in omega arith)
stuck-is (Under n) e = absurd (let z : ◌≡◌ {A = ℕ} 0 1 = cc in omega arith)
stuck-is AfterF e = absurd (let z : ◌≡◌ {A = ℕ} 0 1 = cc in omega arith)
stuck-is Corner e = absurd (let z : ◌≡◌ {A = ℕ} 0 1 = cc in omega arith)
stuck-is (Number n) e = absurd (let z : ◌≡◌ {A = ℕ} 0 1 = cc in omega arith)
stuck-is Stuck e = refl

stuck-next : (s : Read) (c : ℕ) → is_stuck s.spot ≡ true → is_stuck (next s c).spot ≡ true
unfolding next turn
stuck-next s c e = ap (λ (p : Spot). is_stuck (turn (length s.coords) (length s.corners) p c)) (stuck-is s.spot e)

pub stuck-stays : (s : Read) (b : List ℕ) → is_stuck s.spot ≡ true → is_stuck (after s b).spot ≡ true
unfolding after
stuck-stays s [] e = e
stuck-stays s (c ∷ b) e = stuck-stays (next s c) b (stuck-next s c e)

pub ends-well : (i : ℕ) (s : Read) (b : List ℕ) → is_stuck (after s b).spot ≡ false
    → read_from i s b ≡ pick (is_line (after s b).spot) (lists (after s b).coords (after s b).corners) (wrong (i + length b))
unfolding after read_from
ends-well i s [] h = rw (add-zero i) refl
ends-well i s (c ∷ b) h = go (is_stuck (next s c).spot) refl (ends-well (i + 1) (next s c) b h)
  where
    go : (t : Bool) → is_stuck (next s c).spot ≡ t
        → read_from (i + 1) (next s c) b ≡ pick (is_line (after (next s c) b).spot) (lists (after (next s c) b).coords (after (next s c) b).corners) (wrong (i + 1 + length b))
        → read_from i s (c ∷ b) ≡ pick (is_line (after (next s c) b).spot) (lists (after (next s c) b).coords (after (next s c) b).corners) (wrong (i + suc (length b)))
    go true e k = absurd (let z : true ≡ false = sym (stuck-stays (next s c) b e) ∙ h in let y : ◌≡◌ {A = ℕ} 0 1 = cc in omega arith)
    go false e k = let z : i + 1 + length b ≡ i + suc (length b) = omega arith in rw (e, ← z) k

-- "Reading what was written gives the same mesh"
pub read_back : (xs : List ℤ) (fs : List ℕ) → has_text xs fs ≡ true → read_obj (obj_text xs fs) ≡ lists xs fs
unfolding read_obj
read_back xs fs h =
    let t = text-back xs fs (fits xs fs h) in
    ends-well 0 begin (obj_text xs fs) (ap (λ (s : Read). is_stuck s.spot) t)
    ∙ ap (λ (s : Read). pick (is_line s.spot) (lists s.coords s.corners) (wrong (0 + length (obj_text xs fs)))) t

-- "two meshes have one text only if they are equal"
pub one-mesh : (xs ys : List ℤ) (fs gs : List ℕ) → has_text xs fs ≡ true → has_text ys gs ≡ true → obj_text xs fs ≡ obj_text ys gs → (xs ≡ ys) × (fs ≡ gs)
one-mesh xs ys fs gs h k e =
    let z : lists xs fs ≡ lists ys gs = sym (read_back xs fs h) ∙ ap read_obj e ∙ read_back ys gs k in
    (cc, cc)

-- a beginning at which the reader is stuck begins no allowed text
pub none-goes-on : (p rest : List ℕ) → is_stuck (after begin p).spot ≡ true → Allowed (p ++ rest) → ⊥
none-goes-on p rest e a =
    let t = text-back a.coords a.corners (fits a.coords a.corners a.has) in
    let k : is_stuck (after begin (p ++ rest)).spot ≡ true = ap (λ (s : Read). is_stuck s.spot) (after-append begin p rest) ∙ stuck-stays (after begin p) rest e in
    let m : is_stuck (after begin (p ++ rest)).spot ≡ false = ap (λ (b : List ℕ). is_stuck (after begin b).spot) a.is ∙ ap (λ (s : Read). is_stuck s.spot) t in
    let z : true ≡ false = sym k ∙ m in
    let y : ◌≡◌ {A = ℕ} 0 1 = cc in omega arith
