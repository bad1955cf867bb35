-- What holds of what has been read, at each spot; and one byte more at a `v` line keeps it and is spelled.
use Prim.Native.Nat.{ℕ, zero, suc, ◌+◌, ◌-◌, ◌*◌, ◌/◌, ◌%◌, ◌≤◌, ◌<◌}
use mathlib.Core.Path.{◌≡◌, refl, sym, ap, ◌∙◌}
use mathlib.Core.Bool.{Bool, true, false, not, ◌&&◌}
use mathlib.Core.List.{List, [], ◌∷◌, ◌++◌, append_assoc, append-nil}
use mathlib.Core.Option.{Option, none, some}
use native.Mathlib.Omega.{arith}
use native.Mathlib.Nat.{lt_of_le_of_lt, zero-add}
use lib.Dec.{ltb, leb, eqb, lit<}
use lib.IntN.{ℤ, pos, nat_abs}
use lib.ListN.{length, length-append}
use borrow.Author.Tests.{lt-ltb, le-leb, lt-leb, eq-eqb, ne_eqb, ltb-true, leb-true, eqb-true, eqb-false}
use Rattle.lists.specs.Lists.{pick, find, later}
use Rattle.whole.specs.Whole.{reach, in_range}
use Rattle.listing.specs.Text.{numeral, signed_numeral}
use Rattle.spots.specs.Spots.{turn, is_stuck, ends, after_number, is_digit, grows}
use Rattle.obj.specs.Reading.{Read, next, minus}
use Rattle.spots.specs.declared.Spot.TheVariants.{Line, AfterV, Coord, Minus, Above, Under, AfterF, Corner, Number, Stuck}
use Rattle.obj.proofs.Decimals.{numeral-more, numeral-one}
use Rattle.spots.proofs.Turns.{Digit, digit-of, both}
use Rattle.obj.proofs.Spelled.{spelled, pieces, at, above-digit, above-end, above-digit-spelled, above-end-spelled, low, ends_by, after_last, spelled_coords, spelled_corners, begun, pieces_more}

-- none found in a list, nor in its last element more
pub find-more : {A : Type 0} (p : A → Bool) (xs : List A) (x : A) → find p xs ≡ none → p x ≡ false → find p (xs ++ (x ∷ [])) ≡ none
find-more {A} p [] x e f = rw f
find-more {A} p (y ∷ xs) x e f = go (p y) refl (find p xs) refl (λ g. find-more p xs x g f) e
  where
    go : (t : Bool) → p y ≡ t → (o : Option ℕ) → find p xs ≡ o → (find p xs ≡ none → find p (xs ++ (x ∷ [])) ≡ none) → pick t (some 0) (later o) ≡ none → find p ((y ∷ xs) ++ (x ∷ [])) ≡ none
    go true q o r k e = absurd (let z : ◌≡◌ {A = ℕ} 0 1 = cc in omega arith)
    go false q none r k e = rw (q, k r)
    go false q (some i) r k e = absurd (let z : ◌≡◌ {A = ℕ} 0 1 = cc in omega arith)

pub record Good (xs : List ℤ) (fs : List ℕ) : Type 0 where
  pub few-coords : length xs ≤ 98304
  pub few-corners : length fs ≤ 98304
  pub range : find (λ x. not (in_range x)) xs ≡ none
  pub below : find (λ c. leb (length xs / 3) c) fs ≡ none

pub data Sound : Read → Type 0 where
  at-line : (xs : List ℤ) (fs : List ℕ) → Good xs fs → length xs % 3 ≡ 0 → length fs % 3 ≡ 0 → Sound (at xs fs Line)
  at-v : (xs : List ℤ) → Good xs [] → length xs % 3 ≡ 0 → length xs < 98304 → Sound (at xs [] AfterV)
  at-coord : (xs : List ℤ) → Good xs [] → length xs < 98304 → Sound (at xs [] Coord)
  at-minus : (xs : List ℤ) → Good xs [] → length xs < 98304 → Sound (at xs [] Minus)
  at_above : (xs : List ℤ) (n : ℕ) → Good xs [] → length xs < 98304 → n ≤ reach → Sound (at xs [] (Above n))
  at-below : (xs : List ℤ) (n : ℕ) → Good xs [] → length xs < 98304 → 0 < n → n ≤ reach → Sound (at xs [] (Under n))
  at_f : (xs : List ℤ) (fs : List ℕ) → Good xs fs → length xs % 3 ≡ 0 → length fs % 3 ≡ 0 → 0 < length xs → length fs < 98304 → Sound (at xs fs AfterF)
  at-corner : (xs : List ℤ) (fs : List ℕ) → Good xs fs → length xs % 3 ≡ 0 → 0 < length xs → length fs < 98304 → Sound (at xs fs Corner)
  at-number : (xs : List ℤ) (fs : List ℕ) (n : ℕ) → Good xs fs → length xs % 3 ≡ 0 → length fs < 98304 → 0 < n → n ≤ length xs / 3 → Sound (at xs fs (Number n))

pub record Step (s : Read) (c : ℕ) : Type 0 where
  pub to : Read
  pub is : next s c ≡ to
  pub sound : Sound to
  pub spells : spelled to ≡ spelled s ++ (c ∷ [])

true-false : true ≡ false → ⊥
true-false e = let z : ◌≡◌ {A = ℕ} 0 1 = cc in omega arith

-- ---- what each byte adds to the spelling

module _ (xs : List ℤ) where
  v-spelled : spelled (at xs [] AfterV) ≡ spelled (at xs [] Line) ++ (118 ∷ [])
  unfolding spelled pieces
  v-spelled = simp append_assoc

  gap-spelled : length xs % 3 ≡ 0 → spelled (at xs [] Coord) ≡ spelled (at xs [] AfterV) ++ (32 ∷ [])
  unfolding spelled pieces
  gap-spelled m = simp (eq-eqb (length xs % 3) 0 m, append_assoc)

  minus-spelled : spelled (at xs [] Minus) ≡ spelled (at xs [] Coord) ++ (45 ∷ [])
  unfolding spelled pieces
  minus-spelled = simp append_assoc

  first-spelled : (d : ℕ) → d < 10 → spelled (at xs [] (Above d)) ≡ spelled (at xs [] Coord) ++ ((48 + d) ∷ [])
  unfolding spelled pieces
  first-spelled d h = simp (numeral-one d h, append_assoc)

  below-first-spelled : (d : ℕ) → d < 10 → spelled (at xs [] (Under d)) ≡ spelled (at xs [] Minus) ++ ((48 + d) ∷ [])
  unfolding spelled pieces
  below-first-spelled d h = simp (numeral-one d h, append_assoc)

  below-digit-spelled : (n c : ℕ) → n ≤ reach → Digit n c reach → spelled (at xs [] (Under (10 * n + (c - 48)))) ≡ spelled (at xs [] (Under n)) ++ (c ∷ [])
  unfolding spelled pieces
  below-digit-spelled n c b d =
      let l = d.low in let u = d.high in
      let k : 48 + (c - 48) ≡ c = omega arith in
      let m = numeral-more n (c - 48) d.above (lt_of_le_of_lt b (lit< tt)) (omega arith) ∙ ap (λ (x : ℕ). numeral n ++ (x ∷ [])) k in
      simp (m, append_assoc)

module _ (xs : List ℤ) (fs : List ℕ) where
  f-spelled : spelled (at xs fs AfterF) ≡ spelled (at xs fs Line) ++ (102 ∷ [])
  unfolding spelled
  f-spelled = simp append_assoc

  corner-gap-spelled : length fs % 3 ≡ 0 → spelled (at xs fs Corner) ≡ spelled (at xs fs AfterF) ++ (32 ∷ [])
  unfolding spelled
  corner-gap-spelled m = simp (eq-eqb (length fs % 3) 0 m, append_assoc)

  corner-first-spelled : (d : ℕ) → d < 10 → spelled (at xs fs (Number d)) ≡ spelled (at xs fs Corner) ++ ((48 + d) ∷ [])
  unfolding spelled
  corner-first-spelled d h = simp (numeral-one d h, append_assoc)

  number-digit-spelled : (n c most : ℕ) → n ≤ reach → Digit n c most → spelled (at xs fs (Number (10 * n + (c - 48)))) ≡ spelled (at xs fs (Number n)) ++ (c ∷ [])
  unfolding spelled
  number-digit-spelled n c most b d =
      let l = d.low in let u = d.high in
      let k : 48 + (c - 48) ≡ c = omega arith in
      let m = numeral-more n (c - 48) d.above (lt_of_le_of_lt b (lit< tt)) (omega arith) ∙ ap (λ (x : ℕ). numeral n ++ (x ∷ [])) k in
      simp (m, append_assoc)

-- ---- one byte at each spot of a `v` line

step-v : (xs : List ℤ) (c : ℕ) → Good xs [] → length xs % 3 ≡ 0 → length xs < 98304 → is_stuck (next (at xs [] AfterV) c).spot ≡ false → Step (at xs [] AfterV) c
unfolding next turn
step-v xs c g m l h = go (eqb c 32) refl h
  where
    go : (t : Bool) → eqb c 32 ≡ t → is_stuck (pick t Coord Stuck) ≡ false → Step (at xs [] AfterV) c
    go true e h = record { to = at xs [] Coord; is = rw (e, append-nil xs); sound = at-coord xs g l; spells = rw (eqb-true c 32 e) (gap-spelled xs m) }
    go false e h = absurd (true-false h)

step-coord : (xs : List ℤ) (c : ℕ) → Good xs [] → length xs < 98304 → is_stuck (next (at xs [] Coord) c).spot ≡ false → Step (at xs [] Coord) c
unfolding next turn
step-coord xs c g l h = go (eqb c 45) (is_digit c) refl refl h
  where
    go : (t u : Bool) → eqb c 45 ≡ t → is_digit c ≡ u → is_stuck (pick t Minus (pick u (Above (c - 48)) Stuck)) ≡ false → Step (at xs [] Coord) c
    go true u e f h = record { to = at xs [] Minus; is = rw (e, append-nil xs); sound = at-minus xs g l; spells = rw (eqb-true c 45 e) (minus-spelled xs) }
    go false true e f h =
        let r = both (leb 48 c) (leb c 57) f in
        let a = leb-true 48 c r.0 in let b = leb-true c 57 r.1 in
        let k : 48 + (c - 48) ≡ c = omega arith in
        record {
          to = at xs [] (Above (c - 48));
          is = rw (e, f, append-nil xs);
          sound = at_above xs (c - 48) g l (omega arith);
          spells = first-spelled xs (c - 48) (omega arith) ∙ ap (λ (x : ℕ). spelled (at xs [] Coord) ++ (x ∷ [])) k;
        }
    go false false e f h = absurd (true-false h)

good_more : (xs : List ℤ) (z : ℤ) → Good xs [] → length xs < 98304 → nat_abs z ≤ reach → Good (xs ++ (z ∷ [])) []
good_more xs z g l b =
    record {
      few-coords = rw (length-append xs (z ∷ [])) (omega arith);
      few-corners = omega arith;
      range = find-more (λ x. not (in_range x)) xs z g.range (rw (le-leb (nat_abs z) reach b));
      below = refl;
    }

-- one more of a line that is not its last stays below the most, which is three times the lines
less : (n : ℕ) → n < 98304 → (n % 3 ≡ 2 → ⊥) → n + 1 < 98304
less n l m = go (eqb n 98303) refl
  where
    go : (t : Bool) → eqb n 98303 ≡ t → n + 1 < 98304
    go true e = absurd (m (ap (λ (k : ℕ). k % 3) (eqb-true n 98303 e)))
    go false e = let f = eqb-false n 98303 e in omega arith

after-number : (xs : List ℤ) (z : ℤ) → Good (xs ++ (z ∷ [])) [] → length xs < 98304 → Sound (at (xs ++ (z ∷ [])) [] (after_number (length xs) Coord))
after-number xs z g l = go (eqb (length xs % 3) 2) refl
  where
    go : (t : Bool) → eqb (length xs % 3) 2 ≡ t → Sound (at (xs ++ (z ∷ [])) [] (pick t Line Coord))
    go true e = let m = eqb-true (length xs % 3) 2 e in at-line (xs ++ (z ∷ [])) [] g (rw (length-append xs (z ∷ [])) (omega arith)) refl
    go false e = let m = eqb-false (length xs % 3) 2 e in at-coord (xs ++ (z ∷ [])) g (rw (length-append xs (z ∷ [])) (less (length xs) l m))

step-above : (xs : List ℤ) (n c : ℕ) → Good xs [] → length xs < 98304 → n ≤ reach → is_stuck (next (at xs [] (Above n)) c).spot ≡ false → Step (at xs [] (Above n)) c
unfolding next turn
step-above xs n c g l b h = go (eqb c (ends (length xs))) (grows n c reach) refl refl h
  where
    go : (t u : Bool) → eqb c (ends (length xs)) ≡ t → grows n c reach ≡ u → is_stuck (pick t (after_number (length xs) Coord) (pick u (Above (10 * n + (c - 48))) Stuck)) ≡ false → Step (at xs [] (Above n)) c
    go true u e f h =
        let k = eqb-true c (ends (length xs)) e in
        record {
          to = at (xs ++ (pos n ∷ [])) [] (after_number (length xs) Coord);
          is = ap (next (at xs [] (Above n))) k ∙ above-end xs n;
          sound = after-number xs (pos n) (good_more xs (pos n) g l b) l;
          spells = above-end-spelled xs n ∙ ap (λ (x : ℕ). spelled (at xs [] (Above n)) ++ (x ∷ [])) (sym k);
        }
    go false true e f h =
        let d = digit-of n c reach f in
        record { to = at xs [] (Above (10 * n + (c - 48))); is = above-digit xs n c d; sound = at_above xs (10 * n + (c - 48)) g l d.within; spells = above-digit-spelled xs n c b d }
    go false false e f h = absurd (true-false h)

-- ---- below zero

numeral-minus : (n : ℕ) → 0 < n → signed_numeral (minus n) ≡ 45 ∷ numeral n
unfolding signed_numeral
numeral-minus zero h = absurd (omega arith)
numeral-minus (suc n) h = refl

size-minus : (n : ℕ) → nat_abs (minus n) ≡ n
size-minus zero = refl
size-minus (suc n) = refl

module _ (xs : List ℤ) (n : ℕ) where
  pub below-digit : (c : ℕ) → Digit n c reach → next (at xs [] (Under n)) c ≡ at xs [] (Under (10 * n + (c - 48)))
  unfolding next turn
  below-digit c d =
      let l = d.low in let u = d.high in
      simp (
        ne_eqb c (pick (eqb (length xs % 3) 2) 10 32) (λ z. omega (arith, low (eqb (length xs % 3) 2))),
        le-leb 48 c d.low,
        le-leb c 57 d.high,
        lt-ltb 0 n d.above,
        le-leb (10 * n + (c - 48)) reach d.within,
      )
      (ap (λ (l : List ℤ). at l [] (Under (10 * n + (c - 48)))) (append-nil xs))

  pub below_end : next (at xs [] (Under n)) (ends (length xs)) ≡ at (xs ++ (minus n ∷ [])) [] (after_number (length xs) Coord)
  unfolding next turn
  below_end = simp (eq-eqb (ends (length xs)) (ends (length xs)) refl, ends_by (length xs) (ends (length xs)) refl)

  below-end-spelled : 0 < n → spelled (at (xs ++ (minus n ∷ [])) [] (after_number (length xs) Coord)) ≡ spelled (at xs [] (Under n)) ++ (ends (length xs) ∷ [])
  unfolding spelled pieces
  below-end-spelled h =
      rw (after_last xs (minus n) (eqb (length xs % 3) 2) refl, append-nil (spelled_coords (xs ++ (minus n ∷ []))), pieces_more 118 signed_numeral 0 xs (minus n), numeral-minus n h)
      (simp (zero-add, append_assoc))

step-minus : (xs : List ℤ) (c : ℕ) → Good xs [] → length xs < 98304 → is_stuck (next (at xs [] Minus) c).spot ≡ false → Step (at xs [] Minus) c
unfolding next turn
step-minus xs c g l h = go (is_digit c && ltb 48 c) refl h
  where
    go : (t : Bool) → (is_digit c && ltb 48 c) ≡ t → is_stuck (pick t (Under (c - 48)) Stuck) ≡ false → Step (at xs [] Minus) c
    go true e h =
        let q = both (is_digit c) (ltb 48 c) e in
        let r = both (leb 48 c) (leb c 57) q.0 in
        let a = ltb-true 48 c q.1 in let b = leb-true c 57 r.1 in
        let k : 48 + (c - 48) ≡ c = omega arith in
        record {
          to = at xs [] (Under (c - 48));
          is = rw (e, append-nil xs);
          sound = at-below xs (c - 48) g l (omega arith) (omega arith);
          spells = below-first-spelled xs (c - 48) (omega arith) ∙ ap (λ (x : ℕ). spelled (at xs [] Minus) ++ (x ∷ [])) k;
        }
    go false e h = absurd (true-false h)

step-below : (xs : List ℤ) (n c : ℕ) → Good xs [] → length xs < 98304 → 0 < n → n ≤ reach → is_stuck (next (at xs [] (Under n)) c).spot ≡ false → Step (at xs [] (Under n)) c
unfolding next turn
step-below xs n c g l p b h = go (eqb c (ends (length xs))) (grows n c reach) refl refl h
  where
    go : (t u : Bool) → eqb c (ends (length xs)) ≡ t → grows n c reach ≡ u → is_stuck (pick t (after_number (length xs) Coord) (pick u (Under (10 * n + (c - 48))) Stuck)) ≡ false → Step (at xs [] (Under n)) c
    go true u e f h =
        let k = eqb-true c (ends (length xs)) e in
        record {
          to = at (xs ++ (minus n ∷ [])) [] (after_number (length xs) Coord);
          is = ap (next (at xs [] (Under n))) k ∙ below_end xs n;
          sound = after-number xs (minus n) (good_more xs (minus n) g l (rw (size-minus n) b)) l;
          spells = below-end-spelled xs n p ∙ ap (λ (x : ℕ). spelled (at xs [] (Under n)) ++ (x ∷ [])) (sym k);
        }
    go false true e f h =
        let d = digit-of n c reach f in
        record { to = at xs [] (Under (10 * n + (c - 48))); is = below-digit xs n c d; sound = at-below xs (10 * n + (c - 48)) g l (omega arith) d.within; spells = below-digit-spelled xs n c b d }
    go false false e f h = absurd (true-false h)

-- ---- a line begins

step-line-none : (xs : List ℤ) (c : ℕ) → Good xs [] → length xs % 3 ≡ 0 → is_stuck (next (at xs [] Line) c).spot ≡ false → Step (at xs [] Line) c
unfolding next turn
step-line-none xs c g m h = go (eqb c 118 && true && ltb (length xs) 98304) (eqb c 102 && ltb 0 (length xs) && true) refl refl h
  where
    go : (t u : Bool) → (eqb c 118 && true && ltb (length xs) 98304) ≡ t → (eqb c 102 && ltb 0 (length xs) && true) ≡ u → is_stuck (pick t AfterV (pick u AfterF Stuck)) ≡ false → Step (at xs [] Line) c
    go true u e f h =
        let p = both (eqb c 118 && true) (ltb (length xs) 98304) e in
        let q = both (eqb c 118) true p.0 in
        record { to = at xs [] AfterV; is = rw (e, append-nil xs); sound = at-v xs g m (ltb-true _ _ p.1); spells = rw (eqb-true c 118 q.0) (v-spelled xs) }
    go false true e f h =
        let p = both (eqb c 102 && ltb 0 (length xs)) true f in
        let q = both (eqb c 102) (ltb 0 (length xs)) p.0 in
        record { to = at xs [] AfterF; is = rw (e, f, append-nil xs); sound = at_f xs [] g m refl (ltb-true _ _ q.1) (omega arith); spells = rw (eqb-true c 102 q.0) (f-spelled xs []) }
    go false false e f h = absurd (true-false h)

step-line-some : (xs : List ℤ) (f : ℕ) (fs : List ℕ) (c : ℕ) → Good xs (f ∷ fs) → length xs % 3 ≡ 0 → length (f ∷ fs) % 3 ≡ 0
    → is_stuck (next (at xs (f ∷ fs) Line) c).spot ≡ false → Step (at xs (f ∷ fs) Line) c
unfolding next turn
step-line-some xs f fs c g m k h =
    go (eqb c 118 && eqb (length (f ∷ fs)) 0 && ltb (length xs) 98304) (eqb c 102 && ltb 0 (length xs) && ltb (length (f ∷ fs)) 98304) refl refl h
  where
    go : (t u : Bool) → (eqb c 118 && eqb (length (f ∷ fs)) 0 && ltb (length xs) 98304) ≡ t → (eqb c 102 && ltb 0 (length xs) && ltb (length (f ∷ fs)) 98304) ≡ u
        → is_stuck (pick t AfterV (pick u AfterF Stuck)) ≡ false → Step (at xs (f ∷ fs) Line) c
    go true u e y h =
        let p = both (eqb c 118 && eqb (length (f ∷ fs)) 0) (ltb (length xs) 98304) e in
        let q = both (eqb c 118) (eqb (length (f ∷ fs)) 0) p.0 in
        let z = eqb-true (length (f ∷ fs)) 0 q.1 in
        absurd (omega arith)
    go false true e y h =
        let p = both (eqb c 102 && ltb 0 (length xs)) (ltb (length (f ∷ fs)) 98304) y in
        let q = both (eqb c 102) (ltb 0 (length xs)) p.0 in
        record {
          to = at xs (f ∷ fs) AfterF;
          is = rw (e, y, append-nil xs, append-nil fs);
          sound = at_f xs (f ∷ fs) g m k (ltb-true _ _ q.1) (ltb-true _ _ p.1);
          spells = rw (eqb-true c 102 q.0) (f-spelled xs (f ∷ fs));
        }
    go false false e y h = absurd (true-false h)

-- ---- one byte at each spot of an `f` line

step-f : (xs : List ℤ) (fs : List ℕ) (c : ℕ) → Good xs fs → length xs % 3 ≡ 0 → length fs % 3 ≡ 0 → 0 < length xs → length fs < 98304
    → is_stuck (next (at xs fs AfterF) c).spot ≡ false → Step (at xs fs AfterF) c
unfolding next turn
step-f xs fs c g m k v l h = go (eqb c 32) refl h
  where
    go : (t : Bool) → eqb c 32 ≡ t → is_stuck (pick t Corner Stuck) ≡ false → Step (at xs fs AfterF) c
    go true e h = record { to = at xs fs Corner; is = rw (e, append-nil xs, append-nil fs); sound = at-corner xs fs g m v l; spells = rw (eqb-true c 32 e) (corner-gap-spelled xs fs k) }
    go false e h = absurd (true-false h)

step-corner : (xs : List ℤ) (fs : List ℕ) (c : ℕ) → Good xs fs → length xs % 3 ≡ 0 → 0 < length xs → length fs < 98304
    → is_stuck (next (at xs fs Corner) c).spot ≡ false → Step (at xs fs Corner) c
unfolding next turn
step-corner xs fs c g m v l h = go (is_digit c && ltb 48 c && leb (c - 48) (length xs / 3)) refl h
  where
    go : (t : Bool) → (is_digit c && ltb 48 c && leb (c - 48) (length xs / 3)) ≡ t → is_stuck (pick t (Number (c - 48)) Stuck) ≡ false → Step (at xs fs Corner) c
    go true e h =
        let p = both (is_digit c && ltb 48 c) (leb (c - 48) (length xs / 3)) e in
        let q = both (is_digit c) (ltb 48 c) p.0 in
        let r = both (leb 48 c) (leb c 57) q.0 in
        let a = ltb-true 48 c q.1 in let b = leb-true c 57 r.1 in
        let k : 48 + (c - 48) ≡ c = omega arith in
        record {
          to = at xs fs (Number (c - 48));
          is = rw (e, append-nil xs, append-nil fs);
          sound = at-number xs fs (c - 48) g m l (omega arith) (leb-true _ _ p.1);
          spells = corner-first-spelled xs fs (c - 48) (omega arith) ∙ ap (λ (x : ℕ). spelled (at xs fs Corner) ++ (x ∷ [])) k;
        }
    go false e h = absurd (true-false h)

module _ (xs : List ℤ) (fs : List ℕ) (n : ℕ) where
  pub number-digit : (c : ℕ) → Digit n c (length xs / 3) → next (at xs fs (Number n)) c ≡ at xs fs (Number (10 * n + (c - 48)))
  unfolding next turn
  number-digit c d =
      let l = d.low in let u = d.high in
      simp (
        ne_eqb c (pick (eqb (length fs % 3) 2) 10 32) (λ z. omega (arith, low (eqb (length fs % 3) 2))),
        le-leb 48 c d.low,
        le-leb c 57 d.high,
        lt-ltb 0 n d.above,
        le-leb (10 * n + (c - 48)) (length xs / 3) d.within,
        append-nil,
      )

  pub number-end : next (at xs fs (Number n)) (ends (length fs)) ≡ at xs (fs ++ ((n - 1) ∷ [])) (after_number (length fs) Corner)
  unfolding next turn
  number-end =
      simp (eq-eqb (ends (length fs)) (ends (length fs)) refl, ends_by (length fs) (ends (length fs)) refl, append-nil)

  after-last-corner : (t : Bool) → eqb (length fs % 3) 2 ≡ t → begun (length xs) (length (fs ++ ((n - 1) ∷ []))) (pick t Line Corner) ≡ []
  after-last-corner true e = refl
  after-last-corner false e =
      let f = eqb-false (length fs % 3) 2 e in
      rw (length-append fs ((n - 1) ∷ []), ne_eqb ((length fs + 1) % 3) 0 (λ z. f (omega arith)))

  number-end-spelled : 0 < n → spelled (at xs (fs ++ ((n - 1) ∷ [])) (after_number (length fs) Corner)) ≡ spelled (at xs fs (Number n)) ++ (ends (length fs) ∷ [])
  unfolding spelled
  number-end-spelled h =
      let s : suc (n - 1) ≡ n = omega arith in
      rw (after-last-corner (eqb (length fs % 3) 2) refl, append-nil (spelled_corners (fs ++ ((n - 1) ∷ []))), pieces_more 102 (λ c. numeral (suc c)) 0 fs (n - 1), s)
      (simp (zero-add, append_assoc))

good-corner : (xs : List ℤ) (fs : List ℕ) (n : ℕ) → Good xs fs → length fs < 98304 → 0 < n → n ≤ length xs / 3 → Good xs (fs ++ ((n - 1) ∷ []))
good-corner xs fs n g l p b =
    record {
      few-coords = g.few-coords;
      few-corners = rw (length-append fs ((n - 1) ∷ [])) (omega arith);
      range = g.range;
      below = find-more (λ c. leb (length xs / 3) c) fs (n - 1) g.below (lt-leb (length xs / 3) (n - 1) (omega arith));
    }

after-corner : (xs : List ℤ) (fs : List ℕ) (x : ℕ) → Good xs (fs ++ (x ∷ [])) → length xs % 3 ≡ 0 → 0 < length xs → length fs < 98304 → Sound (at xs (fs ++ (x ∷ [])) (after_number (length fs) Corner))
after-corner xs fs x g m v l = go (eqb (length fs % 3) 2) refl
  where
    go : (t : Bool) → eqb (length fs % 3) 2 ≡ t → Sound (at xs (fs ++ (x ∷ [])) (pick t Line Corner))
    go true e = let k = eqb-true (length fs % 3) 2 e in at-line xs (fs ++ (x ∷ [])) g m (rw (length-append fs (x ∷ [])) (omega arith))
    go false e = let k = eqb-false (length fs % 3) 2 e in at-corner xs (fs ++ (x ∷ [])) g m v (rw (length-append fs (x ∷ [])) (less (length fs) l k))

step-number : (xs : List ℤ) (fs : List ℕ) (n c : ℕ) → Good xs fs → length xs % 3 ≡ 0 → length fs < 98304 → 0 < n → n ≤ length xs / 3
    → is_stuck (next (at xs fs (Number n)) c).spot ≡ false → Step (at xs fs (Number n)) c
unfolding next turn
step-number xs fs n c g m l p b h = go (eqb c (ends (length fs))) (grows n c (length xs / 3)) refl refl h
  where
    go : (t u : Bool) → eqb c (ends (length fs)) ≡ t → grows n c (length xs / 3) ≡ u
        → is_stuck (pick t (after_number (length fs) Corner) (pick u (Number (10 * n + (c - 48))) Stuck)) ≡ false → Step (at xs fs (Number n)) c
    go true u e f h =
        let k = eqb-true c (ends (length fs)) e in
        record {
          to = at xs (fs ++ ((n - 1) ∷ [])) (after_number (length fs) Corner);
          is = ap (next (at xs fs (Number n))) k ∙ number-end xs fs n;
          sound = after-corner xs fs (n - 1) (good-corner xs fs n g l p b) m (omega arith) l;
          spells = number-end-spelled xs fs n p ∙ ap (λ (x : ℕ). spelled (at xs fs (Number n)) ++ (x ∷ [])) (sym k);
        }
    go false true e f h =
        let d = digit-of n c (length xs / 3) f in
        record {
          to = at xs fs (Number (10 * n + (c - 48)));
          is = number-digit xs fs n c d;
          sound = at-number xs fs (10 * n + (c - 48)) g m l (omega arith) d.within;
          spells = number-digit-spelled xs fs n c (length xs / 3) (omega (arith, g.few-coords)) d;
        }
    go false false e f h = absurd (true-false h)

-- ---- every byte that is not stuck

pub step : (s : Read) (c : ℕ) → Sound s → is_stuck (next s c).spot ≡ false → Step s c
step _ c (at-line xs [] g m k) h = step-line-none xs c g m h
step _ c (at-line xs (f ∷ fs) g m k) h = step-line-some xs f fs c g m k h
step _ c (at-v xs g m l) h = step-v xs c g m l h
step _ c (at-coord xs g l) h = step-coord xs c g l h
step _ c (at-minus xs g l) h = step-minus xs c g l h
step _ c (at_above xs n g l b) h = step-above xs n c g l b h
step _ c (at-below xs n g l p b) h = step-below xs n c g l p b h
step _ c (at_f xs fs g m k v l) h = step-f xs fs c g m k v l h
step _ c (at-corner xs fs g m v l) h = step-corner xs fs c g m v l h
step _ c (at-number xs fs n g m l p b) h = step-number xs fs n c g m l p b h
