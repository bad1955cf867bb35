-- The place of 23: what has been read so far begins an allowed text, and with the byte there no allowed text begins.
use Prim.Native.Nat.{ℕ, suc, ◌+◌, ◌-◌, ◌/◌, ◌%◌, ◌≤◌, ◌<◌}
use mathlib.Core.Path.{◌≡◌, refl, sym, ap, ◌∙◌, subst}
use mathlib.Core.Bool.{Bool, true, false, not}
use mathlib.Core.List.{List, [], ◌∷◌, ◌++◌}
use mathlib.Core.Option.{none}
use native.Mathlib.Omega.{arith}
use native.Mathlib.Nat.{zero-add}
use lib.Dec.{leb, eqb}
use lib.IntN.{ℤ, pos, nat_abs}
use lib.ListN.{length, take, length-append}
use borrow.Author.Tests.{eq-eqb, eqb-true, eqb-false, lt-leb}
use Rattle.lists.specs.Lists.{pick, find}
use Rattle.whole.specs.Whole.{reach}
use Rattle.listing.specs.Text.{numeral, signed_numeral}
use Rattle.obj.specs.Form.{Allowed}
use Rattle.spots.specs.Spots.{is_stuck, is_line, ends, after_number}
use Rattle.obj.specs.Reading.{Read, lists, wrong, next, begin, minus, read_from, read_obj}
use Rattle.spots.specs.declared.Spot.{Spot}
use Rattle.spots.specs.declared.Spot.TheVariants.{Line, Coord, Under, Corner, Number}
use Rattle.obj.proofs.Spelled.{at, pieces, above-end}
use Rattle.obj.proofs.Sound.{Sound, Step, step, below_end, number-end, at-line, at-v, at-coord, at-minus, at_above, at-below, at_f, at-corner, at-number}
use Rattle.obj.proofs.Back.{after, after-append, below-back, corner-back}
use Rattle.obj.proofs.Exact.{write-back, nothing_yet}
use Rattle.obj.proofs.Round.{ready, ready-next, gap-v, gap-f, coord-back, coords-back, corners-back, ends-well, read_back, none-goes-on}

-- ---- every sound spot can be finished

pub record Finish (s : Read) : Type 0 where
  pub rest : List ℕ
  pub coords : List ℤ
  pub corners : List ℕ
  pub is : after s rest ≡ at coords corners Line

first_then : (s t : Read) (p : List ℕ) → after s p ≡ t → Finish t → Finish s
first_then s t p e f = record { rest = p ++ f.rest; coords = f.coords; corners = f.corners; is = after-append s p f.rest ∙ ap (λ (u : Read). after u f.rest) e ∙ f.is }

data Third (n : ℕ) : Type 0 where
  none_over : n % 3 ≡ 0 → Third n
  one-over : n % 3 ≡ 1 → Third n
  two-over : n % 3 ≡ 2 → Third n

third : (n : ℕ) → Third n
third n = go (eqb (n % 3) 0) (eqb (n % 3) 1) refl refl
  where
    go : (t u : Bool) → eqb (n % 3) 0 ≡ t → eqb (n % 3) 1 ≡ u → Third n
    go true u e f = none_over (eqb-true _ 0 e)
    go false true e f = one-over (eqb-true _ 1 f)
    go false false e f = let a = eqb-false _ 0 e in let b = eqb-false _ 1 f in two-over (left (n % 3) (omega arith) a b)
      where
        left : (m : ℕ) → m < 3 → (m ≡ 0 → ⊥) → (m ≡ 1 → ⊥) → m ≡ 2
        left m l a b = omega arith

module _ (xs : List ℤ) where
  line_after : (ys : List ℤ) → (length xs + length ys) % 3 ≡ 0 → at (xs ++ ys) [] (ready (length (xs ++ ys)) Coord) ≡ at (xs ++ ys) [] Line
  line_after ys m = rw (eq-eqb (length (xs ++ ys) % 3) 0 (rw (length-append xs ys) m)) refl

  by-zeros : (ys : List ℤ) → length xs + length ys ≤ 98304 → find (λ x. not (leb (nat_abs x) reach)) ys ≡ none → (length xs + length ys) % 3 ≡ 0 → Finish (at xs [] (ready (length xs) Coord))
  by-zeros ys l f m = record { rest = pieces 118 signed_numeral (length xs) ys; coords = xs ++ ys; corners = []; is = coords-back xs ys l f ∙ line_after ys m }

  finish-ready : length xs ≤ 98304 → Finish (at xs [] (ready (length xs) Coord))
  finish-ready l = go (third (length xs))
    where
      go : Third (length xs) → Finish (at xs [] (ready (length xs) Coord))
      go (none_over m) = by-zeros [] (omega arith) refl (omega arith)
      go (one-over m) = by-zeros (pos 0 ∷ pos 0 ∷ []) (omega arith) refl (omega arith)
      go (two-over m) = by-zeros (pos 0 ∷ []) (omega arith) refl (omega arith)

after-coord : (xs : List ℤ) (z : ℤ) → length xs < 98304 → Finish (at (xs ++ (z ∷ [])) [] (after_number (length xs) Coord))
unfolding after
after-coord xs z l =
    let k = length-append xs (z ∷ []) in
    let e : after_number (length xs) Coord ≡ ready (length (xs ++ (z ∷ []))) Coord = ready-next (length xs) Coord ∙ ap (λ (n : ℕ). ready n Coord) (sym k) in
    first_then _ (at (xs ++ (z ∷ [])) [] (ready (length (xs ++ (z ∷ []))) Coord)) [] (ap (λ (p : Spot). at (xs ++ (z ∷ [])) [] p) e) (finish-ready (xs ++ (z ∷ [])) (omega arith))

module _ (xs : List ℤ) (few : length xs / 3 ≤ reach) (v : 0 < length xs / 3) where
  line-after-corners : (fs gs : List ℕ) → (length fs + length gs) % 3 ≡ 0 → at xs (fs ++ gs) (ready (length (fs ++ gs)) Corner) ≡ at xs (fs ++ gs) Line
  line-after-corners fs gs m = rw (eq-eqb (length (fs ++ gs) % 3) 0 (rw (length-append fs gs) m)) refl

  by-firsts : (fs gs : List ℕ) → length fs + length gs ≤ 98304 → find (λ c. leb (length xs / 3) c) gs ≡ none → (length fs + length gs) % 3 ≡ 0 → Finish (at xs fs (ready (length fs) Corner))
  by-firsts fs gs l f m =
      record { rest = pieces 102 (λ c. numeral (suc c)) (length fs) gs; coords = xs; corners = fs ++ gs; is = corners-back xs few (omega arith) fs gs l f ∙ line-after-corners fs gs m }

  finish-corners : (fs : List ℕ) → length fs ≤ 98304 → Finish (at xs fs (ready (length fs) Corner))
  finish-corners fs l = go (third (length fs))
    where
      first : leb (length xs / 3) 0 ≡ false
      first = lt-leb (length xs / 3) 0 v

      go : Third (length fs) → Finish (at xs fs (ready (length fs) Corner))
      go (none_over m) = by-firsts fs [] (omega arith) refl (omega arith)
      go (one-over m) = by-firsts fs (0 ∷ 0 ∷ []) (omega arith) (rw first refl) (omega arith)
      go (two-over m) = by-firsts fs (0 ∷ []) (omega arith) (rw first refl) (omega arith)

  after-corner : (fs : List ℕ) (c : ℕ) → length fs < 98304 → Finish (at xs (fs ++ (c ∷ [])) (after_number (length fs) Corner))
  unfolding after
  after-corner fs c l =
      let k = length-append fs (c ∷ []) in
      let e : after_number (length fs) Corner ≡ ready (length (fs ++ (c ∷ []))) Corner = ready-next (length fs) Corner ∙ ap (λ (n : ℕ). ready n Corner) (sym k) in
      first_then _ (at xs (fs ++ (c ∷ [])) (ready (length (fs ++ (c ∷ []))) Corner)) [] (ap (λ (p : Spot). at xs (fs ++ (c ∷ [])) p) e) (finish-corners (fs ++ (c ∷ [])) (omega arith))

from-coord : (xs : List ℤ) → length xs < 98304 → Finish (at xs [] Coord)
from-coord xs l = first_then _ _ (signed_numeral (pos 0) ++ (ends (length xs) ∷ [])) (coord-back xs l (pos 0) (omega arith)) (after-coord xs (pos 0) l)

from-below : (xs : List ℤ) (n : ℕ) → length xs < 98304 → Finish (at xs [] (Under n))
unfolding after
from-below xs n l = first_then _ _ (ends (length xs) ∷ []) (below_end xs n) (after-coord xs (minus n) l)

from-number : (xs : List ℤ) (fs : List ℕ) (n : ℕ) → length xs / 3 ≤ reach → 0 < length xs / 3 → length fs < 98304 → Finish (at xs fs (Number n))
unfolding after
from-number xs fs n w v l = first_then _ _ (ends (length fs) ∷ []) (number-end xs fs n) (after-corner xs w v fs (n - 1) l)

from-corner : (xs : List ℤ) (fs : List ℕ) → length xs / 3 ≤ reach → 0 < length xs / 3 → length fs < 98304 → Finish (at xs fs Corner)
from-corner xs fs w v l = first_then _ _ (numeral 1) (corner-back xs fs 1 w (omega arith) (omega arith)) (from-number xs fs 1 w v l)

pub finish : (s : Read) → Sound s → Finish s
unfolding after
finish _ (at-line xs fs g m k) = record { rest = []; coords = xs; corners = fs; is = refl }
finish _ (at-v xs g m l) = first_then _ (at xs [] Coord) (32 ∷ []) (gap-v xs l) (from-coord xs l)
finish _ (at-coord xs g l) = from-coord xs l
finish _ (at-minus xs g l) = first_then _ (at xs [] (Under 1)) (numeral 1) (below-back xs 1 (omega arith) (omega arith)) (from-below xs 1 l)
finish _ (at_above xs n g l b) = first_then _ _ (ends (length xs) ∷ []) (above-end xs n) (after-coord xs (pos n) l)
finish _ (at-below xs n g l p b) = from-below xs n l
finish _ (at_f xs fs g m k v l) =
    let a = g.few-coords in
    first_then _ (at xs fs Corner) (32 ∷ []) (gap-f xs (omega arith) v fs) (from-corner xs fs (omega arith) (omega arith) l)
finish _ (at-corner xs fs g m v l) = let a = g.few-coords in from-corner xs fs (omega arith) (omega arith) l
finish _ (at-number xs fs n g m l p b) = let a = g.few-coords in from-number xs fs n (omega arith) (omega arith) l

-- what is read to a spot that can be finished begins an allowed text
pub goes_on : (p : List ℕ) (f : Finish (after begin p)) → Allowed (p ++ f.rest)
unfolding read_obj
goes_on p f =
    let t : after begin (p ++ f.rest) ≡ at f.coords f.corners Line = after-append begin p f.rest ∙ f.is in
    let r : read_obj (p ++ f.rest) ≡ lists f.coords f.corners =
    ends-well 0 begin (p ++ f.rest) (ap (λ (s : Read). is_stuck s.spot) t)
    ∙ ap (λ (s : Read). pick (is_line s.spot) (lists s.coords s.corners) (wrong (0 + length (p ++ f.rest)))) t in
    let w = write-back (p ++ f.rest) f.coords f.corners r in
    record { coords = f.coords; corners = f.corners; has = w.0; is = sym w.1 }

-- ---- where the reader stops

record Wrong (i : ℕ) (s : Read) (b : List ℕ) (n : ℕ) : Type 0 where
  pub k : ℕ
  pub is : n ≡ i + k
  pub below : k ≤ length b
  pub sound : Sound (after s (take k b))
  pub stuck : k < length b → is_stuck (after s (take (suc k) b)).spot ≡ true
  pub open-end : k ≡ length b → is_line (after s (take k b)).spot ≡ false

sound-next : (s : Read) (c : ℕ) → Step s c → Sound (next s c)
sound-next s c t = rw t.is t.sound

lists-wrong : {n : ℕ} {xs : List ℤ} {fs : List ℕ} → lists xs fs ≡ wrong n → ⊥
lists-wrong {n} {xs} {fs} e = let z : ◌≡◌ {A = ℕ} 0 1 = cc in omega arith

wrong-at : (i : ℕ) (s : Read) (b : List ℕ) (n : ℕ) → Sound s → read_from i s b ≡ wrong n → Wrong i s b n
unfolding read_from after
wrong-at i s [] n h e = go (is_line s.spot) refl e
  where
    go : (t : Bool) → is_line s.spot ≡ t → pick t (lists s.coords s.corners) (wrong i) ≡ wrong n → Wrong i s [] n
    go true f e = absurd (lists-wrong e)
    go false f e = let m : i ≡ n = cc in record { k = 0; is = omega arith; below = omega arith; sound = h; stuck = λ z. absurd (omega arith); open-end = λ z. f }
wrong-at i s (c ∷ b) n h e = go (is_stuck (next s c).spot) refl (λ g k. wrong-at (i + 1) (next s c) b n g k) e
  where
    go : (t : Bool) → is_stuck (next s c).spot ≡ t → (Sound (next s c) → read_from (i + 1) (next s c) b ≡ wrong n → Wrong (i + 1) (next s c) b n)
        → pick t (wrong i) (read_from (i + 1) (next s c) b) ≡ wrong n → Wrong i s (c ∷ b) n
    go true f r e = let m : i ≡ n = cc in record { k = 0; is = omega arith; below = omega arith; sound = h; stuck = λ z. f; open-end = λ z. absurd (omega arith) }
    go false f r e =
        let w = r (sound-next s c (step s c h f)) e in
        record {
          k = suc w.k;
          is = w.is ∙ omega arith;
          below = omega (arith, w.below);
          sound = w.sound;
          stuck = λ z. w.stuck (omega arith);
          open-end = λ z. w.open-end (omega arith);
        }

-- "place the first byte where no allowed text can go on, or the length if it stops early"
pub record Place (b : List ℕ) (n : ℕ) : Type 0 where
  pub within : n ≤ length b
  pub rest : List ℕ
  pub goes : Allowed (take n b ++ rest)
  pub stops : n < length b → (more : List ℕ) → Allowed (take (suc n) b ++ more) → ⊥
  pub none-whole : Allowed b → ⊥

pub place : (b : List ℕ) (n : ℕ) → read_obj b ≡ wrong n → Place b n
unfolding read_obj
place b n e =
    let w = wrong-at 0 begin b n nothing_yet e in
    let m : n ≡ w.k = w.is ∙ zero-add w.k in
    let f = finish (after begin (take w.k b)) w.sound in
    record {
      within = omega (arith, w.below);
      rest = f.rest;
      goes = subst (λ (x : ℕ). Allowed (take x b ++ f.rest)) (sym m) (goes_on (take w.k b) f);
      stops = λ l more a. none-goes-on (take (suc w.k) b) more (w.stuck (omega arith)) (subst (λ (x : ℕ). Allowed (take (suc x) b ++ more)) m a);
      none-whole = λ a.
          lists-wrong (sym (read_back a.coords a.corners a.has) ∙ ap read_obj (sym a.is) ∙ e);
    }
