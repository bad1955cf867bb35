-- A passage over the text: what holds before each byte, and what the lists hold then.
use Prim.Native.Nat.{ℕ, ◌+◌, ◌-◌, ◌≤◌, ◌<◌}
use mathlib.Core.Path.{◌≡◌, refl, sym, ap, ◌∙◌}
use mathlib.Core.Bool.{Bool, true, false}
use mathlib.Core.List.{List, [], ◌∷◌, ◌++◌}
use native.Mathlib.Omega.{arith}
use native.Mathlib.Nat.{zero-add}
use native.Mathlib.Numerals.{add-one}
use lib.IntN.{ℤ, pos}
use Rattle.std.proofs.Common.{Option, None, Some, Ok, Err}
use lib.ListN.{length, get_or, drop, length-append}
use lib.Seq.{sets, set_out, drop-cons, drop-length}
use Rattle.lists.specs.Lists.{pick}
use Rattle.lists.proofs.Stores.{sets-next}
use Rattle.spots.specs.Spots.{turn, is_digit, is_stuck, is_line}
use Rattle.obj.specs.Reading.{Read, Reading, lists, wrong, next, begin, minus, coord_by, corner_by, read_from, read_obj}
use Rattle.obj.specs.Inside.{held_at, ended_by, coords_held, corners_held, fits, seen_of, is_whole}
use Rattle.obj.specs.Calls.{coords_of, corners_of}
use Rattle.obj.specs.declared.Held.{Held}
use Rattle.obj.specs.declared.Held.TheVariants.{Plus, Less, Corner as CornerOf}
use Rattle.spots.specs.declared.Spot.{Spot}
use Rattle.spots.specs.declared.Spot.TheVariants.{Line, AfterV, Coord, Minus, Above, Under, AfterF, Corner, Number, Stuck}
use Rattle.obj.proofs.Spelled.{pieces, spelled}
use Rattle.obj.proofs.Sound.{Sound, Step, step}
use Rattle.obj.proofs.Exact.{nothing_yet}
use Rattle.obj.proofs.Few.{spelled-few, counts, ended-fits}

-- ---- the number that a byte ends, as the code asks for it

by-digit : {A : Type 0} (t : Bool) → [] ≡ pick {A = List A} t [] []
by-digit true = refl
by-digit false = refl

pick-coords : (t : Bool) (h : Option Held) → pick t [] (coords_held h) ≡ coords_held (pick t None h)
pick-coords true h = refl
pick-coords false h = refl

pick-corners : (t : Bool) (h : Option Held) → pick t [] (corners_held h) ≡ corners_held (pick t None h)
pick-corners true h = refl
pick-corners false h = refl

coord-held : (p : Spot) (c : ℕ) → coord_by p c ≡ pick (is_digit c) [] (coords_held (held_at p))
coord-held Line c = by-digit (is_digit c)
coord-held AfterV c = by-digit (is_digit c)
coord-held Coord c = by-digit (is_digit c)
coord-held Minus c = by-digit (is_digit c)
coord-held (Above n) c = refl
coord-held (Under n) c = refl
coord-held AfterF c = by-digit (is_digit c)
coord-held Corner c = by-digit (is_digit c)
coord-held (Number n) c = by-digit (is_digit c)
coord-held Stuck c = by-digit (is_digit c)

corner-held : (p : Spot) (c : ℕ) → corner_by p c ≡ pick (is_digit c) [] (corners_held (held_at p))
corner-held Line c = by-digit (is_digit c)
corner-held AfterV c = by-digit (is_digit c)
corner-held Coord c = by-digit (is_digit c)
corner-held Minus c = by-digit (is_digit c)
corner-held (Above n) c = by-digit (is_digit c)
corner-held (Under n) c = by-digit (is_digit c)
corner-held AfterF c = by-digit (is_digit c)
corner-held Corner c = by-digit (is_digit c)
corner-held (Number n) c = refl
corner-held Stuck c = by-digit (is_digit c)

coord-ended : (p : Spot) (c : ℕ) → coord_by p c ≡ coords_held (ended_by p c)
coord-ended p c = coord-held p c ∙ pick-coords (is_digit c) (held_at p)

corner-ended : (p : Spot) (c : ℕ) → corner_by p c ≡ corners_held (ended_by p c)
corner-ended p c = corner-held p c ∙ pick-corners (is_digit c) (held_at p)

-- a store past the end of a list changes nothing
pub coords-out : (l : List ℤ) (i : ℕ) (h : Option Held) → length l ≤ i → l ≡ sets l i (coords_held h)
coords-out l i None e = refl
coords-out l i (Some (Plus n)) e = sym (set_out l i (pos n) e)
coords-out l i (Some (Less n)) e = sym (set_out l i (minus n) e)
coords-out l i (Some (CornerOf n)) e = refl

pub corners-out : (l : List ℕ) (j : ℕ) (h : Option Held) → length l ≤ j → l ≡ sets l j (corners_held h)
corners-out l j None e = refl
corners-out l j (Some (Plus n)) e = refl
corners-out l j (Some (Less n)) e = refl
corners-out l j (Some (CornerOf n)) e = sym (set_out l j (n - 1) e)

-- ---- one byte

read_step : (k : ℕ) (s : Read) (b : List ℕ) → k < length b
    → read_from k s (drop k b) ≡ pick (is_stuck (next s (get_or b k 0)).spot) (wrong k) (read_from (k + 1) (next s (get_or b k 0)) (drop (k + 1) b))
unfolding read_from
read_step k s b h = let e = add-one k in rw (drop-cons b k 0 h, e)

false-true : false ≡ true → ⊥
false-true e = let z : ◌≡◌ {A = ℕ} 0 1 = cc in omega arith

pub not-whole : (r : Reading) (k : ℕ) → r ≡ wrong k → is_whole r ≡ true → ⊥
not-whole r k e w = false-true (sym (ap is_whole e) ∙ w)

-- ---- after k bytes

pub record Going (b : List ℕ) (p : Spot) (i j k : ℕ) : Type 0 where
  pub s : Read
  pub rest : read_obj b ≡ read_from k s (drop k b)
  pub sound : Sound s
  pub long : length (spelled s) ≡ k
  pub spot_is : s.spot ≡ p
  pub coords-are : length s.coords ≡ i
  pub corners-are : length s.corners ≡ j

pub going-first : (b : List ℕ) → Going b Line 0 0 0
unfolding read_obj spelled pieces
going-first b = record { s = begin; rest = refl; sound = nothing_yet; long = refl; spot_is = refl; coords-are = refl; corners-are = refl }

module _ (b : List ℕ) (p : Spot) (i j k : ℕ) (g : Going b p i j k) where
  -- the place fits in 32 bits
  pub few : (k ≤ 4718615) × ((i ≤ 98304) × (j ≤ 98304))
  few =
      let c = counts g.s g.sound in
      let x = g.coords-are in let y = g.corners-are in let z = g.long in
      let u = spelled-few g.s in
      let v = c.0 in let w = c.1 in
      (omega arith, (omega arith, omega arith))

  module _ (c : ℕ) (at : c ≡ get_or b k 0) (h : k < length b) where
    spot-next : (next g.s c).spot ≡ turn i j p c
    unfolding next
    spot-next = rw (g.coords-are, g.corners-are, g.spot_is)

    step_of : read_obj b ≡ pick (is_stuck (turn i j p c)) (wrong k) (read_from (k + 1) (next g.s c) (drop (k + 1) b))
    step_of = g.rest ∙ read_step k g.s b h ∙ ap (λ (x : ℕ). pick (is_stuck (next g.s x).spot) (wrong k) (read_from (k + 1) (next g.s x) (drop (k + 1) b))) (sym at)
        ∙ ap (λ (q : Spot). pick (is_stuck q) (wrong k) (read_from (k + 1) (next g.s c) (drop (k + 1) b))) spot-next

    pub going-stuck : is_stuck (turn i j p c) ≡ true → read_obj b ≡ wrong k
    going-stuck e = step_of ∙ ap (λ (t : Bool). pick t (wrong k) (read_from (k + 1) (next g.s c) (drop (k + 1) b))) e

    pub fits-here : fits (ended_by p c) ≡ true
    fits-here = ap (λ (q : Spot). fits (ended_by q c)) (sym g.spot_is) ∙ ended-fits g.s c g.sound

    module _ (e : is_stuck (turn i j p c) ≡ false) where
      stepped : Step g.s c
      stepped = step g.s c g.sound (ap is_stuck spot-next ∙ e)

      coords-next : (next g.s c).coords ≡ g.s.coords ++ coords_held (ended_by p c)
      unfolding next
      coords-next = ap (λ (q : Spot). g.s.coords ++ coord_by q c) g.spot_is ∙ ap (λ (l : List ℤ). g.s.coords ++ l) (coord-ended p c)

      corners-next : (next g.s c).corners ≡ g.s.corners ++ corners_held (ended_by p c)
      unfolding next
      corners-next = ap (λ (q : Spot). g.s.corners ++ corner_by q c) g.spot_is ∙ ap (λ (l : List ℕ). g.s.corners ++ l) (corner-ended p c)

      pub going_more : Going b (turn i j p c) (i + length (coords_held (ended_by p c))) (j + length (corners_held (ended_by p c))) (k + 1)
      going_more =
          record {
            s = next g.s c;
            rest = step_of ∙ ap (λ (t : Bool). pick t (wrong k) (read_from (k + 1) (next g.s c) (drop (k + 1) b))) e;
            sound = rw stepped.is stepped.sound;
            long = ap (λ (r : Read). length (spelled r)) stepped.is ∙ ap length stepped.spells ∙ length-append (spelled g.s) (c ∷ []) ∙ ap (λ (n : ℕ). n + 1) g.long;
            spot_is = spot-next;
            coords-are = ap length coords-next ∙ length-append g.s.coords (coords_held (ended_by p c)) ∙ ap (λ (n : ℕ). n + length (coords_held (ended_by p c))) g.coords-are;
            corners-are = ap length corners-next ∙ length-append g.s.corners (corners_held (ended_by p c)) ∙ ap (λ (n : ℕ). n + length (corners_held (ended_by p c))) g.corners-are;
          }

  -- at the end
  pub going_end : k ≡ length b → read_obj b ≡ pick (is_line p) (lists g.s.coords g.s.corners) (wrong k)
  unfolding read_from
  going_end e =
      g.rest ∙ ap (λ (n : ℕ). read_from k g.s (drop n b)) e ∙ ap (read_from k g.s) (drop-length b)
      ∙ ap (λ (q : Spot). pick (is_line q) (lists g.s.coords g.s.corners) (wrong k)) g.spot_is

  pub seen_end : k ≡ length b → pick (is_line p) (Ok (record { coords = i; corners = j })) (Err (record { number = 23; place = k })) ≡ seen_of (read_obj b)
  seen_end e = go (is_line p) ∙ sym (ap seen_of (going_end e))
    where
      go : (t : Bool) → pick t (Ok (record { coords = i; corners = j })) (Err (record { number = 23; place = k })) ≡ seen_of (pick t (lists g.s.coords g.s.corners) (wrong k))
      go true = rw (g.coords-are, g.corners-are)
      go false = refl

-- ---- filling

pub record Filling (b : List ℕ) (xs₀ : List ℤ) (fs₀ : List ℕ) (xs : List ℤ) (fs : List ℕ) (p : Spot) (i j k : ℕ) : Type 0 where
  pub going : Going b p i j k
  pub coords-so : xs ≡ sets xs₀ 0 going.s.coords
  pub corners-so : fs ≡ sets fs₀ 0 going.s.corners

pub filling-first : (b : List ℕ) (xs₀ : List ℤ) (fs₀ : List ℕ) → Filling b xs₀ fs₀ xs₀ fs₀ Line 0 0 0
unfolding read_obj spelled pieces going-first
filling-first b xs₀ fs₀ = record { going = going-first b; coords-so = refl; corners-so = refl }

module _ (b : List ℕ) (xs₀ : List ℤ) (fs₀ : List ℕ) (xs : List ℤ) (fs : List ℕ) (p : Spot) (i j k : ℕ) (f : Filling b xs₀ fs₀ xs fs p i j k) where
  module _ (c : ℕ) (at : c ≡ get_or b k 0) (h : k < length b) (n : is_stuck (turn i j p c) ≡ false) where
    pub filling-more : (ys : List ℤ) (gs : List ℕ) → ys ≡ sets xs i (coords_held (ended_by p c)) → gs ≡ sets fs j (corners_held (ended_by p c))
        → Filling b xs₀ fs₀ ys gs (turn i j p c) (i + length (coords_held (ended_by p c))) (j + length (corners_held (ended_by p c))) (k + 1)
    unfolding next going_more
    filling-more ys gs u v =
        let q = f.going in
        record {
          going = going_more b p i j k q c at h n;
          coords-so =
              u ∙ ap (λ (l : List ℤ). sets l i (coords_held (ended_by p c))) f.coords-so
              ∙ sets-next q.s.coords (coords_held (ended_by p c)) xs₀ 0 i (zero-add _ ∙ q.coords-are)
              ∙ ap (sets xs₀ 0) (sym (coords-next b p i j k q c at h n));
          corners-so =
              v ∙ ap (λ (l : List ℕ). sets l j (corners_held (ended_by p c))) f.corners-so
              ∙ sets-next q.s.corners (corners_held (ended_by p c)) fs₀ 0 j (zero-add _ ∙ q.corners-are)
              ∙ ap (sets fs₀ 0) (sym (corners-next b p i j k q c at h n));
        }

  module _ (w : is_whole (read_obj b) ≡ true) where
    at-end : k ≡ length b → read_obj b ≡ lists f.going.s.coords f.going.s.corners
    at-end e = let r = going_end b p i j k f.going e in go (is_line p) r
      where
        go : (t : Bool) → read_obj b ≡ pick t (lists f.going.s.coords f.going.s.corners) (wrong k) → read_obj b ≡ lists f.going.s.coords f.going.s.corners
        go true r = r
        go false r = absurd (false-true (sym (ap is_whole r) ∙ w))

    pub filled-coords : k ≡ length b → xs ≡ sets xs₀ 0 (coords_of (read_obj b))
    filled-coords e = f.coords-so ∙ ap (λ (r : Reading). sets xs₀ 0 (coords_of r)) (sym (at-end e))

    pub filled-corners : k ≡ length b → fs ≡ sets fs₀ 0 (corners_of (read_obj b))
    filled-corners e = f.corners-so ∙ ap (λ (r : Reading). sets fs₀ 0 (corners_of r)) (sym (at-end e))
