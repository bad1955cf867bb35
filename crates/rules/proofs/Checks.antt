-- What a list that passes the checks has, stage by stage.
use mathlib.Core.Path.{◌≡◌, refl, sym, ap, ◌∙◌, subst}
use mathlib.Core.Logic.{◌≢◌}
use Prim.Native.Nat.{ℕ, ◌+◌, ◌*◌, ◌/◌, ◌%◌, ◌<◌, ◌≤◌}
use native.Mathlib.Omega.{arith}
use native.Mathlib.Decide.{ℕ_discrete}
use mathlib.Core.Bool.{Bool, true, false, not, ◌&&◌, ◌||◌}
use mathlib.Core.List.{List}
use mathlib.Core.Option.{Option, none, some}
use lib.Dec.{T, T_not, eqb, ltb, leb, eqb→eq, nleb→lt, nltb→le}
use lib.Ieee.Fits.{and_i, eq→eqb}
use lib.ListN.{length, get_or, take}
use lib.Seq.{get_or-take, length-take-le}
use Rattle.lists.specs.Lists.{find, lowest, found}
use Rattle.rules.specs.Mesh.{onward, backward, corner, Side, side, sides, valence}
use Rattle.rules.specs.Refusals.{most_levels, most_in_cage, same, check, ◌or_else◌, when, either, has, equal_corners, same_set, used_before, parted, fans_of, shape_refusal, range_refusal, list_refusal, fan_refusal, size_refusal, refusal}
use Rattle.turns.specs.Turns.{most_valence}
use Rattle.rules.specs.Position.{Numbers}
use Rattle.rules.specs.declared.Refusal.{Refusal}
use Rattle.lists.proofs.Places.{find_none, lowest-none, not_found}
use Rattle.rules.proofs.Sides.{on-back, on-twice, on_below, Twins, length-sides, get_or-sides}
use Rattle.rules.proofs.Refine.{Good, Third, third, k0, k1, k2, back_below}

pub check-none : (k : ℕ) (o : Option ℕ) → check k o ≡ none → o ≡ none
check-none k none e = refl
check-none k (some i) e = absurd (let z : ◌≡◌ {A = ℕ} 0 1 = cc in omega arith)

pub or-none : (a b : Option Refusal) → a or_else b ≡ none → (a ≡ none) × (b ≡ none)
or-none none b e = (refl, e)
or-none (some r) b e = absurd (let z : ◌≡◌ {A = ℕ} 0 1 = cc in omega arith)

-- ---- what the failed tests say

either-none : (a b : Bool) → either a b ≡ none → T (not a) × T (not b)
either-none true b e = absurd (let z : ◌≡◌ {A = ℕ} 0 1 = cc in omega arith)
either-none false true e = absurd (let z : ◌≡◌ {A = ℕ} 0 1 = cc in omega arith)
either-none false false e = (tt, tt)

pub nor-l : (a b : Bool) → T (not (a || b)) → T (not a)
nor-l true b t = t
nor-l false b t = tt

pub nor-r : (a b : Bool) → T (not (a || b)) → T (not b)
nor-r true b t = absurd t
nor-r false b t = t

or_l : (a b : Bool) → T a → T (a || b)
or_l true b t = tt
or_l false b t = absurd t

or_r : (a b : Bool) → T b → T (a || b)
or_r true b t = tt
or_r false b t = t

pub not-not : (b : Bool) → T (not (not b)) → T b
not-not true t = tt
not-not false t = t

differ : (a b : ℕ) → T (not (eqb a b)) → a ≢ b
differ a b t e = T_not (eqb a b) t (eq→eqb e)

abbrev nowhere : Side
nowhere = record { from = 0; to = 0 }

module _ (fs : List ℕ) (n : ℕ) (size : length fs ≡ 3 * n) where
  apart-face : (f : ℕ) → T (not (equal_corners fs f)) → (corner fs (3 * f) ≢ corner fs (3 * f + 1)) × (corner fs (3 * f + 1) ≢ corner fs (3 * f + 2)) × (corner fs (3 * f + 2) ≢ corner fs (3 * f))
  apart-face f t =
      let a = corner fs (3 * f) in
      let b = corner fs (3 * f + 1) in
      let c = corner fs (3 * f + 2) in
      let l = nor-l (eqb a b || eqb b c) (eqb c a) t in
      (differ a b (nor-l (eqb a b) (eqb b c) l), differ b c (nor-r (eqb a b) (eqb b c) l), differ c a (nor-r (eqb a b || eqb b c) (eqb c a) t))

  pub apart-side : lowest (equal_corners fs) n ≡ none → (s : ℕ) → s < 3 * n → corner fs s ≢ corner fs (onward s)
  apart-side e s h = go (third s)
    where
      face : (f : ℕ) → f < n → (corner fs (3 * f) ≢ corner fs (3 * f + 1)) × (corner fs (3 * f + 1) ≢ corner fs (3 * f + 2)) × (corner fs (3 * f + 2) ≢ corner fs (3 * f))
      face f k = apart-face f (lowest-none (equal_corners fs) n e f k)

      go : Third s → corner fs s ≢ corner fs (onward s)
      go (k0 f q) w = let o : onward s ≡ 3 * f + 1 = omega arith in (face f (omega arith)).0 (ap (corner fs) (sym q) ∙ w ∙ ap (corner fs) o)
      go (k1 f q) w = let o : onward s ≡ 3 * f + 2 = omega arith in (face f (omega arith)).1 (ap (corner fs) (sym q) ∙ w ∙ ap (corner fs) o)
      go (k2 f q) w = let o : onward s ≡ 3 * f = omega arith in (face f (omega arith)).2 (ap (corner fs) (sym q) ∙ w ∙ ap (corner fs) o)

  -- an earlier side that is the same is found
  earlier : lowest (used_before (sides fs)) (3 * n) ≡ none → (s t : ℕ) → s < 3 * n → t < s → corner fs s ≡ corner fs t → corner fs (onward s) ≡ corner fs (onward t) → ⊥
  earlier e s t h k p q =
      let ss = sides fs in
      let u = not_found (find (same (get_or ss s nowhere)) (take s ss)) (lowest-none (used_before ss) (3 * n) e s h) in
      let ls : length (take s ss) ≡ s = length-take-le s ss (omega (arith, length-sides fs)) in
      let r = find_none (same (get_or ss s nowhere)) nowhere (take s ss) u t (omega arith) in
      let a : get_or (take s ss) t nowhere ≡ side fs t = get_or-take s ss t nowhere k ∙ get_or-sides fs t nowhere (omega arith) in
      let b : get_or ss s nowhere ≡ side fs s = get_or-sides fs s nowhere (omega arith) in
      T_not (same (side fs s) (side fs t)) (rw (a, b) at r) (and_i (eqb (corner fs s) (corner fs t)) (eqb (corner fs (onward s)) (corner fs (onward t))) (eq→eqb p) (eq→eqb q))

  pub unique-sides : lowest (used_before (sides fs)) (3 * n) ≡ none → (s t : ℕ) → s < 3 * n → t < 3 * n → corner fs s ≡ corner fs t → corner fs (onward s) ≡ corner fs (onward t) → s ≡ t
  unique-sides e s t h k p q =
      let x : ¬ (t < s) = λ l. earlier e s t h l p q in
      let y : ¬ (s < t) = λ l. earlier e t s k l (sym p) (sym q) in
      omega arith

  -- ---- corner sets

  -- a corner of the face of s is one of its corners
  pub has-corner : (f s : ℕ) → s / 3 ≡ f → T (has (corner fs (3 * f)) (corner fs (3 * f + 1)) (corner fs (3 * f + 2)) (corner fs s))
  has-corner f s e = go (third s)
    where
      a : ℕ
      a = corner fs (3 * f)

      b : ℕ
      b = corner fs (3 * f + 1)

      c : ℕ
      c = corner fs (3 * f + 2)

      x : ℕ
      x = corner fs s

      go : Third s → T (has (corner fs (3 * f)) (corner fs (3 * f + 1)) (corner fs (3 * f + 2)) (corner fs s))
      go (k0 k q) = let o : s ≡ 3 * f = omega arith in or_l (eqb x a || eqb x b) (eqb x c) (or_l (eqb x a) (eqb x b) (eq→eqb (ap (corner fs) o)))
      go (k1 k q) = let o : s ≡ 3 * f + 1 = omega arith in or_l (eqb x a || eqb x b) (eqb x c) (or_r (eqb x a) (eqb x b) (eq→eqb (ap (corner fs) o)))
      go (k2 k q) = let o : s ≡ 3 * f + 2 = omega arith in or_r (eqb x a || eqb x b) (eqb x c) (eq→eqb (ap (corner fs) o))

  -- what holds of the three corners of a face, from any of its sides
  three-of : (P : ℕ → Type 0) (t : ℕ) → P t → P (onward t) → P (backward t) → P (3 * (t / 3)) × P (3 * (t / 3) + 1) × P (3 * (t / 3) + 2)
  three-of P t a b c = go (third t)
    where
      go : Third t → P (3 * (t / 3)) × P (3 * (t / 3) + 1) × P (3 * (t / 3) + 2)
      go (k0 f q) =
          let x : t ≡ 3 * (t / 3) = omega arith in
          let y : onward t ≡ 3 * (t / 3) + 1 = omega arith in
          let z : backward t ≡ 3 * (t / 3) + 2 = omega arith in
          (subst P x a, subst P y b, subst P z c)
      go (k1 f q) =
          let x : t ≡ 3 * (t / 3) + 1 = omega arith in
          let y : onward t ≡ 3 * (t / 3) + 2 = omega arith in
          let z : backward t ≡ 3 * (t / 3) = omega arith in
          (subst P z c, subst P x a, subst P y b)
      go (k2 f q) =
          let x : t ≡ 3 * (t / 3) + 2 = omega arith in
          let y : onward t ≡ 3 * (t / 3) = omega arith in
          let z : backward t ≡ 3 * (t / 3) + 1 = omega arith in
          (subst P y b, subst P z c, subst P x a)

  -- the face of t has the corner set of the face of s
  pub set-of : (s t : ℕ) → corner fs t ≡ corner fs (onward s) → corner fs (onward t) ≡ corner fs s → corner fs (backward t) ≡ corner fs (backward s) → T (same_set fs (s / 3) (t / 3))
  set-of s t p q r =
      let f = s / 3 in
      let h : ℕ → Bool = λ y. has (corner fs (3 * f)) (corner fs (3 * f + 1)) (corner fs (3 * f + 2)) (corner fs y) in
      let k = three-of (λ y. T (h y)) t
      (rw p (has-corner f (onward s) (omega arith)))
      (rw q (has-corner f s refl))
      (rw r (has-corner f (backward s) (omega arith))) in
      let g = 3 * (t / 3) in
      and_i (h g && h (g + 1)) (h (g + 2)) (and_i (h g) (h (g + 1)) k.0 k.1) k.2

  module _ (apart : (s : ℕ) → s < 3 * n → corner fs s ≢ corner fs (onward s)) where
    -- two sides of one face are no twins
    one-face : (s t : ℕ) → s < 3 * n → t / 3 ≡ s / 3 → corner fs t ≡ corner fs (onward s) → corner fs (onward t) ≡ corner fs s → ⊥
    one-face s t h e p q = go0 (ℕ_discrete t s)
      where
        go2 : ¬ (t ≡ s) → ¬ (t ≡ onward s) → Dec (t ≡ backward s) → ⊥
        go2 a b (yes c) = apart (onward s) (on_below s n h) (sym p ∙ ap (corner fs) (c ∙ sym (on-twice s)))
        go2 a b (no c) = omega arith

        go1 : ¬ (t ≡ s) → Dec (t ≡ onward s) → ⊥
        go1 a (yes b) = apart (backward s) (back_below s n h) (ap (corner fs) (sym (on-twice s) ∙ ap onward (sym b)) ∙ q ∙ ap (corner fs) (sym (on-back s)))
        go1 a (no b) = go2 a b (ℕ_discrete t (backward s))

        go0 : Dec (t ≡ s) → ⊥
        go0 (yes a) = apart s h (ap (corner fs) (sym a) ∙ p)
        go0 (no a) = go1 a (ℕ_discrete t (onward s))

    module _ (e : lowest (λ f. found (lowest (same_set fs f) f)) n ≡ none) where
      no-earlier : (f k : ℕ) → f < n → k < f → T (same_set fs f k) → ⊥
      no-earlier f k h l t =
          T_not (same_set fs f k) (lowest-none (same_set fs f) f (not_found (lowest (same_set fs f) f) (lowest-none (λ f. found (lowest (same_set fs f) f)) n e f h)) k l) t

      pub unfolded-sides : (s t : ℕ) → s < 3 * n → Twins fs s t → corner fs (backward s) ≢ corner fs (backward t)
      unfolded-sides s t h w z =
          let ht : t < 3 * n = omega (arith, w.below) in
          let x : ¬ (t / 3 < s / 3) = λ l. no-earlier (s / 3) (t / 3) (omega arith) l (set-of s t w.from w.to (sym z)) in
          let y : ¬ (s / 3 < t / 3) = λ l. no-earlier (t / 3) (s / 3) (omega arith) l (set-of t s (sym w.to) (sym w.from) z) in
          one-face s t h (omega arith) w.from w.to

-- a face list that passes the checks 5 to 8 is good, before any verdict on its fans
pub good-list : (v : ℕ) (fs : List ℕ) → length fs % 3 ≡ 0 → list_refusal v fs ≡ none → Good v (length fs / 3) fs
unfolding list_refusal
good-list v fs m e =
    let n = length fs / 3 in
    let c5 = or-none _ _ e in
    let c6 = or-none _ _ c5.1 in
    let c7 = or-none _ _ c6.1 in
    let size : length fs ≡ 3 * n = omega arith in
    let apart = apart-side fs n size (check-none 6 _ c6.0) in
    record {
      size = size;
      below = λ s h. nleb→lt v (corner fs s) (find_none (λ u. leb v u) 0 fs (check-none 5 _ c5.0) s (omega arith));
      apart = apart;
      unique = unique-sides fs n size (check-none 7 _ c7.0);
      unfolded = unfolded-sides fs n size apart (check-none 8 _ c7.1);
    }

-- ---- the other stages

pub record Shape (l is cs : ℕ) : Type 0 where
  pub levels : l ≤ most_levels
  pub indices : is % 3 ≡ 0
  pub coords : cs % 3 ≡ 0
  pub faces : is / 3 ≤ most_in_cage
  pub verts : cs / 3 ≤ most_in_cage

pub when-none : (a : Bool) → when a ≡ none → T (not a)
when-none true e = absurd (let z : ◌≡◌ {A = ℕ} 0 1 = cc in omega arith)
when-none false e = tt

pub shape_of : (l is cs : ℕ) → shape_refusal l is cs ≡ none → Shape l is cs
unfolding shape_refusal
shape_of l is cs e =
    let c1 = or-none _ _ e in
    let c2 = or-none _ _ c1.1 in
    let two = either-none (not (eqb (is % 3) 0)) (not (eqb (cs % 3) 0)) (check-none 2 _ c2.0) in
    let three = either-none (ltb most_in_cage (is / 3)) (ltb most_in_cage (cs / 3)) (check-none 3 _ c2.1) in
    record {
      levels = nltb→le most_levels l (when-none (ltb most_levels l) (check-none 1 _ c1.0));
      indices = eqb→eq (is % 3) 0 (not-not (eqb (is % 3) 0) two.0);
      coords = eqb→eq (cs % 3) 0 (not-not (eqb (cs % 3) 0) two.1);
      faces = nltb→le most_in_cage (is / 3) three.0;
      verts = nltb→le most_in_cage (cs / 3) three.1;
    }

pub range-of : (𝓝 : Numbers) (xs : List 𝓝.N) → range_refusal 𝓝 xs ≡ none → (i : ℕ) → i < length xs → T (𝓝.allowed (get_or xs i 𝓝.nought))
unfolding range_refusal
range-of 𝓝 xs e i h = not-not (𝓝.allowed (get_or xs i 𝓝.nought)) (find_none (λ x. not (𝓝.allowed x)) 𝓝.nought xs (check-none 4 _ e) i h)

pub record Fans (v : ℕ) (fs : List ℕ) : Type 0 where
  pub used : (u : ℕ) → u < v → T (found (find (eqb u) fs))
  pub together : (u : ℕ) → u < v → T (not (parted fs (fans_of v fs) u))
  pub valences : (u : ℕ) → u < v → valence (fans_of v fs u) ≤ most_valence

pub fans-of : (v : ℕ) (fs : List ℕ) → fan_refusal v fs ≡ none → Fans v fs
unfolding fan_refusal
fans-of v fs e =
    let c9 = or-none _ _ e in
    let c10 = or-none _ _ c9.1 in
    record {
      used = λ u h. not-not (found (find (eqb u) fs)) (lowest-none (λ u. not (found (find (eqb u) fs))) v (check-none 9 _ c9.0) u h);
      together = lowest-none (parted fs (fans_of v fs)) v (check-none 10 _ c10.0);
      valences = λ u h. nltb→le most_valence (valence (fans_of v fs u)) (lowest-none (λ u. ltb most_valence (valence (fans_of v fs u))) v (check-none 12 _ c10.1) u h);
    }

pub record Stages (𝓝 : Numbers) (l : ℕ) (fs : List ℕ) (xs : List 𝓝.N) : Type 0 where
  pub shape : shape_refusal l (length fs) (length xs) ≡ none
  pub range : range_refusal 𝓝 xs ≡ none
  pub faces : list_refusal (length xs / 3) fs ≡ none
  pub fans : fan_refusal (length xs / 3) fs ≡ none
  pub size : size_refusal l (length xs / 3) fs ≡ none

pub stages-of : (𝓝 : Numbers) (l : ℕ) (fs : List ℕ) (xs : List 𝓝.N) → refusal 𝓝 l fs xs ≡ none → Stages 𝓝 l fs xs
unfolding refusal
stages-of 𝓝 l fs xs e =
    let a = or-none _ _ e in
    let b = or-none _ _ a.1 in
    let c = or-none _ _ b.1 in
    let d = or-none _ _ c.1 in
    record { shape = a.0; range = b.0; faces = c.0; fans = d.0; size = d.1 }
