-- The side across, found along a chain; and what check 8 asks, through the link of a face's side 0.
use mathlib.Core.Path.{◌≡◌, refl, sym, ap, ◌∙◌}
use mathlib.Core.Logic.{◌≢◌}
use Prim.Native.Nat.{ℕ, ◌+◌, ◌*◌, ◌/◌, ◌≤◌, ◌<◌}
use native.Mathlib.Omega.{arith}
use mathlib.Core.Bool.{Bool, true, false, ◌&&◌}
use mathlib.Core.List.{List, map}
use mathlib.Core.Option.{Option, none, some}
use lib.Dec.{T, T_not, eqb, ltb, eqb→eq, ltb→lt, lt→ltb}
use lib.Ieee.Fits.{and_i, and_l, and_r, eq→eqb}
use lib.ListN.{length, get_or, take, length-map}
use lib.Seq.{sets, get_or-take}
use Rattle.lists.specs.Lists.{count, lowest, found}
use Rattle.lists.proofs.Places.{length-count, get_or-count, get_d_map, find-some, lowest-none}
use Rattle.lists.proofs.Stores.{part_of}
use Rattle.rules.specs.Mesh.{onward, backward, corner, links}
use Rattle.rules.specs.Refusals.{has, same_set}
use Rattle.rules.proofs.Sides.{length-links, Twins, Unique, twin-some, twin-is}
use Rattle.rules.proofs.Refine.{Third, third, k0, k1, k2}
use Rattle.rules.proofs.Checks.{set-of}
use Rattle.rules.proofs.Faces.{Turn, turn, same, on, back, OnFace, has-at}
use Rattle.faces.specs.Words.{link_of, coded}
use Rattle.cage.specs.Chains.{last_below, folds_back, runs}
use Rattle.cage.proofs.Chains.{last-at, last-nowhere}

pub true_of : (b : Bool) → T b → b ≡ true
true_of true t = refl
true_of false t = absurd t

pub false_of : (b : Bool) → (T b → ⊥) → b ≡ false
false_of true f = absurd (f tt)
false_of false f = refl

-- ---- the link word

module _ (fs : List ℕ) (u : Unique fs) (s : ℕ) (h : s < length fs) where
  twins-run : (t : ℕ) → Twins fs s t → runs fs (corner fs (onward s)) (corner fs s) t ≡ true
  twins-run t w = true_of _ (and_i (eqb (corner fs (onward s)) (corner fs t)) (eqb (corner fs s) (corner fs (onward t))) (eq→eqb (sym w.from)) (eq→eqb (sym w.to)))

  run-twins : (t : ℕ) → t < length fs → T (runs fs (corner fs (onward s)) (corner fs s) t) → Twins fs s t
  run-twins t l r =
      let a = eqb (corner fs (onward s)) (corner fs t) in
      let b = eqb (corner fs s) (corner fs (onward t)) in
      record { below = l; from = sym (eqb→eq _ _ (and_l a b r)); to = sym (eqb→eq _ _ (and_r a b r)) }

  pub link-word : coded (get_or (links fs) s none) ≡ last_below (runs fs (corner fs (onward s)) (corner fs s)) (length fs)
  link-word = go (get_or (links fs) s none) refl
    where
      is : (t k : ℕ) → get_or (links fs) s none ≡ some t → k < length fs → T (runs fs (corner fs (onward s)) (corner fs s) k) → k ≡ t
      is t k e l r = let z = twin-is fs u s k h (run-twins k l r) in cc

      go : (o : Option ℕ) → get_or (links fs) s none ≡ o → coded o ≡ last_below (runs fs (corner fs (onward s)) (corner fs s)) (length fs)
      go none e = sym (last-nowhere (runs fs (corner fs (onward s)) (corner fs s)) (length fs) (λ j l. false_of _ (λ r.
          let z = twin-is fs u s j h (run-twins j l r) in let y : ◌≡◌ {A = ℕ} 0 1 = cc in omega arith)))
      go (some t) e =
          let w = twin-some fs s t h e in
          sym (last-at (runs fs (corner fs (onward s)) (corner fs s)) (length fs) t w.below (twins-run t w) (λ j a l. false_of _ (λ r. let z = is t j e l r in omega arith)))

-- ---- words that hold the links

pub link-coded : (o : Option ℕ) → link_of (coded o) ≡ o
link-coded none = refl
link-coded (some t) = refl

pub length-words : (fs : List ℕ) → length (map coded (links fs)) ≡ length fs
length-words fs = length-map (links fs) coded ∙ length-links fs

pub coded-at : (fs : List ℕ) (s : ℕ) → s < length fs → get_or (map coded (links fs)) s 0 ≡ coded (get_or (links fs) s none)
coded-at fs s h = get_d_map coded (links fs) s none 0 (rw (length-links fs) h)

pub coded-le : (fs : List ℕ) (s : ℕ) → s < length fs → coded (get_or (links fs) s none) ≤ length fs
coded-le fs s h = go (get_or (links fs) s none) refl
  where
    go : (o : Option ℕ) → get_or (links fs) s none ≡ o → coded o ≤ length fs
    go none e = omega arith
    go (some t) e = (twin-some fs s t h e).below

-- as they stand after they were stored
pub words-stored : (fs l w : List ℕ) → length fs ≤ length l → w ≡ sets l 0 (map coded (links fs)) → take (length fs) w ≡ map coded (links fs)
words-stored fs l w h e = ap (take (length fs)) e ∙ part_of (map coded (links fs)) l 0 (length fs) (length-words fs) (omega arith)

module _ (fs w : List ℕ) (e : take (length fs) w ≡ map coded (links fs)) where
  pub word-at : (s : ℕ) → s < length fs → get_or w s 0 ≡ coded (get_or (links fs) s none)
  word-at s h = sym (get_or-take (length fs) w s 0 h) ∙ ap (λ (l : List ℕ). get_or l s 0) e ∙ coded-at fs s h

  pub word-le : (s : ℕ) → s < length fs → get_or w s 0 ≤ length fs
  word-le s h = rw (word-at s h) (coded-le fs s h)

-- ---- check 8, of faces whose corners differ and whose sides are used once

record Reversed (fs : List ℕ) (f g : ℕ) : Type 0 where
  at : ℕ
  twins : Twins fs (3 * f) at
  face : at / 3 ≡ g
  far : corner fs (backward at) ≡ corner fs (3 * f + 2)

module _ (fs : List ℕ) (n : ℕ) (size : length fs ≡ 3 * n) (apart : (s : ℕ) → s < 3 * n → corner fs s ≢ corner fs (onward s)) (u : Unique fs) where
  -- an other face of the same corner set goes round the other way
  reversed : (f g : ℕ) → f < n → g < n → g ≢ f → T (same_set fs f g) → Reversed fs f g
  reversed f g hf hg d t =
      let a = corner fs (3 * f) in
      let b = corner fs (3 * f + 1) in
      let c = corner fs (3 * f + 2) in
      let x = has a b c (corner fs (3 * g)) in
      let y = has a b c (corner fs (3 * g + 1)) in
      let z = has a b c (corner fs (3 * g + 2)) in
      let p = and_l (x && y) z t in
      go (has-at fs f _ (and_l x y p)) (has-at fs f _ (and_r x y p)) (has-at fs f _ (and_r (x && y) z t))
    where
      o0 : onward (3 * g) ≡ 3 * g + 1
      o0 = omega arith

      o1 : onward (3 * g + 1) ≡ 3 * g + 2
      o1 = omega arith

      o2 : onward (3 * g + 2) ≡ 3 * g
      o2 = omega arith

      go : OnFace fs f (corner fs (3 * g)) → OnFace fs f (corner fs (3 * g + 1)) → OnFace fs f (corner fs (3 * g + 2)) → Reversed fs f g
      go p q r = first (turn s q.at (q.face ∙ sym p.face))
        where
          s : ℕ
          s = p.at

          round : q.at ≡ backward s → r.at ≡ onward s → Third s → Reversed fs f g
          round eq er (k0 k e) =
              let z : s ≡ 3 * f = omega (arith, p.face) in
              let b : backward (3 * f) ≡ 3 * f + 2 = omega arith in
              let y : backward (3 * g + 2) ≡ 3 * g + 1 = omega arith in
              record {
                at = 3 * g + 2;
                twins = record {
                  below = omega arith;
                  from = sym r.is ∙ ap (corner fs) (er ∙ ap onward z);
                  to = ap (corner fs) o2 ∙ sym p.is ∙ ap (corner fs) z;
                };
                face = omega arith;
                far = ap (corner fs) y ∙ sym q.is ∙ ap (corner fs) (eq ∙ ap backward z ∙ b);
              }
          round eq er (k1 k e) =
              let z : s ≡ 3 * f + 1 = omega (arith, p.face) in
              let a : onward (3 * f) ≡ 3 * f + 1 = omega arith in
              let b : backward (3 * f + 1) ≡ 3 * f = omega arith in
              let c : onward (3 * f + 1) ≡ 3 * f + 2 = omega arith in
              let y : backward (3 * g) ≡ 3 * g + 2 = omega arith in
              record {
                at = 3 * g;
                twins = record {
                  below = omega arith;
                  from = sym p.is ∙ ap (corner fs) (z ∙ sym a);
                  to = ap (corner fs) o0 ∙ sym q.is ∙ ap (corner fs) (eq ∙ ap backward z ∙ b);
                };
                face = omega arith;
                far = ap (corner fs) y ∙ sym r.is ∙ ap (corner fs) (er ∙ ap onward z ∙ c);
              }
          round eq er (k2 k e) =
              let z : s ≡ 3 * f + 2 = omega (arith, p.face) in
              let a : onward (3 * f) ≡ 3 * f + 1 = omega arith in
              let b : backward (3 * f + 2) ≡ 3 * f + 1 = omega arith in
              let c : onward (3 * f + 2) ≡ 3 * f = omega arith in
              let y : backward (3 * g + 1) ≡ 3 * g = omega arith in
              record {
                at = 3 * g + 1;
                twins = record {
                  below = omega arith;
                  from = sym q.is ∙ ap (corner fs) (eq ∙ ap backward z ∙ b ∙ sym a);
                  to = ap (corner fs) o1 ∙ sym r.is ∙ ap (corner fs) (er ∙ ap onward z ∙ c);
                };
                face = omega arith;
                far = ap (corner fs) y ∙ sym p.is ∙ ap (corner fs) z;
              }

          second : q.at ≡ backward s → Turn s r.at → Reversed fs f g
          second e (same z) = absurd (apart (3 * g + 2) (omega arith) (sym r.is ∙ ap (corner fs) z ∙ p.is ∙ ap (corner fs) (sym o2)))
          second e (back z) = absurd (apart (3 * g + 1) (omega arith) (sym q.is ∙ ap (corner fs) (e ∙ sym z) ∙ r.is ∙ ap (corner fs) (sym o1)))
          second e (on z) = round e z (third s)

          first : Turn s q.at → Reversed fs f g
          first (same e) = absurd (apart (3 * g) (omega arith) (sym p.is ∙ ap (corner fs) (sym e) ∙ q.is ∙ ap (corner fs) (sym o0)))
          first (on e) =
              let z : s ≡ 3 * g = u s (3 * g) (omega (arith, p.face)) (omega arith) p.is (ap (corner fs) (sym e) ∙ q.is ∙ ap (corner fs) (sym o0)) in
              absurd (d (omega (arith, p.face)))
          first (back e) = second e (turn s r.at (r.face ∙ sym p.face))

  pub folds_is : (f : ℕ) → f < n → found (lowest (same_set fs f) f) ≡ folds_back fs f (get_or (links fs) (3 * f) none)
  folds_is f h = go (lowest (same_set fs f) f) refl
    where
      b : 3 * f < length fs
      b = omega arith

      alone : (o : Option ℕ) → get_or (links fs) (3 * f) none ≡ o → lowest (same_set fs f) f ≡ none → false ≡ folds_back fs f o
      alone none e k = refl
      alone (some t) e k = sym (false_of _ (λ y.
          let w = twin-some fs (3 * f) t b e in
          let l = ltb→lt t (3 * f) (and_l (ltb t (3 * f)) (eqb (corner fs (backward t)) (corner fs (3 * f + 2))) y) in
          let x = eqb→eq (corner fs (backward t)) (corner fs (3 * f + 2)) (and_r (ltb t (3 * f)) (eqb (corner fs (backward t)) (corner fs (3 * f + 2))) y) in
          let z : backward (3 * f) ≡ 3 * f + 2 = omega arith in
          let e3 : 3 * f / 3 ≡ f = omega arith in
          let m = set-of fs n size (3 * f) t w.from w.to (x ∙ ap (corner fs) (sym z)) in
          T_not (same_set fs f (t / 3)) (lowest-none (same_set fs f) f k (t / 3) (omega arith)) (rw e3 at m)))

      go : (o : Option ℕ) → lowest (same_set fs f) f ≡ o → found o ≡ folds_back fs f (get_or (links fs) (3 * f) none)
      go none e = alone (get_or (links fs) (3 * f) none) refl e
      go (some g) e =
          let w = find-some (same_set fs f) 0 (count 0 f) g e in
          let l : g < f = rw (length-count 0 f) at w.below in
          let q : get_or (count 0 f) g 0 ≡ g = get_or-count 0 f g 0 l ∙ omega arith in
          let r = reversed f g h (omega arith) (λ z. omega arith) (rw q at w.passes) in
          let k = twin-is fs u (3 * f) r.at b r.twins in
          sym (ap (folds_back fs f) k ∙ true_of _ (and_i (ltb r.at (3 * f)) (eqb (corner fs (backward r.at)) (corner fs (3 * f + 2))) (lt→ltb r.at (3 * f) (omega (arith, r.face))) (eq→eqb r.far)))
