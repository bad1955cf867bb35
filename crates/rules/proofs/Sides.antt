-- Sides of a face, and the side across each, found by search.
use mathlib.Core.Path.{◌≡◌, sym, ap, ◌∙◌}
use Prim.Native.Nat.{ℕ, ◌*◌, ◌<◌}
use native.Mathlib.Omega.{arith}
use mathlib.Core.List.{List}
use mathlib.Core.Option.{Option, none, some}
use lib.Dec.{T, not_T, eqb, eqb→eq}
use lib.Ieee.Fits.{and_i, and_l, and_r, eq→eqb}
use lib.ListN.{length, get_or, length-map}
use Rattle.lists.specs.Lists.{count, find}
pub use Rattle.rules.specs.Sound.{Twins}
use Rattle.rules.specs.Mesh.{onward, backward, corner, Side, side, sides, opposite, links}
use Rattle.lists.proofs.Places.{length-count, get_or-count, get_d_map, Found, find-is, find-some}

-- ---- the sides of a face

pub back_on : (s : ℕ) → backward (onward s) ≡ s
back_on s = omega arith

pub on-back : (s : ℕ) → onward (backward s) ≡ s
on-back s = omega arith

pub on-twice : (s : ℕ) → onward (onward s) ≡ backward s
on-twice s = omega arith

pub on-thrice : (s : ℕ) → onward (onward (onward s)) ≡ s
on-thrice s = ap onward (on-twice s) ∙ on-back s

pub on_below : (s n : ℕ) → s < 3 * n → onward s < 3 * n
on_below s n h = omega arith

-- ---- sides and links

abbrev off : Side
off = record { from = 0; to = 0 }

module _ (fs : List ℕ) where
  pub length-sides : length (sides fs) ≡ length fs
  length-sides = length-map (count 0 (length fs)) (side fs) ∙ length-count 0 (length fs)

  pub get_or-sides : (s : ℕ) (d : Side) → s < length fs → get_or (sides fs) s d ≡ side fs s
  get_or-sides s d h =
      get_d_map (side fs) (count 0 (length fs)) s 0 d (rw (length-count 0 (length fs)) h)
      ∙ ap (side fs) (get_or-count 0 (length fs) s 0 h ∙ omega arith)

  pub length-links : length (links fs) ≡ length fs
  unfolding links
  length-links = length-map (sides fs) (λ a. find (opposite a) (sides fs)) ∙ length-sides

  pub get_or-links : (s : ℕ) (o : Option ℕ) → s < length fs → get_or (links fs) s o ≡ find (opposite (side fs s)) (sides fs)
  unfolding links
  get_or-links s o h =
      get_d_map (λ a. find (opposite a) (sides fs)) (sides fs) s off o (rw length-sides h)
      ∙ ap (λ (a : Side). find (opposite a) (sides fs)) (get_or-sides s off h)

-- t runs the edge of s the other way
-- no directed side is used twice
abbrev pub Unique : List ℕ → Type 0
Unique fs = (s t : ℕ) → s < length fs → t < length fs → corner fs s ≡ corner fs t → corner fs (onward s) ≡ corner fs (onward t) → s ≡ t

opposite-yes : (a b : Side) → T (opposite a b) → (a.from ≡ b.to) × (a.to ≡ b.from)
opposite-yes a b t =
    let p = eqb a.from b.to in
    let q = eqb a.to b.from in
    (eqb→eq _ _ (and_l p q t), eqb→eq _ _ (and_r p q t))

opposite-no : (a b : Side) → (a.from ≡ b.to) → (a.to ≡ b.from) → T (opposite a b)
opposite-no a b p q = and_i (eqb a.from b.to) (eqb a.to b.from) (eq→eqb p) (eq→eqb q)

module _ (fs : List ℕ) where
  pub twin-some : (s t : ℕ) → s < length fs → get_or (links fs) s none ≡ some t → Twins fs s t
  twin-some s t h e =
      let f : Found (opposite (side fs s)) (sides fs) off t = find-some (opposite (side fs s)) off (sides fs) t (sym (get_or-links fs s none h) ∙ e) in
      let b : t < length fs = rw length-sides at f.below in
      let o = opposite-yes (side fs s) (side fs t) (rw (get_or-sides fs t off b) at f.passes) in
      record { below = b; from = sym o.1; to = sym o.0 }

  module _ (u : Unique fs) where
    pub twin-is : (s t : ℕ) → s < length fs → Twins fs s t → get_or (links fs) s none ≡ some t
    twin-is s t h w =
        get_or-links fs s none h
        ∙ find-is (opposite (side fs s)) off (sides fs) t
        (record {
          below = rw length-sides w.below;
          passes = rw (get_or-sides fs t off w.below) (opposite-no (side fs s) (side fs t) (sym w.to) (sym w.from));
          before = λ j l. rw (get_or-sides fs j off (omega (arith, w.below))) (not_T (opposite (side fs s) (side fs j)) (λ y. clash j l (opposite-yes (side fs s) (side fs j) y)));
        })
      where
        clash : (j : ℕ) → j < t → (corner fs s ≡ corner fs (onward j)) × (corner fs (onward s) ≡ corner fs j) → ⊥
        clash j l o =
            let e : j ≡ t = u j t (omega (arith, w.below)) w.below (sym o.1 ∙ sym w.from) (sym o.0 ∙ sym w.to) in
            omega arith

    pub twin-back : (s t : ℕ) → s < length fs → get_or (links fs) s none ≡ some t → get_or (links fs) t none ≡ some s
    twin-back s t h e =
        let w = twin-some s t h e in
        twin-is t s w.below (record { below = h; from = sym w.to; to = sym w.from })
