-- What a good mesh says of two faces.
use mathlib.Core.Path.{◌≡◌, sym, ap, ◌∙◌}
use mathlib.Core.Logic.{◌≢◌}
use Prim.Native.Nat.{ℕ, ◌+◌, ◌*◌, ◌/◌, ◌<◌}
use native.Mathlib.Omega.{arith}
use native.Mathlib.Decide.{ℕ_discrete}
use mathlib.Core.Bool.{Bool, true, false, ◌||◌}
use mathlib.Core.List.{List}
use mathlib.Core.Option.{none, some}
use lib.Dec.{T, eqb, eqb→eq}
use lib.ListN.{get_or}
use Rattle.rules.specs.Mesh.{onward, backward, corner, links}
use Rattle.rules.specs.Refusals.{has}
use Rattle.rules.proofs.Sides.{on-back, on-twice, Twins, twin-some, twin-back}
use Rattle.rules.proofs.Refine.{Good, inside, outside, uniq, back_below, ab, bc, ca}

-- the sides of one face
pub data Turn (s t : ℕ) : Type 0 where
  same : t ≡ s → Turn s t
  on : t ≡ onward s → Turn s t
  back : t ≡ backward s → Turn s t

pub turn : (s t : ℕ) → t / 3 ≡ s / 3 → Turn s t
turn s t e = go0 (ℕ_discrete t s)
  where
    go2 : ¬ (t ≡ s) → ¬ (t ≡ onward s) → Dec (t ≡ backward s) → Turn s t
    go2 a b (yes c) = back c
    go2 a b (no c) = absurd (omega arith)

    go1 : ¬ (t ≡ s) → Dec (t ≡ onward s) → Turn s t
    go1 a (yes b) = on b
    go1 a (no b) = go2 a b (ℕ_discrete t (backward s))

    go0 : Dec (t ≡ s) → Turn s t
    go0 (yes a) = same a
    go0 (no a) = go1 a (ℕ_discrete t (onward s))

-- x is the corner of a side of face f
pub record OnFace (fs : List ℕ) (f x : ℕ) : Type 0 where
  pub at : ℕ
  pub face : at / 3 ≡ f
  pub is : corner fs at ≡ x

or_cases : (a b : Bool) {X : Type 0} → T (a || b) → (T a → X) → (T b → X) → X
or_cases true b t f g = f t
or_cases false b t f g = g t

pub has-at : (fs : List ℕ) (f x : ℕ) → T (has (corner fs (3 * f)) (corner fs (3 * f + 1)) (corner fs (3 * f + 2)) x) → OnFace fs f x
has-at fs f x t =
    let a = corner fs (3 * f) in
    let b = corner fs (3 * f + 1) in
    let c = corner fs (3 * f + 2) in
    or_cases (eqb x a || eqb x b) (eqb x c) t
    (λ u. or_cases (eqb x a) (eqb x b) u
    (λ w. record { at = 3 * f; face = omega arith; is = sym (eqb→eq x a w) })
    (λ w. record { at = 3 * f + 1; face = omega arith; is = sym (eqb→eq x b w) }))
    (λ w. record { at = 3 * f + 2; face = omega arith; is = sym (eqb→eq x c w) })

module _ (v n : ℕ) (fs : List ℕ) (g : Good v n fs) where
  -- a face has a vertex once
  pub one-corner : (s t : ℕ) → s < 3 * n → t / 3 ≡ s / 3 → corner fs s ≡ corner fs t → s ≡ t
  one-corner s t h e q = go (turn s t e)
    where
      go : Turn s t → s ≡ t
      go (same p) = sym p
      go (on p) = absurd (ab v n fs g s h (q ∙ ap (corner fs) p))
      go (back p) = absurd (ca v n fs g s h (q ∙ ap (corner fs) p))

  -- no face is its own neighbour
  pub no_self : (s t : ℕ) → s < 3 * n → Twins fs s t → t / 3 ≢ s / 3
  no_self s t h w e = go (turn s t e)
    where
      go : Turn s t → ⊥
      go (same p) = ab v n fs g s h (ap (corner fs) (sym p) ∙ w.from)
      go (on p) = ca v n fs g s h (sym w.to ∙ ap (λ (z : ℕ). corner fs (onward z)) p ∙ ap (corner fs) (on-twice s))
      go (back p) = bc v n fs g s h (sym w.from ∙ ap (corner fs) p)

  -- the link of a link
  pub link-link : (s t : ℕ) → s < 3 * n → get_or (links fs) s none ≡ some t → get_or (links fs) t none ≡ some s
  link-link s t h e = twin-back fs (uniq v n fs g) s t (inside v n fs g h) e

  pub link-below : (s t : ℕ) → s < 3 * n → get_or (links fs) s none ≡ some t → t < 3 * n
  link-below s t h e = outside v n fs g (twin-some fs s t (inside v n fs g h) e).below

  pub link-twins : (s t : ℕ) → s < 3 * n → get_or (links fs) s none ≡ some t → Twins fs s t
  link-twins s t h e = twin-some fs s t (inside v n fs g h) e

  -- two sides of a face lead to two faces: one after the other
  two_edges : (s t b : ℕ) → s < 3 * n → Twins fs s t → Twins fs (onward s) b → b / 3 ≢ t / 3
  two_edges s t b h w x e = go (turn t b e)
    where
      ht : t < 3 * n
      ht = outside v n fs g w.below

      go : Turn t b → ⊥
      go (same p) = ca v n fs g s h (sym w.to ∙ ap (λ (z : ℕ). corner fs (onward z)) (sym p) ∙ x.to ∙ sym w.from ∙ ap (corner fs) (sym p) ∙ x.from ∙ ap (corner fs) (on-twice s))
      go (on p) = ca v n fs g s h (sym w.to ∙ ap (corner fs) (sym p) ∙ x.from ∙ ap (corner fs) (on-twice s))
      go (back p) = g.unfolded s t h w (ap (corner fs) (sym (on-twice s)) ∙ sym x.from ∙ ap (corner fs) p)

  -- two faces share one edge at most
  pub one-edge : (s t a b : ℕ) → s < 3 * n → Twins fs s t → Twins fs a b → a / 3 ≡ s / 3 → b / 3 ≡ t / 3 → a ≡ s
  one-edge s t a b h w x e f = go (turn s a e)
    where
      go : Turn s a → a ≡ s
      go (same p) = p
      go (on p) = absurd (two_edges s t b h w (rw p at x) f)
      go (back p) =
          let q : s ≡ onward a = sym (ap onward p ∙ on-back s) in
          absurd (two_edges a b t (rw p (back_below s n h)) x (rw q at w) (sym f))
