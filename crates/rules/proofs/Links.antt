-- The links of the refined mesh, from the old ones.
use mathlib.Core.Path.{◌≡◌, refl, sym, ap, ◌∙◌}
use Prim.Native.Nat.{ℕ, ◌+◌, ◌*◌, ◌<◌}
use native.Mathlib.Omega.{arith}
use mathlib.Core.List.{List}
use mathlib.Core.Option.{Option, none, some}
use lib.ListN.{length, get_or}
use Rattle.rules.specs.Mesh.{onward, backward, corner, links, through, restart, fourth}
use Rattle.rules.proofs.Sides.{back_on, on-back, on-twice, on_below, Twins, twin-some}
use Rattle.rules.proofs.Refine.{Good, Shares, itself, across, finer_of, mid_of, good-finer, Kind, first, second, cut, core, kind, link-is, twins-sym, middle-twin, middle-shares, old-new, ab, at-restart, at_onward, at-backward, at-fourth, on-fourth, outside, inside, length-finer, back_below}

-- the two halves of a side, and the place of each in the refined mesh
abbrev pub half1 : ℕ → ℕ
half1 s = restart s

abbrev pub half2 : ℕ → ℕ
half2 s = backward (restart (onward s))

pub restart-below : (s n : ℕ) → s < 3 * n → restart s < 3 * (4 * n)
restart-below s n h = omega arith

pub fourth-below : (s n : ℕ) → s < 3 * n → fourth s < 3 * (4 * n)
fourth-below s n h = omega arith

none-some : {X : Type 0} {i : ℕ} → none ≡ some i → X
none-some e = absurd (let z : ◌≡◌ {A = ℕ} 0 1 = cc in omega arith)

module _ (v n : ℕ) (fs : List ℕ) (g : Good v n fs) where
  in-fine : {x : ℕ} → x < 3 * (4 * n) → x < length (finer_of v n fs)
  in-fine h = omega (arith, length-finer v n fs g)

  -- the link of x is y where y runs the other way
  fine-is : (x y : ℕ) → x < 3 * (4 * n) → Twins (finer_of v n fs) x y → get_or (links (finer_of v n fs)) x none ≡ some y
  fine-is x y h w = link-is (v + _) (4 * n) (finer_of v n fs) (good-finer v n fs g) x y h w

  pub link-cut : (s : ℕ) → s < 3 * n → get_or (links (finer_of v n fs)) (onward (restart s)) none ≡ some (fourth (backward s))
  link-cut s h =
      let b = back_below s n h in
      fine-is (onward (restart s)) (fourth (backward s)) (on_below (restart s) (4 * n) (restart-below s n h))
      (record {
        below = in-fine (fourth-below (backward s) n b);
        from = at-fourth v n fs g (backward s) b ∙ sym (at-backward v n fs g s h) ∙ ap (corner (finer_of v n fs)) (sym (on-twice (restart s)));
        to = ap (corner (finer_of v n fs)) (on-fourth (backward s) ∙ ap fourth (on-back s)) ∙ at-fourth v n fs g s h ∙ sym (at_onward v n fs g s h);
      })

  pub link-core : (s : ℕ) → s < 3 * n → get_or (links (finer_of v n fs)) (fourth s) none ≡ some (onward (restart (onward s)))
  link-core s h =
      let o = on_below s n h in
      fine-is (fourth s) (onward (restart (onward s))) (fourth-below s n h)
      (record {
        below = in-fine (on_below (restart (onward s)) (4 * n) (restart-below (onward s) n o));
        from = at_onward v n fs g (onward s) o ∙ sym (at-fourth v n fs g (onward s) o) ∙ ap (corner (finer_of v n fs)) (sym (on-fourth s));
        to = ap (corner (finer_of v n fs)) (on-twice (restart (onward s))) ∙ at-backward v n fs g (onward s) o ∙ ap (mid_of v fs) (back_on s) ∙ sym (at-fourth v n fs g s h);
      })

  -- what the ends of the halves are
  pub half2-from : (t : ℕ) → t < 3 * n → corner (finer_of v n fs) (half2 t) ≡ mid_of v fs t
  half2-from t h = at-backward v n fs g (onward t) (on_below t n h) ∙ ap (mid_of v fs) (back_on t)

  pub half2-to : (t : ℕ) → t < 3 * n → corner (finer_of v n fs) (onward (half2 t)) ≡ corner fs (onward t)
  half2-to t h = ap (corner (finer_of v n fs)) (on-back (restart (onward t))) ∙ at-restart v n fs g (onward t) (on_below t n h)

  pub half2-below : (t : ℕ) → t < 3 * n → half2 t < 3 * (4 * n)
  half2-below t h = back_below (restart (onward t)) (4 * n) (restart-below (onward t) n (on_below t n h))

  halves : (s t : ℕ) → s < 3 * n → t < 3 * n → Twins fs s t → Twins (finer_of v n fs) (half1 s) (half2 t)
  halves s t h k w = record {
    below = in-fine (half2-below t k);
    from = half2-from t k ∙ sym (middle-twin v n fs g s t h w) ∙ sym (at_onward v n fs g s h);
    to = half2-to t k ∙ w.to ∙ sym (at-restart v n fs g s h);
  }

  -- a rim side has rim halves
  lone1 : (s y : ℕ) → s < 3 * n → get_or (links fs) s none ≡ none → Twins (finer_of v n fs) (half1 s) y → Kind v n fs g y → ⊥
  lone1 s y h e w (first t k f q) = old-new v n fs g s t h (sym (at-restart v n fs g s h) ∙ sym w.to ∙ q.to)
  lone1 s y h e w (second t k f q) =
      go (middle-shares v n fs g s t h k (sym (at_onward v n fs g s h) ∙ sym w.from ∙ q.from))
    where
      go : Shares fs s t → ⊥
      go (itself p) = ab v n fs g s h (sym (at-restart v n fs g s h) ∙ sym w.to ∙ q.to ∙ ap (λ (z : ℕ). corner fs (onward z)) p)
      go (across x) = none-some (sym e ∙ link-is v n fs g s t h x)
  lone1 s y h e w (cut t k f q) = old-new v n fs g s (backward t) h (sym (at-restart v n fs g s h) ∙ sym w.to ∙ q.to)
  lone1 s y h e w (core t k f q) = old-new v n fs g s (onward t) h (sym (at-restart v n fs g s h) ∙ sym w.to ∙ q.to)

  lone2 : (s y : ℕ) → s < 3 * n → get_or (links fs) s none ≡ none → Twins (finer_of v n fs) (half2 s) y → Kind v n fs g y → ⊥
  lone2 s y h e w (first t k f q) =
      go (middle-shares v n fs g s t h k (sym (half2-from s h) ∙ sym w.to ∙ q.to))
    where
      go : Shares fs s t → ⊥
      go (itself p) = ab v n fs g s h (ap (corner fs) (sym p) ∙ sym q.from ∙ w.from ∙ half2-to s h)
      go (across x) = none-some (sym e ∙ link-is v n fs g s t h x)
  lone2 s y h e w (second t k f q) = old-new v n fs g (onward s) t (on_below s n h) (sym (half2-to s h) ∙ sym w.from ∙ q.from)
  lone2 s y h e w (cut t k f q) = old-new v n fs g (onward s) t (on_below s n h) (sym (half2-to s h) ∙ sym w.from ∙ q.from)
  lone2 s y h e w (core t k f q) = old-new v n fs g (onward s) t (on_below s n h) (sym (half2-to s h) ∙ sym w.from ∙ q.from)

  -- what has no link
  alone : (x : ℕ) → x < 3 * (4 * n) → ((y : ℕ) → Twins (finer_of v n fs) x y → Kind v n fs g y → ⊥) → get_or (links (finer_of v n fs)) x none ≡ none
  alone x h never = go (get_or (links (finer_of v n fs)) x none) refl
    where
      go : (o : Option ℕ) → get_or (links (finer_of v n fs)) x none ≡ o → o ≡ none
      go none e = refl
      go (some y) e =
          let w = twin-some (finer_of v n fs) x y (in-fine h) e in
          absurd (never y w (kind v n fs g y (omega (arith, w.below, length-finer v n fs g))))

  pub link-half1 : (s : ℕ) → s < 3 * n → get_or (links (finer_of v n fs)) (half1 s) none ≡ through half2 (get_or (links fs) s none)
  link-half1 s h = go (get_or (links fs) s none) refl
    where
      go : (o : Option ℕ) → get_or (links fs) s none ≡ o → get_or (links (finer_of v n fs)) (half1 s) none ≡ through half2 o
      go none e = alone (half1 s) (restart-below s n h) (λ y w k. lone1 s y h e w k)
      go (some t) e =
          let w = twin-some fs s t (inside v n fs g h) e in
          fine-is (half1 s) (half2 t) (restart-below s n h) (halves s t h (outside v n fs g w.below) w)

  pub link-half2 : (s : ℕ) → s < 3 * n → get_or (links (finer_of v n fs)) (half2 s) none ≡ through half1 (get_or (links fs) s none)
  link-half2 s h = go (get_or (links fs) s none) refl
    where
      go : (o : Option ℕ) → get_or (links fs) s none ≡ o → get_or (links (finer_of v n fs)) (half2 s) none ≡ through half1 o
      go none e = alone (half2 s) (half2-below s h) (λ y w k. lone2 s y h e w k)
      go (some t) e =
          let w = twin-some fs s t (inside v n fs g h) e in
          let k = outside v n fs g w.below in
          let z = halves t s k h (twins-sym v n fs g s t h w) in
          fine-is (half2 s) (half1 t) (half2-below s h) (record { below = in-fine (restart-below t n k); from = sym z.to; to = sym z.from })
