-- The fan of an edge vertex has six corners inside and three at the rim: valence 6 and 4.
use mathlib.Core.Path.{◌≡◌, refl, sym, ap, ◌∙◌}
use mathlib.Core.Logic.{◌≢◌}
use Prim.Native.Nat.{ℕ, suc, ◌+◌, ◌-◌, ◌*◌, ◌/◌, ◌%◌, ◌<◌}
use native.Mathlib.Omega.{arith}
use mathlib.Core.List.{List, [], ◌∷◌}
use mathlib.Core.Option.{Option, none, some}
use lib.Dec.{eqb}
use lib.Ieee.Fits.{eq→eqb}
use lib.ListN.{length, get_or}
use Rattle.lists.specs.Lists.{last_of}
use Rattle.rules.specs.Mesh.{onward, backward, links, restart, fourth, Step, home, off, here, closed, ended, Walk, stop, past, walk, passed, stop_of, step_to, next_corner, prev_corner, inner, rim, rim_fan, fan_of, fan}
use Rattle.rules.proofs.Sides.{back_on, on-back, on-twice, on_below, length-links}
use Rattle.rules.proofs.Refine.{Good, finer_of, length-finer, back_below, back-twice, on-fourth, back-fourth}
use Rattle.rules.proofs.Links.{half2, link-half1, link-half2, link-cut, link-core}
use Rattle.rules.proofs.Faces.{no_self, link-link, link-below, link-twins}
use Rattle.rules.proofs.Fans.{walk-home, walk-rim, eqb-false, T_true}

-- ---- one step of a walk

step-here : (h x : ℕ) → x ≢ h → step_to h (some x) ≡ here x
step-here h x f = rw (eqb-false x h f) refl

step-home : (h x : ℕ) → x ≡ h → step_to h (some x) ≡ home
step-home h x e = rw (T_true (eqb x h) (eq→eqb e)) refl

-- where a walk goes
record Goes (next : ℕ → Step) (k : ℕ) (st : Step) (w : Walk) : Type 0 where
  is : walk next k st ≡ w

walk-past : {next : ℕ → Step} {k s x : ℕ} {w : Walk} → next s ≡ here x → Goes next k (here x) w → Goes next (suc k) (here s) (past s w)
walk-past {next} {k} {s} e q = record { is = ap (λ (st : Step). past s (walk next k st)) e ∙ ap (past s) q.is }

walk-closed : {next : ℕ → Step} {k s : ℕ} → next s ≡ home → Goes next (suc k) (here s) (past s (stop closed))
walk-closed {next} {k} {s} e = record { is = ap (λ (st : Step). past s (walk next k st)) e ∙ ap (past s) (walk-home next k) }

walk-ended : {next : ℕ → Step} {k s : ℕ} → next s ≡ off → Goes next (suc k) (here s) (past s (stop ended))
walk-ended {next} {k} {s} e = record { is = ap (λ (st : Step). past s (walk next k st)) e ∙ ap (past s) (walk-rim next k) }

fan-by : (ls : List (Option ℕ)) (s n : ℕ) {w : Walk} → length ls / 3 ≡ n → Goes (next_corner ls s) n (here s) w → fan ls s ≡ fan_of ls n (passed w) (stop_of w)
unfolding fan
fan-by ls s n e q = rw (e, q.is)

rim-by : (ls : List (Option ℕ)) (n : ℕ) (cs : List ℕ) {w : Walk} → Goes (prev_corner ls (last_of 0 cs)) n (here (last_of 0 cs)) w → fan_of ls n cs ended ≡ rim_fan (passed w) (stop_of w)
rim-by ls n cs q = rw q.is

-- ---- the fourth child is none of the others

children-apart : (q r p : ℕ) → r < 3 → 4 * q + r ≢ 4 * p + 3
children-apart q r p h e = omega arith

child-apart : (s t : ℕ) → restart s / 3 ≢ fourth t / 3
child-apart s t e =
    let a : restart s / 3 ≡ 4 * (s / 3) + s % 3 = omega arith in
    let b : fourth t / 3 ≡ 4 * (t / 3) + 3 = omega arith in
    children-apart (s / 3) (s % 3) (t / 3) (omega arith) (sym a ∙ e ∙ b)

on-child : (x : ℕ) → onward x / 3 ≡ x / 3
on-child x = omega arith

back-child : (x : ℕ) → backward x / 3 ≡ x / 3
back-child x = omega arith

pub apart-on : (s t : ℕ) → onward (restart s) ≢ fourth t
apart-on s t e = child-apart s t (sym (on-child (restart s)) ∙ ap (λ (z : ℕ). z / 3) e)

pub apart-back : (s t : ℕ) → backward (restart s) ≢ fourth t
apart-back s t e = child-apart s t (sym (back-child (restart s)) ∙ ap (λ (z : ℕ). z / 3) e)

fourth-inj : (s t : ℕ) → fourth s ≡ fourth t → s ≡ t
fourth-inj s t e = omega arith

restart-face : (s t : ℕ) → restart s / 3 ≡ restart t / 3 → s ≡ t
restart-face s t e = omega arith

-- the two corners of a side's vertex in the corner children differ
halves-apart : (s : ℕ) → onward (restart s) ≢ half2 s
halves-apart s e =
    let q = sym (on-child (restart s)) ∙ ap (λ (z : ℕ). z / 3) e ∙ back-child (restart (onward s)) in
    let z = restart-face s (onward s) q in
    omega arith

module _ (v n : ℕ) (fs : List ℕ) (g : Good v n fs) where
  next-core : (h s : ℕ) → s < 3 * n → next_corner (links (finer_of v n fs)) h (fourth s) ≡ step_to h (some (half2 s))
  next-core h s k = rw (link-core v n fs g s k) (ap (λ (z : ℕ). step_to h (some z)) (on-twice (restart (onward s))))

  next-half : (h s t : ℕ) → s < 3 * n → get_or (links fs) s none ≡ some t → next_corner (links (finer_of v n fs)) h (half2 s) ≡ step_to h (some (onward (restart t)))
  next-half h s t k e = rw (link-half2 v n fs g s k, e)

  next-rim : (h s : ℕ) → s < 3 * n → get_or (links fs) s none ≡ none → next_corner (links (finer_of v n fs)) h (half2 s) ≡ off
  next-rim h s k e = rw (link-half2 v n fs g s k, e)

  next-cut : (h t : ℕ) → t < 3 * n → next_corner (links (finer_of v n fs)) h (onward (restart t)) ≡ step_to h (some (fourth t))
  next-cut h t k = rw (link-cut v n fs g t k) (ap (λ (z : ℕ). step_to h (some z)) (on-fourth (backward t) ∙ ap fourth (on-back t)))

  prev-half : (h s : ℕ) → s < 3 * n → prev_corner (links (finer_of v n fs)) h (half2 s) ≡ step_to h (some (fourth s))
  prev-half h s k =
      rw (back-twice (restart (onward s)), link-cut v n fs g (onward s) (on_below s n k)) (ap (λ (z : ℕ). step_to h (some (fourth z))) (back_on s))

  prev-core : (h s : ℕ) → s < 3 * n → prev_corner (links (finer_of v n fs)) h (fourth s) ≡ step_to h (some (onward (restart s)))
  prev-core h s k =
      rw (back-fourth s, link-core v n fs g (backward s) (back_below s n k)) (ap (λ (z : ℕ). step_to h (some (onward (restart z)))) (on-back s))

  prev-cut : (h s : ℕ) → s < 3 * n → get_or (links fs) s none ≡ none → prev_corner (links (finer_of v n fs)) h (onward (restart s)) ≡ off
  prev-cut h s k e = rw (back_on (restart s), link-half1 v n fs g s k, e)

  many : length (links (finer_of v n fs)) / 3 ≡ 4 * n
  many = omega (arith, length-links (finer_of v n fs), length-finer v n fs g)

  pub fan-inner : (s t : ℕ) → s < 3 * n → get_or (links fs) s none ≡ some t
      → fan (links (finer_of v n fs)) (fourth s) ≡ inner (fourth s ∷ half2 s ∷ onward (restart t) ∷ fourth t ∷ half2 t ∷ onward (restart s) ∷ [])
  fan-inner s t h e =
      let ht = link-below v n fs g s t h e in
      let e' = link-link v n fs g s t h e in
      let other : t / 3 ≢ s / 3 = no_self v n fs g s t h (link-twins v n fs g s t h e) in
      let f = fourth s in
      fan-by (links (finer_of v n fs)) f (suc (suc (suc (suc (suc (suc (4 * n - 6))))))) (many ∙ omega arith)
      (walk-past (next-core f s h ∙ step-here f (half2 s) (apart-back (onward s) s))
      (walk-past (next-half f s t h e ∙ step-here f (onward (restart t)) (apart-on t s))
      (walk-past (next-cut f t ht ∙ step-here f (fourth t) (λ q. other (ap (λ (z : ℕ). z / 3) (fourth-inj t s q))))
      (walk-past (next-core f t ht ∙ step-here f (half2 t) (apart-back (onward t) s))
      (walk-past (next-half f t s ht e' ∙ step-here f (onward (restart s)) (apart-on s s))
      (walk-closed (next-cut f s h ∙ step-home f (fourth s) refl)))))))

  pub fan-rim : (s : ℕ) → s < 3 * n → get_or (links fs) s none ≡ none
      → fan (links (finer_of v n fs)) (fourth s) ≡ rim (half2 s ∷ fourth s ∷ onward (restart s) ∷ [])
  fan-rim s h e =
      let f = fourth s in
      let b = half2 s in
      let L = links (finer_of v n fs) in
      let m = suc (suc (suc (4 * n - 3))) in
      fan-by L f m (many ∙ omega arith)
      (walk-past (next-core f s h ∙ step-here f (half2 s) (apart-back (onward s) s))
      (walk-ended (next-rim f s h e)))
      ∙ rim-by L m (f ∷ b ∷ [])
      (walk-past (prev-half b s h ∙ step-here b (fourth s) (λ q. apart-back (onward s) s (sym q)))
      (walk-past (prev-core b s h ∙ step-here b (onward (restart s)) (halves-apart s))
      (walk-ended (prev-cut b s h e))))
