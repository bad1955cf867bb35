-- The yes is given exactly when the claim passes.
use mathlib.Core.Path.{◌≡◌, refl, ap, ◌∙◌}
use mathlib.Core.Logic.{◌≢◌}
use Prim.Native.Nat.{ℕ, ◌/◌, ◌<◌}
use native.Mathlib.Omega.{arith}
use mathlib.Core.Bool.{Bool, true, false, not, ◌&&◌}
use mathlib.Core.List.{List}
use mathlib.Core.Option.{Option, none, some}
use lib.Dec.{T, T_not, eqb, ltb, nltb→le, ltb→lt, eqb→eq, eqb_refl}
use lib.Ieee.Fits.{and_l, and_r}
use lib.ListN.{length, get_or}
use lib.IntN.{ℤ, pos}
use Rattle.lists.specs.Lists.{pick, lowest, count}
use Rattle.lists.proofs.Places.{lowest-none, find-some, length-count, get_or-count}
use Rattle.whole.specs.Fraction.{Fraction, of_whole}
use Rattle.rules.proofs.Checks.{not-not}
use Rattle.station.specs.Acceptance.{same_face, needs_at, Passes, far_at, face_at, held}
use Rattle.station.specs.declared.Verdict.{Verdict}
use Rattle.station.specs.declared.Verdict.TheVariants.{Yes, No}
use Rattle.station.proofs.Needs.{needs-within, within-needs}

-- a verdict as a bit, to tell them apart
abbrev yes? : Verdict → ℕ
yes? Yes = 1
yes? (No x) = 0
yes? (Verdict.Refused r) = 0

module _ (t : ℕ) (fs : List ℕ) (es : List Fraction) (cs : List ℕ) (ys : List ℤ) where
  abbrev far? : ℕ → Bool
  far? i = ltb t (needs_at es ys i)

  abbrev wrong? : ℕ → Bool
  wrong? f = not (same_face fs cs f)

  far-yes : (o : Option ℕ) → far_at t fs es cs ys o ≡ Yes → o ≡ none
  far-yes none e = refl
  far-yes (some i) e = absurd (let z : ◌≡◌ {A = ℕ} 0 1 = ap yes? e in omega arith)

  face-yes : (o : Option ℕ) (r : Verdict) → face_at t fs es cs ys o r ≡ Yes → (o ≡ none) × (r ≡ Yes)
  face-yes none r e = (refl, e)
  face-yes (some i) r e = absurd (let z : ◌≡◌ {A = ℕ} 0 1 = ap yes? e in omega arith)

  pick_yes : (b : Bool) (r q : Verdict) → q ≢ Yes → pick b r q ≡ Yes → T b × (r ≡ Yes)
  pick_yes true r q n e = (tt, e)
  pick_yes false r q n e = absurd (n e)

  pub yes-passes : held t fs es cs ys ≡ Yes → Passes t fs es cs ys
  unfolding held
  yes-passes e =
      let p = pick_yes (eqb (length cs) (length fs) && eqb (length ys) (length es)) _ _ (λ q. let z : ◌≡◌ {A = ℕ} 0 1 = ap yes? q in omega arith) e in
      let q = face-yes (lowest wrong? (length fs / 3)) _ p.1 in
      let r = far-yes (lowest far? (length es)) q.1 in
      record {
        faces = eqb→eq (length cs) (length fs) (and_l (eqb (length cs) (length fs)) (eqb (length ys) (length es)) p.0);
        points = eqb→eq (length ys) (length es) (and_r (eqb (length cs) (length fs)) (eqb (length ys) (length es)) p.0);
        turns = λ f h. not-not (same_face fs cs f) (lowest-none wrong? (length fs / 3) q.0 f h);
        near = λ i h. needs-within t (get_or ys i (pos 0)) (get_or es i (of_whole (pos 0))) (nltb→le t (needs_at es ys i) (lowest-none far? (length es) r i h));
      }

  -- nothing is found where the test passes nowhere
  nothing : (p : ℕ → Bool) (n : ℕ) → ((i : ℕ) → i < n → T (p i) → ⊥) → lowest p n ≡ none
  nothing p n h = go (lowest p n) refl
    where
      go : (o : Option ℕ) → lowest p n ≡ o → o ≡ none
      go none e = refl
      go (some i) e =
          let f = find-some p 0 (count 0 n) i e in
          let k : i < n = omega (arith, f.below, length-count 0 n) in
          let a : get_or (count 0 n) i 0 ≡ i = get_or-count 0 n i 0 k ∙ omega arith in
          absurd (h i k (rw a at f.passes))

  T_true : (b : Bool) → T b → b ≡ true
  T_true true k = refl
  T_true false k = absurd k

  pub passes-yes : Passes t fs es cs ys → held t fs es cs ys ≡ Yes
  unfolding held
  passes-yes w =
      let a = nothing wrong? (length fs / 3) (λ f h k. T_not (same_face fs cs f) k (w.turns f h)) in
      let b = nothing far? (length es) (λ i h k.
      let x = ltb→lt t (needs_at es ys i) k in
      let y = within-needs t (get_or ys i (pos 0)) (get_or es i (of_whole (pos 0))) (w.near i h) in
      omega arith) in
      let c = T_true (eqb (length cs) (length fs)) (rw w.faces (eqb_refl (length fs))) in
      let d = T_true (eqb (length ys) (length es)) (rw w.points (eqb_refl (length es))) in
      rw (c, d, a, b)
