-- The whole verdict on a claim, in the order in which the code looks.
use mathlib.Core.Path.{◌≡◌, refl, sym, ap, ◌∙◌}
use Prim.Native.Nat.{ℕ, ◌/◌}
use native.Mathlib.Omega.{arith}
use mathlib.Core.Bool.{Bool, true, false, not, ◌&&◌}
use mathlib.Core.List.{List}
use mathlib.Core.Option.{Option, none, some}
use lib.Dec.{eqb, ltb}
use lib.ListN.{length}
use lib.IntN.{ℤ}
use borrow.Author.Tests.{eq-eqb, ne_eqb}
use Rattle.lists.specs.Lists.{pick, lowest, bit}
use Rattle.whole.specs.Fraction.{Fraction}
use Rattle.station.specs.Acceptance.{same_face, needs_at, far_at, face_at, held}
use Rattle.station.specs.Far.{far_from, is_yes, wrong_face}
use Rattle.station.specs.declared.Fault.TheVariants.{Counts as CountsDiffer}
use Rattle.station.specs.declared.Verdict.{Verdict}
use Rattle.station.specs.declared.Verdict.TheVariants.{No}
use Rattle.station.proofs.Gather.{far-is}

not-both : (a b : Bool) → b ≡ false → (a && b) ≡ false
not-both true b e = e
not-both false b e = refl

module _ (t : ℕ) (fs : List ℕ) (es : List Fraction) (cs : List ℕ) (ys : List ℤ) where
  abbrev wrong : Option ℕ
  wrong = lowest (λ f. not (same_face fs cs f)) (length fs / 3)

  abbrev distant : Verdict
  distant = far_at t fs es cs ys (lowest (λ i. ltb t (needs_at es ys i)) (length es))

  pub faces-differ : (length cs ≡ length fs → ⊥) → No CountsDiffer ≡ held t fs es cs ys
  unfolding held
  faces-differ h = rw (ne_eqb (length cs) (length fs) h) refl

  pub points-differ : (length ys ≡ length es → ⊥) → No CountsDiffer ≡ held t fs es cs ys
  unfolding held
  points-differ h =
      let b = not-both (eqb (length cs) (length fs)) (eqb (length ys) (length es)) (ne_eqb (length ys) (length es) h) in
      sym (ap (λ (c : Bool). pick c (face_at t fs es cs ys wrong distant) (No CountsDiffer)) b)

  module _ (p : length cs ≡ length fs) (q : length ys ≡ length es) where
    both : held t fs es cs ys ≡ face_at t fs es cs ys wrong distant
    unfolding held
    both =
        let a : (eqb (length cs) (length fs) && eqb (length ys) (length es)) ≡ true = rw (eq-eqb (length cs) (length fs) p, eq-eqb (length ys) (length es) q) refl in
        ap (λ (c : Bool). pick c (face_at t fs es cs ys wrong distant) (No CountsDiffer)) a

    face-no : (o : Option ℕ) (v r : Verdict) → v ≡ wrong_face o → is_yes v ≡ false → v ≡ face_at t fs es cs ys o r
    face-no none v r e y = absurd (let z : ◌≡◌ {A = ℕ} 1 0 = sym (ap (λ (x : Verdict). bit (is_yes x)) e) ∙ ap bit y in omega arith)
    face-no (some f) v r e y = e

    face-yes : (o : Option ℕ) (v r : Verdict) → v ≡ wrong_face o → is_yes v ≡ true → face_at t fs es cs ys o r ≡ r
    face-yes none v r e y = refl
    face-yes (some f) v r e y = absurd (let z : ◌≡◌ {A = ℕ} 0 1 = sym (ap (λ (x : Verdict). bit (is_yes x)) e) ∙ ap bit y in omega arith)

    pub a-face : (v : Verdict) → v ≡ wrong_face wrong → is_yes v ≡ false → v ≡ held t fs es cs ys
    a-face v e y = face-no wrong v distant e y ∙ sym both

    pub the_rest : (v r : Verdict) → v ≡ wrong_face wrong → is_yes v ≡ true → r ≡ far_from (needs_at es ys) t 0 (length es) → r ≡ held t fs es cs ys
    the_rest v r e y f = f ∙ far-is t fs es cs ys ∙ sym (face-yes wrong v distant e y) ∙ sym both
