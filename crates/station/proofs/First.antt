-- A no names what is really first: all before it pass.
use mathlib.Core.Path.{◌≡◌, refl, sym, ap, ◌∙◌}
use Prim.Native.Nat.{ℕ, ◌/◌, ◌<◌}
use native.Mathlib.Omega.{arith}
use mathlib.Core.Bool.{Bool, true, false, not, ◌&&◌}
use mathlib.Core.List.{List}
use mathlib.Core.Option.{Option, none, some}
use lib.Dec.{T, eqb, ltb}
use lib.ListN.{length, get_or}
use lib.IntN.{ℤ}
use Rattle.lists.specs.Lists.{pick, lowest, count}
use Rattle.lists.proofs.Places.{find-some, length-count, get_or-count, lowest-none}
use Rattle.whole.specs.Fraction.{Fraction}
use Rattle.rules.proofs.Checks.{not-not}
use Rattle.station.specs.Acceptance.{same_face, needs_at, far_at, face_at, held}
use Rattle.station.specs.declared.Fault.TheVariants.{Counts as CountsDiffer, Face, Far}
use Rattle.station.specs.declared.Verdict.{Verdict}
use Rattle.station.specs.declared.Verdict.TheVariants.{Yes, No, Refused}

-- the parts of a verdict, to tell them apart
abbrev kind : Verdict → ℕ
kind Yes = 0
kind (No CountsDiffer) = 1
kind (No (Face f)) = 2
kind (No (Far i k)) = 3
kind (Refused r) = 4

abbrev where? : Verdict → ℕ
where? Yes = 0
where? (No CountsDiffer) = 0
where? (No (Face f)) = f
where? (No (Far i k)) = i
where? (Refused r) = 0

abbrev how? : Verdict → ℕ
how? Yes = 0
how? (No CountsDiffer) = 0
how? (No (Face f)) = 0
how? (No (Far i k)) = k
how? (Refused r) = 0

-- the lowest place of a test: it passes there, and nowhere before
pub record First (p : ℕ → Bool) (n i : ℕ) : Type 0 where
  pub below : i < n
  pub passes : T (p i)
  pub before : (j : ℕ) → j < i → T (not (p j))

first-of : (p : ℕ → Bool) (n i : ℕ) → lowest p n ≡ some i → First p n i
first-of p n i e =
    let f = find-some p 0 (count 0 n) i e in
    let k : i < n = omega (arith, f.below, length-count 0 n) in
    let a : get_or (count 0 n) i 0 ≡ i = get_or-count 0 n i 0 k ∙ omega arith in
    record {
      below = k;
      passes = rw a at f.passes;
      before = λ j h.
          let b : get_or (count 0 n) j 0 ≡ j = get_or-count 0 n j 0 (omega arith) ∙ omega arith in
          rw b at (f.before j h);
    }

module _ (t : ℕ) (fs : List ℕ) (es : List Fraction) (cs : List ℕ) (ys : List ℤ) where
  abbrev far? : ℕ → Bool
  far? i = ltb t (needs_at es ys i)

  abbrev wrong? : ℕ → Bool
  wrong? f = not (same_face fs cs f)

  far_some : (o : Option ℕ) (i k : ℕ) → far_at t fs es cs ys o ≡ No (Far i k) → (o ≡ some i) × (k ≡ needs_at es ys i)
  far_some none i k e = absurd (let z : ◌≡◌ {A = ℕ} 0 3 = ap kind e in omega arith)
  far_some (some j) i k e = let p : j ≡ i = ap where? e in let q : needs_at es ys j ≡ k = ap how? e in (ap some p, sym q ∙ ap (needs_at es ys) p)

  far-face : (o : Option ℕ) (f : ℕ) → far_at t fs es cs ys o ≡ No (Face f) → ⊥
  far-face none f e = absurd (let z : ◌≡◌ {A = ℕ} 0 2 = ap kind e in omega arith)
  far-face (some j) f e = absurd (let z : ◌≡◌ {A = ℕ} 3 2 = ap kind e in omega arith)

  face-far : (o : Option ℕ) (r : Verdict) (i k : ℕ) → face_at t fs es cs ys o r ≡ No (Far i k) → (o ≡ none) × (r ≡ No (Far i k))
  face-far none r i k e = (refl, e)
  face-far (some g) r i k e = absurd (let z : ◌≡◌ {A = ℕ} 2 3 = ap kind e in omega arith)

  face-face : (o p : Option ℕ) (f : ℕ) → face_at t fs es cs ys o (far_at t fs es cs ys p) ≡ No (Face f) → o ≡ some f
  face-face none p f e = absurd (far-face p f e)
  face-face (some g) p f e = ap some (ap where? e)

  pick-far : (b : Bool) (r : Verdict) (i k : ℕ) → pick b r (No CountsDiffer) ≡ No (Far i k) → r ≡ No (Far i k)
  pick-far true r i k e = e
  pick-far false r i k e = absurd (let z : ◌≡◌ {A = ℕ} 1 3 = ap kind e in omega arith)

  pick-face : (b : Bool) (r : Verdict) (f : ℕ) → pick b r (No CountsDiffer) ≡ No (Face f) → r ≡ No (Face f)
  pick-face true r f e = e
  pick-face false r f e = absurd (let z : ◌≡◌ {A = ℕ} 1 2 = ap kind e in omega arith)

  -- the first wrong face
  pub face-first : (f : ℕ) → held t fs es cs ys ≡ No (Face f) → First wrong? (length fs / 3) f
  unfolding held
  face-first f e =
      first-of wrong? (length fs / 3) f
      (face-face (lowest wrong? (length fs / 3)) (lowest far? (length es)) f (pick-face (eqb (length cs) (length fs) && eqb (length ys) (length es)) _ f e))

  -- the first coordinate that needs more, what it needs, and that every face is right
  pub record FirstFar (i k : ℕ) : Type 0 where
    pub first : First far? (length es) i
    pub needed : k ≡ needs_at es ys i
    pub faces : (f : ℕ) → f < length fs / 3 → T (same_face fs cs f)

  pub far-first : (i k : ℕ) → held t fs es cs ys ≡ No (Far i k) → FirstFar i k
  unfolding held
  far-first i k e =
      let p = face-far (lowest wrong? (length fs / 3)) (far_at t fs es cs ys (lowest far? (length es))) i k (pick-far (eqb (length cs) (length fs) && eqb (length ys) (length es)) _ i k e) in
      let q = far_some (lowest far? (length es)) i k p.1 in
      record {
        first = first-of far? (length es) i q.0;
        needed = q.1;
        faces = λ f h. not-not (same_face fs cs f) (lowest-none wrong? (length fs / 3) p.0 f h);
      }
