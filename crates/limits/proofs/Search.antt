-- What a search that has come so far says of a check.
use Rattle.std.specs.Prelude.{Result, Err, Ok, IsErrAnd}
use Rattle.std.proofs.lemmas.Result.{err_from_is_err_and}
use mathlib.Core.Path.{◌≡◌, refl, ap, ◌∙◌}
use Prim.Native.Nat.{ℕ, ◌<◌}
use native.Mathlib.Omega.{arith}
use mathlib.Core.Bool.{Bool, true, false, not}
use mathlib.Core.List.{List}
use mathlib.Core.Option.{Option, none, some}
use lib.Dec.{T}
use lib.ListN.{length, get_or}
use Rattle.lists.specs.Lists.{find, lowest}
use Rattle.lists.proofs.Places.{find-is, look, Look, nowhere, there, lowest-is, lowest-all}
use Rattle.rules.specs.declared.Refusal.{Refusal}
use Rattle.rules.specs.Refusals.{check, ◌or_else◌}
use Rattle.limits.specs.Verdicts.{verdict_of}
use Rattle.limits.specs.Verdicts.{Check}

pub passed : (b : Bool) → b ≡ true → T b
passed true e = tt
passed false e = absurd (let z : ◌≡◌ {A = ℕ} 0 1 = cc in omega arith)

pub failed : (b : Bool) → b ≡ false → T (not b)
failed true e = absurd (let z : ◌≡◌ {A = ℕ} 0 1 = cc in omega arith)
failed false e = tt

abbrev pub at : ℕ → ℕ → Check
at k i = Err (record { number = k; place = i })

-- refusal k at the lowest place of a list where p passes
module _ {A : Type 0} (k : ℕ) (p : A → Bool) (d : A) (l : List A) where
  pub find-here : (i : ℕ) → i < length l → p (get_or l i d) ≡ true → ((j : ℕ) → j < i → p (get_or l j d) ≡ false) → verdict_of (check k (find p l)) ≡ at k i
  find-here i h t b = rw (find-is p d l i (record { below = h; passes = passed _ t; before = λ j q. failed _ (b j q) })) refl

  pub find-nowhere : ((j : ℕ) → j < length l → p (get_or l j d) ≡ false) → verdict_of (check k (find p l)) ≡ (Ok tt)
  find-nowhere b = go (find p l) (look p d l)
    where
      go : (o : Option ℕ) → Look p l d o → verdict_of (check k o) ≡ (Ok tt)
      go _ (nowhere n) = refl
      go _ (there i f) = absurd (let t = f.passes in clash (p (get_or l i d)) (b i f.below) t)
        where
          clash : (x : Bool) → x ≡ false → T x → ⊥
          clash true e t = let z : ◌≡◌ {A = ℕ} 0 1 = cc in omega arith
          clash false e t = t

-- and at the lowest number below n
module _ (k : ℕ) (p : ℕ → Bool) (n : ℕ) where
  pub lowest-here : (i : ℕ) → i < n → p i ≡ true → ((j : ℕ) → j < i → p j ≡ false) → verdict_of (check k (lowest p n)) ≡ at k i
  lowest-here i h t b = rw (lowest-is p n i h (passed _ t) (λ j q. failed _ (b j q))) refl

  pub lowest-nowhere : ((j : ℕ) → j < n → p j ≡ false) → verdict_of (check k (lowest p n)) ≡ (Ok tt)
  lowest-nowhere b = rw (lowest-all p n (λ j q. failed _ (b j q))) refl

-- ---- one check after another

-- what the exit of a `?` answers
pub refused : {A : Type 0} (r o : Result A Refusal) (x : Refusal) → IsErrAnd r (λ y. y ≡ x) → Err x ≡ o → r ≡ o
refused r o x e h = let p = err_from_is_err_and r e in p.1 ∙ ap Err p.2 ∙ h

pub or-stops : (a b : Option Refusal) (r : Refusal) → verdict_of a ≡ Err r → verdict_of (a or_else b) ≡ Err r
or-stops none b r e = absurd (let z : ◌≡◌ {A = ℕ} 0 1 = cc in omega arith)
or-stops (some x) b r e = e

pub or-goes : (a b : Option Refusal) → verdict_of a ≡ (Ok tt) → verdict_of (a or_else b) ≡ verdict_of b
or-goes none b e = refl
or-goes (some x) b e = absurd (let z : ◌≡◌ {A = ℕ} 0 1 = cc in omega arith)

pub passes : (a : Option Refusal) → verdict_of a ≡ (Ok tt) → a ≡ none
passes none e = refl
passes (some x) e = absurd (let z : ◌≡◌ {A = ℕ} 0 1 = cc in omega arith)
