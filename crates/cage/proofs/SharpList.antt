-- Request 6: what check 18 says, and that a list which passes it leaves a cage that passes all else.
use Rattle.std.specs.Prelude.{Ok}
use mathlib.Core.Path.{◌≡◌, refl, sym, ap, ◌∙◌}
use Prim.Native.Nat.{ℕ, suc, ◌/◌, ◌≤◌, ◌<◌, min}
use native.Mathlib.Omega.{arith}
use mathlib.Core.Bool.{Bool, true, false, not}
use mathlib.Core.List.{List}
use mathlib.Core.Option.{Option, none, some}
use lib.Dec.{eqb}
use lib.ListN.{length, get_or}
use lib.Seq.{get_or-take}
use borrow.Author.Tests.{le-leb, lt-leb, ne_eqb}
use Rattle.lists.specs.Lists.{find, found}
use Rattle.lists.proofs.Places.{get_d_map, find-is}
use Rattle.rules.specs.Mesh.{links}
use Rattle.rules.specs.Position.{whole}
use Rattle.rules.specs.Refusals.{check, ◌or_else◌, refusal, shape_refusal, range_refusal, list_refusal, fan_refusal, size_refusal}
use Rattle.rules.specs.Sharp.{unlinked, told, sharp_refusal, sharp_last}
use Rattle.rules.specs.Answers.{counted, unless}
use Rattle.rules.specs.declared.Refusal.{Refusal}
use Rattle.rules.proofs.Sides.{length-links}
use Rattle.rules.proofs.Sharp.{sharp-mesh}
use Rattle.faces.specs.Words.{coded}
use Rattle.limits.specs.Verdicts.{verdict_of}
use Rattle.cage.specs.Fans.{Linked}
use Rattle.cage.specs.Sizes.{cage_counts}
use Rattle.limits.proofs.Search.{at, passed, failed, find-nowhere}
use Rattle.cage.proofs.Sizes.{counts_of_lem}

-- ---- one listed side

module _ (fs : List ℕ) (s : ℕ) where
  pub far : length fs ≤ s → true ≡ unlinked (links fs) s
  far h = rw (le-leb (length (links fs)) s (rw (length-links fs) h))

  pub near : s < length fs → not (found (get_or (links fs) s none)) ≡ unlinked (links fs) s
  near h = rw (lt-leb (length (links fs)) s (rw (length-links fs) h))

pub zero_word : (o : Option ℕ) → eqb (coded o) 0 ≡ not (found o)
zero_word none = refl
zero_word (some t) = ne_eqb (suc t) 0 (λ e. omega arith)

-- ---- the search

module _ (p : ℕ → Bool) (l : List ℕ) where
  pub told_here : (i : ℕ) → i < length l → p (get_or l i 0) ≡ true → ((j : ℕ) → j < i → p (get_or l j 0) ≡ false) → verdict_of (check 18 (told (find p l))) ≡ at 18 (min i 4294967295)
  told_here i h t b = rw (find-is p 0 l i (record { below = h; passes = passed _ t; before = λ j q. failed _ (b j q) })) refl

  pub told-nowhere : ((j : ℕ) → j < length l → p (get_or l j 0) ≡ false) → verdict_of (check 18 (told (find p l))) ≡ (Ok tt)
  told-nowhere b = go (find p l) (find-nowhere 18 p 0 l b)
    where
      go : (o : Option ℕ) → verdict_of (check 18 o) ≡ (Ok tt) → verdict_of (check 18 (told o)) ≡ (Ok tt)
      go none e = refl
      go (some i) e = absurd (let z : ◌≡◌ {A = ℕ} 0 1 = cc in omega arith)

-- ---- a list that passes

-- 18 out of a table: what is left passes too
without : (a b c d m z : Option Refusal) → a or_else (b or_else (c or_else (d or_else (m or_else z)))) ≡ none → a or_else (b or_else (c or_else (d or_else z))) ≡ none
without none none none none none z e = e
without none none none none (some r) z e = absurd (let q : ◌≡◌ {A = ℕ} 0 1 = cc in omega arith)
without none none none (some r) m z e = absurd (let q : ◌≡◌ {A = ℕ} 0 1 = cc in omega arith)
without none none (some r) d m z e = absurd (let q : ◌≡◌ {A = ℕ} 0 1 = cc in omega arith)
without none (some r) c d m z e = absurd (let q : ◌≡◌ {A = ℕ} 0 1 = cc in omega arith)
without (some r) b c d m z e = absurd (let q : ◌≡◌ {A = ℕ} 0 1 = cc in omega arith)

within : (a b c d m z : Option Refusal) → a or_else (b or_else (c or_else (d or_else (m or_else z)))) ≡ none → m ≡ none
within none none none none none z e = refl
within none none none none (some r) z e = absurd (let q : ◌≡◌ {A = ℕ} 0 1 = cc in omega arith)
within none none none (some r) m z e = absurd (let q : ◌≡◌ {A = ℕ} 0 1 = cc in omega arith)
within none none (some r) d m z e = absurd (let q : ◌≡◌ {A = ℕ} 0 1 = cc in omega arith)
within none (some r) c d m z e = absurd (let q : ◌≡◌ {A = ℕ} 0 1 = cc in omega arith)
within (some r) b c d m z e = absurd (let q : ◌≡◌ {A = ℕ} 0 1 = cc in omega arith)

again : (a b c d m z : Option Refusal) → a or_else (b or_else (c or_else (d or_else z))) ≡ none → m ≡ none → a or_else (b or_else (c or_else (d or_else (m or_else z)))) ≡ none
again none none none none none z e f = e
again none none none none (some r) z e f = absurd (let q : ◌≡◌ {A = ℕ} 0 1 = cc in omega arith)
again none none none (some r) m z e f = absurd (let q : ◌≡◌ {A = ℕ} 0 1 = cc in omega arith)
again none none (some r) d m z e f = absurd (let q : ◌≡◌ {A = ℕ} 0 1 = cc in omega arith)
again none (some r) c d m z e f = absurd (let q : ◌≡◌ {A = ℕ} 0 1 = cc in omega arith)
again (some r) b c d m z e f = absurd (let q : ◌≡◌ {A = ℕ} 0 1 = cc in omega arith)

module _ (n : ℕ) (l fs : List ℕ) where
  pub sharp-accepted : (xs : List whole.N) → refusal whole n fs xs ≡ none → find (unlinked (links fs)) l ≡ none → sharp_refusal whole n l fs xs ≡ none
  unfolding sharp_refusal refusal
  sharp-accepted xs e f =
      again (shape_refusal n (length fs) (length xs)) (range_refusal whole xs) (list_refusal (length xs / 3) fs) (fan_refusal (length xs / 3) fs)
      (check 18 (told (find (unlinked (links fs)) l))) (size_refusal n (length xs / 3) fs) e (ap (λ (o : Option ℕ). check 18 (told o)) f)

  pub sharp-passes : (xs : List whole.N) → sharp_refusal whole n l fs xs ≡ none → refusal whole n fs xs ≡ none
  unfolding sharp_refusal refusal
  sharp-passes xs e =
      without (shape_refusal n (length fs) (length xs)) (range_refusal whole xs) (list_refusal (length xs / 3) fs) (fan_refusal (length xs / 3) fs)
      (check 18 (told (find (unlinked (links fs)) l))) (size_refusal n (length xs / 3) fs) e

  pub sharp-linked : (xs : List whole.N) → sharp_refusal whole n l fs xs ≡ none → find (unlinked (links fs)) l ≡ none
  unfolding sharp_refusal
  sharp-linked xs e =
      untold (find (unlinked (links fs)) l)
      (within (shape_refusal n (length fs) (length xs)) (range_refusal whole xs) (list_refusal (length xs / 3) fs) (fan_refusal (length xs / 3) fs)
      (check 18 (told (find (unlinked (links fs)) l))) (size_refusal n (length xs / 3) fs) e)
    where
      untold : (o : Option ℕ) → check 18 (told o) ≡ none → o ≡ none
      untold none e = refl
      untold (some i) e = absurd (let z : ◌≡◌ {A = ℕ} 0 1 = cc in omega arith)

  pub sharp-ahead : (xs : List whole.N) → unless (sharp_refusal whole n l fs xs) (Ok (cage_counts n (length xs / 3) fs)) ≡ unless (sharp_refusal whole n l fs xs) (Ok (counted (sharp_last whole n l fs xs).mesh))
  sharp-ahead xs = go (sharp_refusal whole n l fs xs) refl
    where
      go : (o : Option Refusal) → sharp_refusal whole n l fs xs ≡ o → unless o (Ok (cage_counts n (length xs / 3) fs)) ≡ unless o (Ok (counted (sharp_last whole n l fs xs).mesh))
      go none e = ap Ok (sym (ap counted (sharp-mesh whole n l fs xs) ∙ counts_of_lem whole n fs xs (sharp-passes xs e)))
      go (some r) e = refl
