-- What a stage that passes leaves, and how stages follow each other.
use Rattle.std.specs.Prelude.{Err, Ok}
use mathlib.Core.Path.{◌≡◌, refl, ap, ◌∙◌}
use mathlib.Core.Logic.{◌≢◌}
use Prim.Native.Nat.{ℕ, ◌*◌, ◌/◌, ◌≤◌, ◌<◌}
use native.Mathlib.Omega.{arith}
use mathlib.Core.List.{List}
use mathlib.Core.Option.{Option, none, some}
use lib.Dec.{leb, nleb→lt}
use lib.ListN.{length}
use Rattle.lists.specs.Lists.{find, lowest, found}
use Rattle.lists.proofs.Places.{find_none}
use Rattle.rules.specs.Mesh.{onward, corner, sides}
use Rattle.rules.specs.Refusals.{check, ◌or_else◌, equal_corners, used_before, same_set, list_refusal}
use Rattle.rules.specs.Answers.{unless}
use Rattle.rules.specs.declared.Refusal.{Refusal}
use Rattle.rules.specs.Outcome.{Outcome}
use Rattle.rules.proofs.Checks.{Shape, check-none, apart-side, unique-sides, unfolded-sides}
use Rattle.rules.proofs.Refine.{Good}
use Rattle.limits.specs.Verdicts.{verdict_of}
use Rattle.cage.specs.Chains.{Faces, Below, Apart, Once}
use Rattle.cage.specs.Sizes.{judged, from_nine, from_seven, from_five, Listed}
use Rattle.limits.proofs.Search.{passes}

-- ---- one stage after another

pub unless-no : (a b : Option Refusal) (o : Outcome) (r : Refusal) → verdict_of a ≡ Err r → Err r ≡ unless (a or_else b) o
unless-no none b o r e = absurd (let z : ◌≡◌ {A = ℕ} 0 1 = cc in omega arith)
unless-no (some x) b o r e = cc

pub unless-goes : (a b : Option Refusal) (o : Outcome) → verdict_of a ≡ (Ok tt) → unless (a or_else b) o ≡ unless b o
unless-goes none b o e = refl
unless-goes (some x) b o e = absurd (let z : ◌≡◌ {A = ℕ} 0 1 = cc in omega arith)

pub unless-last : (a : Option Refusal) (o : Outcome) → verdict_of a ≡ (Ok tt) → unless a o ≡ o
unless-last none o e = refl
unless-last (some x) o e = absurd (let z : ◌≡◌ {A = ℕ} 0 1 = cc in omega arith)

pub unless-refused : (a : Option Refusal) (o : Outcome) (r : Refusal) → verdict_of a ≡ Err r → Err r ≡ unless a o
unless-refused none o r e = absurd (let z : ◌≡◌ {A = ℕ} 0 1 = cc in omega arith)
unless-refused (some x) o r e = cc

or_assoc : (a b c : Option Refusal) → (a or_else b) or_else c ≡ a or_else (b or_else c)
or_assoc none b c = refl
or_assoc (some x) b c = refl

five-first : (l v : ℕ) (sh fs : List ℕ) → from_five l v sh fs ≡ check 5 (find (λ u. leb v u) fs) or_else (check 6 (lowest (equal_corners fs) (length fs / 3)) or_else from_seven l v sh fs)
unfolding list_refusal
five-first l v sh fs =
    let c5 = check 5 (find (λ u. leb v u) fs) in
    let c6 = check 6 (lowest (equal_corners fs) (length fs / 3)) in
    let c7 = check 7 (lowest (used_before (sides fs)) (3 * (length fs / 3))) in
    let c8 = check 8 (lowest (λ f. found (lowest (same_set fs f) f)) (length fs / 3)) in
    let r = from_nine l v sh fs in
    or_assoc c5 (c6 or_else c7 or_else c8) r
    ∙ ap (λ (x : Option Refusal). c5 or_else x) (or_assoc c6 (c7 or_else c8) r)
    ∙ ap (λ (x : Option Refusal). c5 or_else (c6 or_else x)) (or_assoc c7 c8 r)

pub judged-five : (l v : ℕ) (sh fs : List ℕ) →
    judged (from_five l v sh fs) l v fs
    ≡ judged (check 5 (find (λ u. leb v u) fs) or_else (check 6 (lowest (equal_corners fs) (length fs / 3)) or_else from_seven l v sh fs)) l v fs
judged-five l v sh fs = ap (λ (r : Option Refusal). judged r l v fs) (five-first l v sh fs)

-- ---- what each leaves

pub faces-of : (l n : ℕ) (fs : List ℕ) → Shape l (length fs) n → Faces fs
faces-of l n fs w = record { thirds = w.indices; few = omega (arith, w.indices, w.faces) }

pub coords-few : (l is n : ℕ) → Shape l is n → n ≤ 12288
coords-few l is n w = omega (arith, w.coords, w.verts)

pub below_of : (v : ℕ) (fs : List ℕ) → verdict_of (check 5 (find (λ u. leb v u) fs)) ≡ (Ok tt) → Below v fs
below_of v fs e = record { each = λ s h. nleb→lt v (corner fs s) (find_none (λ u. leb v u) 0 fs (check-none 5 _ (passes _ e)) s h) }

pub below_more : (v w : ℕ) (fs : List ℕ) → v ≤ w → Below v fs → Below w fs
below_more v w fs h b = record { each = λ s l. let k = b.each s l in omega arith }

module _ (fs : List ℕ) (w : Faces fs) where
  size : length fs ≡ 3 * (length fs / 3)
  size = let t = w.thirds in omega arith

  pub apart_of : verdict_of (check 6 (lowest (equal_corners fs) (length fs / 3))) ≡ (Ok tt) → Apart fs
  apart_of e = record { each = λ s h. apart-side fs (length fs / 3) size (check-none 6 _ (passes _ e)) s (let z = size in omega arith) }

  pub once-of : verdict_of (check 7 (lowest (used_before (sides fs)) (3 * (length fs / 3)))) ≡ (Ok tt) → Once fs
  once-of e = record { each = λ s t h k. unique-sides fs (length fs / 3) size (check-none 7 _ (passes _ e)) s t (let z = size in omega arith) (let z = size in omega arith) }

  pub good_of : (v : ℕ) → Listed v fs → Good v (length fs / 3) fs
  good_of v p =
      let z = size in
      let apart : (s : ℕ) → s < 3 * (length fs / 3) → corner fs s ≢ corner fs (onward s) = λ s h. p.apart.each s (omega arith) in
      record {
        size = z;
        below = λ s h. p.below.each s (omega arith);
        apart = apart;
        unique = λ s t h k. p.once.each s t (omega arith) (omega arith);
        unfolded = unfolded-sides fs (length fs / 3) z apart p.sets;
      }
