-- Reading back what was written.
use Prim.Native.Nat.{ℕ, zero, suc, ◌+◌, ◌-◌, ◌*◌, ◌/◌, ◌%◌, ◌^◌, ◌≤◌, ◌<◌}
use mathlib.Core.Path.{◌≡◌, refl, ap, ◌∙◌}
use mathlib.Core.Bool.{Bool, true, false}
use mathlib.Core.List.{List, [], ◌∷◌, ◌++◌, append-nil}
use native.Mathlib.Omega.{arith}
use native.Mathlib.Nat.{pow-suc, pow-zero, lt_of_le_of_lt, le_trans}
use lib.Dec.{ltb, lit<}
use lib.IntN.{ℤ}
use lib.ListN.{length}
use borrow.Author.Tests.{lt-ltb, le-leb, ne_eqb, ltb-true, ltb-false}
use Rattle.lists.specs.Lists.{pick}
use Rattle.whole.specs.Whole.{reach}
use Rattle.listing.specs.Text.{digit, decimal, numeral}
use Rattle.spots.specs.Spots.{turn}
use Rattle.obj.specs.Reading.{Read, next}
use Rattle.spots.specs.declared.Spot.TheVariants.{Coord, Minus, Above, Under, Corner, Number}
use Rattle.spots.proofs.Turns.{Digit}
use Rattle.obj.proofs.Spelled.{at, above-digit}
use Rattle.obj.proofs.Sound.{below-digit, number-digit}

-- ---- after some bytes

unfoldable pub after : Read → List ℕ → Read
after s [] = s
after s (c ∷ b) = after (next s c) b

pub after-append : (s : Read) (p q : List ℕ) → after s (p ++ q) ≡ after (after s p) q
unfolding after
after-append s [] q = refl
after-append s (c ∷ p) q = after-append (next s c) p q

-- ---- a number, by its digits: once for coordinates above and below zero and for corners

module _ (s₀ : Read) (so_far : ℕ → Read) (least most : ℕ) (one : least ≤ 1) (first : (d : ℕ) → least ≤ d → d < 10 → d ≤ most → next s₀ (48 + d) ≡ so_far d)
    (more : (n d : ℕ) → 0 < n → d < 10 → 10 * n + d ≤ most → next (so_far n) (48 + d) ≡ so_far (10 * n + d)) where
  decimal-back : (t n : ℕ) → n < 10 ^ suc t → least ≤ n → n ≤ most → after s₀ (decimal t n) ≡ so_far n
  unfolding after decimal
  decimal-back zero n b q h =
      let l : n < 10 = omega (arith, pow-suc 10 0, pow-zero 10) in
      let e : n % 10 ≡ n = omega arith in
      rw e (first n q l h)
  decimal-back (suc t) n b q h = go (ltb n 10) refl (λ k z. decimal-back t (n / 10) k z (omega arith))
    where
      go : (s : Bool) → ltb n 10 ≡ s → (n / 10 < 10 ^ suc t → least ≤ n / 10 → after s₀ (decimal t (n / 10)) ≡ so_far (n / 10))
          → after s₀ (pick (ltb n 10) (digit n) (decimal t (n / 10) ++ digit n)) ≡ so_far n
      go true q' f =
          let l = ltb-true n 10 q' in
          let e : n % 10 ≡ n = omega arith in
          rw (q', e) (first n q l h)
      go false q' f =
          let l = ltb-false n 10 q' in
          let e : 10 * (n / 10) + n % 10 ≡ n = omega arith in
          let b' : n / 10 < 10 ^ suc t = omega (arith, pow-suc 10 (suc t)) in
          let m = more (n / 10) (n % 10) (omega arith) (omega arith) (omega arith) in
          rw (q', after-append s₀ (decimal t (n / 10)) (digit n), f b' (omega arith)) (m ∙ ap so_far e)

  pub numeral-back : most ≤ reach → (n : ℕ) → least ≤ n → n ≤ most → after s₀ (numeral n) ≡ so_far n
  unfolding numeral
  numeral-back w n q h = decimal-back 19 n (lt_of_le_of_lt (le_trans h w) (lit< tt)) q h

-- ---- the three kinds of number

digit-is : (n d most : ℕ) → 0 < n → d < 10 → 10 * n + d ≤ most → Digit n (48 + d) most
digit-is n d most p h b = let e : 48 + d - 48 ≡ d = omega arith in record { low = omega arith; high = omega arith; above = p; within = rw e b }

minus-48 : (d : ℕ) → 48 + d - 48 ≡ d
minus-48 d = omega arith

module _ (xs : List ℤ) where
  first_above : (d : ℕ) → d < 10 → next (at xs [] Coord) (48 + d) ≡ at xs [] (Above d)
  unfolding next turn
  first_above d h =
      simp (ne_eqb (48 + d) 45 (λ z. omega arith), le-leb 48 (48 + d) (omega arith), le-leb (48 + d) 57 (omega arith), minus-48 d, append-nil)

  first_below : (d : ℕ) → 1 ≤ d → d < 10 → next (at xs [] Minus) (48 + d) ≡ at xs [] (Under d)
  unfolding next turn
  first_below d l h = simp (le-leb 48 (48 + d) (omega arith), le-leb (48 + d) 57 (omega arith), lt-ltb 48 (48 + d) (omega arith), minus-48 d, append-nil)

  pub above-back : (n : ℕ) → n ≤ reach → after (at xs [] Coord) (numeral n) ≡ at xs [] (Above n)
  above-back n h =
      numeral-back (at xs [] Coord) (λ k. at xs [] (Above k)) 0 reach (omega arith) (λ d a b c. first_above d b)
      (λ k d p b c. above-digit xs k (48 + d) (digit-is k d reach p b c) ∙ ap (λ (z : ℕ). at xs [] (Above (10 * k + z))) (minus-48 d))
      (omega arith) n (omega arith) h

  pub below-back : (n : ℕ) → 1 ≤ n → n ≤ reach → after (at xs [] Minus) (numeral n) ≡ at xs [] (Under n)
  below-back n l h =
      numeral-back (at xs [] Minus) (λ k. at xs [] (Under k)) 1 reach (omega arith) (λ d a b c. first_below d a b)
      (λ k d p b c. below-digit xs k (48 + d) (digit-is k d reach p b c) ∙ ap (λ (z : ℕ). at xs [] (Under (10 * k + z))) (minus-48 d))
      (omega arith) n l h

module _ (xs : List ℤ) (fs : List ℕ) where
  first-corner : (d : ℕ) → 1 ≤ d → d < 10 → d ≤ length xs / 3 → next (at xs fs Corner) (48 + d) ≡ at xs fs (Number d)
  unfolding next turn
  first-corner d l h b =
      simp (le-leb 48 (48 + d) (omega arith), le-leb (48 + d) 57 (omega arith), lt-ltb 48 (48 + d) (omega arith), minus-48 d, le-leb d (length xs / 3) b, append-nil)

  pub corner-back : (n : ℕ) → length xs / 3 ≤ reach → 1 ≤ n → n ≤ length xs / 3 → after (at xs fs Corner) (numeral n) ≡ at xs fs (Number n)
  corner-back n w l h =
      numeral-back (at xs fs Corner) (λ k. at xs fs (Number k)) 1 (length xs / 3) (omega arith) (λ d a b c. first-corner d a b c)
      (λ k d p b c. number-digit xs fs k (48 + d) (digit-is k d (length xs / 3) p b c) ∙ ap (λ (z : ℕ). at xs fs (Number (10 * k + z))) (minus-48 d))
      w n l h
