-- Counting: the k-th of those that pass, and as many different numbers that pass as there are.
use mathlib.Core.Path.{◌≡◌, refl, sym, ap, ◌∙◌}
use mathlib.Core.Logic.{◌≢◌}
use Prim.Native.Nat.{ℕ, zero, suc, ◌+◌, ◌-◌, ◌<◌, ◌≤◌, zero-le, suc-le-suc}
use native.Mathlib.Nat.{le_of_suc-le-suc, not-suc-le-zero}
use native.Mathlib.Omega.{arith}
use native.Mathlib.Decide.{ℕ_discrete}
use mathlib.Core.Bool.{Bool, true, false, not, ◌&&◌}
use mathlib.Core.List.{List, [], ◌∷◌, ◌++◌}
use mathlib.Core.Option.{Option}
use lib.Dec.{T, T_not, eqb, eqb→eq, eqb_refl}
use lib.Ieee.Fits.{and_i, eq→eqb}
use lib.ListN.{length, get_or}
pub use Rattle.lists.specs.Lists.{At}
use Rattle.lists.specs.Lists.{pick, bit, count, find, keep, tally}
use Rattle.lists.proofs.Places.{length-count, get_or-count, Look, nowhere, there, look, rank-suc, length-keep}

-- ---- the k-th of those that pass

pub record Kept (p : ℕ → Bool) (i n k s : ℕ) : Type 0 where
  pub above : i ≤ s
  pub below : s < i + n
  pub passes : T (p s)
  pub rank : tally p (count i (s - i)) ≡ k

module _ (p : ℕ → Bool) where
  wider : {i n k j s : ℕ} → Kept p (suc i) n j s → bit (p i) + j ≡ k → Kept p i (suc n) k s
  wider {i} {s} w q =
      let e : s - i ≡ suc (s - suc i) = omega (arith, w.above) in
      record { above = omega (arith, w.above); below = omega (arith, w.below); passes = w.passes; rank = rw (e, w.rank) q }

  kept_step : (i n k : ℕ) (b : Bool) → p i ≡ b → ((j : ℕ) → j < length (keep p (count (suc i) n)) → Kept p (suc i) n j (get_or (keep p (count (suc i) n)) j 0))
      → k < length (pick b (i ∷ keep p (count (suc i) n)) (keep p (count (suc i) n))) → Kept p i (suc n) k (get_or (pick b (i ∷ keep p (count (suc i) n)) (keep p (count (suc i) n))) k 0)
  kept_step i n zero true e rec h =
      let z : i - i ≡ 0 = omega arith in
      record { above = omega arith; below = omega arith; passes = rw e tt; rank = rw z }
  kept_step i n (suc j) true e rec h = wider (rec j (le_of_suc-le-suc h)) (rw e (omega arith))
  kept_step i n zero false e rec h = wider (rec 0 h) (rw e (omega arith))
  kept_step i n (suc j) false e rec h = wider (rec (suc j) h) (rw e (omega arith))

  pub kept : (i n k : ℕ) → k < length (keep p (count i n)) → Kept p i n k (get_or (keep p (count i n)) k 0)
  kept i zero k h = absurd (not-suc-le-zero h)
  kept i (suc n) k h = kept_step i n k (p i) refl (λ j. kept (suc i) n j) h

-- ---- one number taken out

abbrev pub without : (ℕ → Bool) → ℕ → ℕ → Bool
without p a x = p x && not (eqb x a)

pub tally-same : (p q : ℕ → Bool) (n : ℕ) → ((x : ℕ) → x < n → p x ≡ q x) → tally p (count 0 n) ≡ tally q (count 0 n)
tally-same p q zero h = refl
tally-same p q (suc n) h =
    rank-suc p n ∙ omega (arith, tally-same p q n (λ x k. h x (omega arith)), ap bit (h n (omega arith))) ∙ sym (rank-suc q n)

and-true : (b : Bool) → (b && true) ≡ b
and-true true = refl
and-true false = refl

not_eqb : (x a : ℕ) → x ≢ a → not (eqb x a) ≡ true
not_eqb x a h = go (eqb x a) refl
  where
    go : (c : Bool) → eqb x a ≡ c → not c ≡ true
    go true e = absurd (h (eqb→eq x a (rw e tt)))
    go false e = refl

without_other : (p : ℕ → Bool) (a x : ℕ) → x ≢ a → p x ≡ without p a x
without_other p a x h = sym (ap (λ (c : Bool). p x && c) (not_eqb x a h) ∙ and-true (p x))

T_true : (b : Bool) → T b → b ≡ true
T_true true t = refl
T_true false t = absurd t

without-self : (p : ℕ → Bool) (a : ℕ) → T (p a) → (bit (p a) ≡ 1) × (bit (without p a a) ≡ 0)
without-self p a t = rw (T_true (p a) t, T_true (eqb a a) (eqb_refl a)) (refl, refl)

pub tally-without : (p : ℕ → Bool) (a n : ℕ) → a < n → T (p a) → tally p (count 0 n) ≡ suc (tally (without p a) (count 0 n))
tally-without p a zero h t = absurd (not-suc-le-zero h)
tally-without p a (suc n) h t = rw (rank-suc p n, rank-suc (without p a) n) (go (λ k. tally-without p a n k t) (ℕ_discrete a n))
  where
    go : (a < n → tally p (count 0 n) ≡ suc (tally (without p a) (count 0 n))) → Dec (a ≡ n) → tally p (count 0 n) + bit (p n) ≡ suc (tally (without p a) (count 0 n) + bit (without p a n))
    go rec (yes e) =
        let w = without-self p a t in
        let l = tally-same p (without p a) n (λ x k. without_other p a x (omega arith)) in
        rw (← e) (omega (arith, w.0, w.1, rw (← e) at l))
    go rec (no f) =
        let b = ap bit (without_other p a n (λ q. f (sym q))) in
        omega (arith, rec (omega arith), b)

-- ---- m different numbers below n that pass

pub record Into (f : ℕ → ℕ) (m : ℕ) (p : ℕ → Bool) (n : ℕ) : Type 0 where
  pub below : (i : ℕ) → i < m → f i < n
  pub passes : (i : ℕ) → i < m → T (p (f i))
  pub apart : (i j : ℕ) → i < j → j < m → f i ≢ f j

into-without : {f : ℕ → ℕ} {m : ℕ} {p : ℕ → Bool} {n : ℕ} (a : ℕ) → Into f m p n → ((i : ℕ) → i < m → f i ≢ a) → Into f m (without p a) n
into-without {f} {p} a w h = record {
  below = w.below;
  passes = λ i k. and_i (p (f i)) (not (eqb (f i) a)) (w.passes i k) (rw (not_eqb (f i) a (h i k)) tt);
  apart = w.apart;
}

into-fewer : {f : ℕ → ℕ} {m : ℕ} {p : ℕ → Bool} {n : ℕ} → Into f (suc m) p n → Into f m p n
into-fewer w = record { below = λ i h. w.below i (omega arith); passes = λ i h. w.passes i (omega arith); apart = λ i j h k. w.apart i j h (omega arith) }

pub at_most : (f : ℕ → ℕ) (m : ℕ) (p : ℕ → Bool) (n : ℕ) → Into f m p n → m ≤ tally p (count 0 n)
at_most f zero p n w = zero-le
at_most f (suc m) p n w =
    rw (tally-without p (f m) n (w.below m (omega arith)) (w.passes m (omega arith)))
    (suc-le-suc (at_most f m (without p (f m)) n (into-without (f m) (into-fewer w) (λ i h. w.apart i m h (omega arith)))))

-- where they are all that pass, each that passes is one of them
pub each-is : (f : ℕ → ℕ) (m : ℕ) (p : ℕ → Bool) (n : ℕ) → Into f m p n → tally p (count 0 n) ≤ m → (x : ℕ) → x < n → T (p x) → At f m x
each-is f m p n w l x h t = go (find (λ i. eqb (f i) x) (count 0 m)) (look (λ i. eqb (f i) x) 0 (count 0 m))
  where
    at : (i : ℕ) → i < m → get_or (count 0 m) i 0 ≡ i
    at i k = get_or-count 0 m i 0 k ∙ omega arith

    go : (o : Option ℕ) → Look (λ i. eqb (f i) x) (count 0 m) 0 o → At f m x
    go o (nowhere none-at) =
        let other : (i : ℕ) → i < m → f i ≢ x = λ i k e. T_not (eqb (f i) x) (rw (at i k) at (none-at i (rw (length-count 0 m) k))) (eq→eqb e) in
        absurd (omega (arith, at_most f m (without p x) n (into-without x w other), tally-without p x n h t))
    go o (there i found) =
        let k : i < m = rw (length-count 0 m) at found.below in
        record { place = i; below = k; is = eqb→eq (f i) x (rw (at i k) at found.passes) }

-- a number that passes counts
pub all_pass : (n : ℕ) → tally (λ x. true) (count 0 n) ≡ n
all_pass zero = refl
all_pass (suc n) = rank-suc (λ x. true) n ∙ omega (arith, all_pass n)

-- ---- tallies

pub tally-append : {A : Type 0} (p : A → Bool) (a b : List A) → tally p (a ++ b) ≡ tally p a + tally p b
tally-append p [] b = omega arith
tally-append p (x ∷ a) b = omega (arith, tally-append p a b)

pub tally-places : {A : Type 0} (p : A → Bool) (d : A) (l : List A) (i : ℕ) (q : ℕ → Bool) → ((k : ℕ) → k < length l → q (i + k) ≡ p (get_or l k d)) → tally p l ≡ tally q (count i (length l))
tally-places p d [] i q h = refl
tally-places p d (x ∷ l) i q h =
    let e : i + 0 ≡ i = omega arith in
    let a : q i ≡ p x = rw e at (h 0 (omega arith)) in
    omega (arith, ap bit a, tally-places p d l (suc i) q (λ k b. let z : suc i + k ≡ i + suc k = omega arith in rw z (h (suc k) (suc-le-suc b))))

-- those that pass p, by another test q
bit-split : (a b : Bool) → bit a ≡ bit (a && b) + bit (a && not b)
bit-split true true = refl
bit-split true false = refl
bit-split false b = refl

pub tally-split : (p q : ℕ → Bool) (n : ℕ) → tally p (count 0 n) ≡ tally (λ x. p x && q x) (count 0 n) + tally (λ x. p x && not (q x)) (count 0 n)
tally-split p q zero = refl
tally-split p q (suc n) =
    rw (rank-suc p n, rank-suc (λ x. p x && q x) n, rank-suc (λ x. p x && not (q x)) n)
    (omega (arith, bit-split (p n) (q n), tally-split p q n))

-- a one-to-one map from those that pass q into those that pass p
pub tally-into : (q p : ℕ → Bool) (f : ℕ → ℕ) (n : ℕ) → ((s : ℕ) → s < n → T (q s) → (f s < n) × T (p (f s)))
    → ((s t : ℕ) → s < n → t < n → T (q s) → T (q t) → f s ≡ f t → s ≡ t) → tally q (count 0 n) ≤ tally p (count 0 n)
tally-into q p f n to one =
    rw (length-keep q (count 0 n)) at (at_most (λ i. f (get_or (keep q (count 0 n)) i 0)) (length (keep q (count 0 n))) p n
    (record {
      below = λ i h. let k = kept q 0 n i h in (to _ (omega (arith, k.below)) k.passes).0;
      passes = λ i h. let k = kept q 0 n i h in (to _ (omega (arith, k.below)) k.passes).1;
      apart = λ i j h l e.
          let k = kept q 0 n i (omega arith) in
          let m = kept q 0 n j l in
          let z = one _ _ (omega (arith, k.below)) (omega (arith, m.below)) k.passes m.passes e in
          omega (arith, k.rank, m.rank, ap (λ (x : ℕ). tally q (count 0 (x - 0))) z);
    }))

-- the same, of a list of numbers from its first place on
pub tally-at : (p : ℕ → Bool) (l : List ℕ) → tally p l ≡ tally (λ i. p (get_or l i 0)) (count 0 (length l))
tally-at p l = tally-places p 0 l 0 (λ i. p (get_or l i 0)) (λ i h. ap (λ (z : ℕ). p (get_or l z 0)) (omega arith))
