-- Laws of the chains: what is found along one is what a search of all sides finds; and what check 7 asks, as the last side that passes.
use mathlib.Core.Path.{◌≡◌, refl, sym, ap, ◌∙◌}
use Prim.Native.Nat.{ℕ, zero, suc, ◌+◌, ◌-◌, ◌≤◌, ◌<◌}
use native.Mathlib.Omega.{arith}
use native.Mathlib.Numerals.{add-one}
use mathlib.Core.Bool.{Bool, true, false, not}
use mathlib.Core.List.{List}
use mathlib.Core.Option.{Option}
use lib.Dec.{T, T_not, eqb, ltb}
use lib.ListN.{length, get_or, set, length-set, take, replicate, get_or-replicate, length-replicate}
use lib.Seq.{get_or-set_same, get_or-set_other, get_or-take, length-take-le}
use borrow.Author.Tests.{eq-eqb, ne_eqb, eqb-true, eqb-false, lt-ltb, le-ltb}
use Rattle.lists.specs.Lists.{pick, find, found}
use Rattle.lists.proofs.Places.{look, Look, nowhere, there}
use Rattle.rules.specs.Mesh.{onward, corner, Side, side, sides}
use Rattle.rules.specs.Refusals.{same, used_before}
use Rattle.rules.proofs.Sides.{length-sides, get_or-sides}
use Rattle.cage.specs.Chains.{last_below, leaves, runs, Heads, Chained}
use Rattle.limits.proofs.Search.{failed}

module _ (p : ℕ → Bool) where
  last-le-by : (b : Bool) (k : ℕ) → p k ≡ b → last_below p k ≤ k → last_below p (suc k) ≤ suc k
  unfolding last_below
  last-le-by true k e h = rw e (omega arith)
  last-le-by false k e h = rw e (omega arith)

  pub last-le : (n : ℕ) → last_below p n ≤ n
  unfolding last_below
  last-le zero = omega arith
  last-le (suc k) = last-le-by (p k) k refl (last-le k)

  last-is-by : (b : Bool) (k : ℕ) → p k ≡ b → (0 < last_below p k → p (last_below p k - 1) ≡ true) → 0 < last_below p (suc k) → p (last_below p (suc k) - 1) ≡ true
  unfolding last_below
  last-is-by true k e f h = let q : suc k - 1 ≡ k = omega arith in rw (e, q) e
  last-is-by false k e f h = rw e (f (rw e at h))

  pub last-is : (n : ℕ) → 0 < last_below p n → p (last_below p n - 1) ≡ true
  unfolding last_below
  last-is zero h = absurd (omega arith)
  last-is (suc k) h = last-is-by (p k) k refl (last-is k) h

  pub last_more : (n : ℕ) → last_below p (n + 1) ≡ pick (p n) (n + 1) (last_below p n)
  unfolding last_below
  last_more n = rw add-one

  pub last_turn : (h : ℕ) → 0 < h → last_below p h ≡ pick (p (h - 1)) h (last_below p (h - 1))
  last_turn h l = let q : h - 1 + 1 ≡ h = omega arith in rw q at (last_more (h - 1))

  pub last_none : last_below p 0 ≡ 0
  unfolding last_below
  last_none = refl

  -- nothing passes from there on
  last-after-by : (b : Bool) (n k : ℕ) → p n ≡ b → (last_below p n ≤ k → k < n → p k ≡ false) → last_below p (suc n) ≤ k → k < suc n → p k ≡ false
  unfolding last_below
  last-after-by true n k e f h l = absurd (let z : suc n ≤ k = rw e at h in omega arith)
  last-after-by false n k e f h l = go (eqb k n) refl
    where
      go : (b : Bool) → eqb k n ≡ b → p k ≡ false
      go true q = ap p (eqb-true k n q) ∙ e
      go false q = let d = eqb-false k n q in f (rw e at h) (omega arith)

  pub last-after : (n k : ℕ) → last_below p n ≤ k → k < n → p k ≡ false
  last-after zero k h l = absurd (omega arith)
  last-after (suc n) k h l = last-after-by (p n) n k refl (last-after n k) h l

  -- the last one is one past k where k passes and none after it does
  pub last-at : (n k : ℕ) → k < n → p k ≡ true → ((j : ℕ) → k < j → j < n → p j ≡ false) → last_below p n ≡ suc k
  last-at n k h t f =
      let m = last_below p n in
      let a : ¬ (m ≤ k) = λ l. clash (p k) t (last-after n k l h) in
      let b : ¬ (suc k < m) = λ l. clash (p (m - 1)) (last-is n (omega arith)) (f (m - 1) (omega arith) (omega (arith, last-le n))) in
      omega arith
    where
      clash : (x : Bool) → x ≡ true → x ≡ false → ⊥
      clash x e q = let z : ◌≡◌ {A = ℕ} 0 1 = cc in omega arith

  pub last-nowhere : (n : ℕ) → ((j : ℕ) → j < n → p j ≡ false) → last_below p n ≡ 0
  last-nowhere n f =
      let m = last_below p n in
      let b : ¬ (0 < m) = λ l. clash (p (m - 1)) (last-is n l) (f (m - 1) (omega (arith, last-le n))) in
      omega arith
    where
      clash : (x : Bool) → x ≡ true → x ≡ false → ⊥
      clash x e q = let z : ◌≡◌ {A = ℕ} 0 1 = cc in omega arith

-- where q passes only if p does, the last of q is sought below the last of p
module _ (p q : ℕ → Bool) (only : (k : ℕ) → p k ≡ false → q k ≡ false) where
  last-within-by : (b : Bool) (k : ℕ) → p k ≡ b → last_below q k ≡ last_below q (last_below p k) → last_below q (suc k) ≡ last_below q (last_below p (suc k))
  unfolding last_below
  last-within-by true k e h = let z : last_below p (suc k) ≡ suc k = rw e in ap (last_below q) (sym z)
  last-within-by false k e h = rw (e, only k e) h

  pub last_within : (n : ℕ) → last_below q n ≡ last_below q (last_below p n)
  unfolding last_below
  last_within zero = refl
  last_within (suc k) = last-within-by (p k) k refl (last_within k)

-- ---- along a chain

pub eqb-sym : (a b : ℕ) → eqb a b ≡ eqb b a
eqb-sym a b = go (eqb b a) refl
  where
    go : (x : Bool) → eqb b a ≡ x → eqb a b ≡ x
    go true e = eq-eqb a b (sym (eqb-true b a e))
    go false e = ne_eqb a b (λ z. eqb-false b a e (sym z))

module _ (fs : List ℕ) where
  runs-leaves : (a b k : ℕ) → leaves fs a k ≡ false → runs fs a b k ≡ false
  runs-leaves a b k e = rw (eqb-sym a (corner fs k), e)

  -- from the last that leaves a
  pub runs-from : (a b n h : ℕ) → h ≡ last_below (leaves fs a) n → last_below (runs fs (corner fs (h - 1)) b) h ≡ last_below (runs fs a b) n
  runs-from a b n h e = go (eqb h 0) refl
    where
      within : last_below (runs fs a b) n ≡ last_below (runs fs a b) h
      within = rw e (last_within (leaves fs a) (runs fs a b) (runs-leaves a b) n)

      go : (x : Bool) → eqb h 0 ≡ x → last_below (runs fs (corner fs (h - 1)) b) h ≡ last_below (runs fs a b) n
      go true q =
          let z : h ≡ 0 = eqb-true h 0 q in
          ap (last_below (runs fs (corner fs (h - 1)) b)) z ∙ last_none _ ∙ sym (within ∙ ap (last_below (runs fs a b)) z ∙ last_none _)
      go false q =
          let z : 0 < h = let d = eqb-false h 0 q in omega arith in
          let c : corner fs (h - 1) ≡ a = eqb-true _ _ (rw (← e) at (last-is (leaves fs a) n (rw (← e) z))) in
          ap (λ (x : ℕ). last_below (runs fs x b) h) c ∙ sym within

  runs-at : (a b k : ℕ) → corner fs k ≡ a → runs fs a b k ≡ eqb b (corner fs (onward k))
  runs-at a b k e = rw (eq-eqb a (corner fs k) (sym e))

  -- one side of a chain: it is the one, or the next is asked
  pub runs-turn : (a b h : ℕ) → 0 < h → corner fs (h - 1) ≡ a →
      last_below (runs fs a b) h ≡ pick (eqb b (corner fs (onward (h - 1)))) h (last_below (runs fs a b) (h - 1))
  runs-turn a b h l e = last_turn (runs fs a b) h l ∙ ap (λ (x : Bool). pick x h (last_below (runs fs a b) (h - 1))) (runs-at a b (h - 1) e)

  -- to the next
  pub runs-next : (a b h m : ℕ) → m ≡ last_below (leaves fs a) h → last_below (runs fs a b) h ≡ last_below (runs fs a b) m
  runs-next a b h m e = rw e (last_within (leaves fs a) (runs fs a b) (runs-leaves a b) h)

-- ---- one side more

module _ (fs : List ℕ) (s : ℕ) where
  heads-by : (b : Bool) (heads : List ℕ) (a : ℕ) → eqb (corner fs s) a ≡ b → corner fs s < length heads → get_or heads a 0 ≡ last_below (leaves fs a) s
      → get_or (set heads (corner fs s) (s + 1)) a 0 ≡ last_below (leaves fs a) (s + 1)
  heads-by true heads a e l h =
      let q : corner fs s ≡ a = eqb-true (corner fs s) a e in
      ap (λ (z : ℕ). get_or (set heads (corner fs s) (s + 1)) z 0) (sym q) ∙ get_or-set_same heads (corner fs s) (s + 1) 0 l
      ∙ sym (last_more (leaves fs a) s ∙ rw e)
  heads-by false heads a e l h =
      get_or-set_other heads (corner fs s) a (s + 1) 0 (λ q. eqb-false (corner fs s) a e (sym q)) ∙ h ∙ sym (last_more (leaves fs a) s ∙ rw e)

  pub heads-more : (heads : List ℕ) → corner fs s < length heads → Heads fs s heads → Heads fs (s + 1) (set heads (corner fs s) (s + 1))
  heads-more heads l h = record { head = λ a k. heads-by (eqb (corner fs s) a) heads a refl l (h.head a (rw (length-set heads (corner fs s) (s + 1)) at k)) }

  chained-by : (b : Bool) (nexts : List ℕ) (x k : ℕ) → eqb k s ≡ b → s < length nexts → k < s + 1 → x ≡ last_below (leaves fs (corner fs s)) s → Chained fs s nexts
      → get_or (set nexts s x) k 0 ≡ last_below (leaves fs (corner fs k)) k
  chained-by true nexts x k e l p q h = let z : k ≡ s = eqb-true k s e in rw z (get_or-set_same nexts s x 0 l ∙ q)
  chained-by false nexts x k e l p q h =
      let n : k ≡ s → ⊥ = eqb-false k s e in
      get_or-set_other nexts s k x 0 n ∙ h.next k (omega arith)

  pub chained_more : (nexts : List ℕ) (x : ℕ) → x ≡ last_below (leaves fs (corner fs s)) s → s < length nexts → Chained fs s nexts → Chained fs (s + 1) (set nexts s x)
  chained_more nexts x q l h = record { room = rw length-set h.room; next = λ k p. chained-by (eqb k s) nexts x k refl l p q h }

-- before the first side

pub heads-none : (fs : List ℕ) (n : ℕ) → Heads fs 0 (replicate n 0)
heads-none fs n = record { head = λ a h. get_or-replicate n a 0 0 (rw (length-replicate {A = ℕ} n 0) at h) ∙ sym (last_none (leaves fs a)) }

pub chained-none : (fs : List ℕ) (n : ℕ) → length fs ≤ n → Chained fs 0 (replicate n 0)
chained-none fs n h = record { room = rw (length-replicate {A = ℕ} n 0) h; next = λ s l. absurd (omega arith) }

-- ---- check 7

pub found-last : {A : Type 0} (p : A → Bool) (d : A) (l : List A) (q : ℕ → Bool) → ((k : ℕ) → k < length l → q k ≡ p (get_or l k d)) → found (find p l) ≡ ltb 0 (last_below q (length l))
found-last p d l q e = go (find p l) (look p d l)
  where
    go : (o : Option ℕ) → Look p l d o → found o ≡ ltb 0 (last_below q (length l))
    go _ (nowhere n) = sym (le-ltb 0 (last_below q (length l)) (omega (arith, last-nowhere q (length l) (λ j h. e j h ∙ off (p (get_or l j d)) (n j h)))))
      where
        off : (b : Bool) → T (not b) → b ≡ false
        off true t = absurd t
        off false t = refl
    go _ (there i f) = sym (lt-ltb 0 (last_below q (length l)) (above (eqb (last_below q (length l)) 0) refl))
      where
        above : (b : Bool) → eqb (last_below q (length l)) 0 ≡ b → 0 < last_below q (length l)
        above true z =
            let y : last_below q (length l) ≡ 0 = eqb-true _ 0 z in
            absurd (T_not (p (get_or l i d)) (failed _ (sym (e i f.below) ∙ last-after q (length l) i (omega arith) f.below)) f.passes)
        above false z = let y = eqb-false (last_below q (length l)) 0 z in omega arith

pub used-is : (fs : List ℕ) (s : ℕ) → s < length fs → used_before (sides fs) s ≡ ltb 0 (last_below (runs fs (corner fs s) (corner fs (onward s))) s)
used-is fs s h =
    let ss = sides fs in
    let d : Side = record { from = 0; to = 0 } in
    let n : length (take s ss) ≡ s = length-take-le s ss (omega (arith, length-sides fs)) in
    rw (get_or-sides fs s d h) (
    found-last (same (side fs s)) d (take s ss) (runs fs (corner fs s) (corner fs (onward s)))
    (λ k l. let b : k < s = rw n at l in sym (ap (same (side fs s)) (get_or-take s ss k d b ∙ get_or-sides fs k d (omega arith))))
    ∙ ap (λ (m : ℕ). ltb 0 (last_below (runs fs (corner fs s) (corner fs (onward s))) m)) n)
