-- The bit pattern of a rounded fraction, by the digits that `round` drops and the number that it keeps.
use Rattle.std.proofs.Common.{◌≡◌, ℕ, zero, suc, ◌+◌, ◌-◌, ◌*◌, ◌/◌, ◌%◌, ◌^◌, ◌<◌, ◌≤◌, min, Bool, true, false, cond, not, T, ltb, ◌⊎◌, sym, refl, ap, ◌∙◌, subst, inl, inr, le_trans, le_of_eq, lt_of_lt_of_le, lt_of_le_of_lt, add_assoc, lt_irrefl, mul-le-mul_right, eq-zero-or-pos, le_antisymm, lt_of_mul-lt-mul_right, eq-or-lt_of_le, lt_of_not-le, le-div_iff_mul-le, mul-one, le_of_mul-le-mul_right, div-one, mul-div_cancel, arith, lit<, lit≤, ltb→lt, nltb→le, pow_pos, pow_mono, pow-add, shl_lt}
use Prim.Native.Nat.{compare}
use native.Mathlib.Nat.{div-div-eq-div-mul}
use lib.Pow.{pow-lt}
use lib.Ieee.{Float, nan, inf, fin, binary32, down, size, odd, units, round, to_bits}
use lib.Ieee.Digits.{size-lt, size-le, size_reaches}
use lib.Ieee.Fits.{round_is, nearest-le, kept-lt, down_pos}
use lib.Ieee.Exact.{HasValue, odd_sign}
use lib.Ieee.Nearest.{closest, nearest-ge}
use lib.Ieee.Order.{drop, kept}
use Rattle.vectors.specs.Narrow.{sign}

pow_lt_back : (i p : ℕ) → 2 ^ i < 2 ^ p → i < p
pow_lt_back i p h = lt_of_not-le (λ (g : p ≤ i). lt_irrefl (2 ^ i) (lt_of_lt_of_le h (pow_mono g)))

pub size_exact : (a n : ℕ) → 2 ^ a ≤ n → n < 2 ^ suc a → size n ≡ suc a
size_exact a n lo hi = le_antisymm (size-le n (suc a) hi) (pow_lt_back a (size n) (lt_of_le_of_lt lo (size-lt n)))

-- the pattern of a value that is a of the smallest values
pattern : (v : Float) (s : Bool) (a : ℕ) → HasValue v s a (2 ^ 149) → to_bits binary32 v ≡ sign s + (size a - 24) * 2 ^ 23 + a / 2 ^ (size a - 24)
unfolding to_bits
pattern nan s a h = absurd h
pattern (inf t) s a h = absurd h
pattern (fin t m e) s a h =
    ap (λ (n : ℕ). sign t + (size n - 24) * 2 ^ 23 + n / 2 ^ (size n - 24)) (ap (λ (x : ℕ). x / down e) h.1 ∙ mul-div_cancel a (down_pos e))
    ∙ ap (λ (b : Bool). sign b + (size a - 24) * 2 ^ 23 + a / 2 ^ (size a - 24)) h.0

-- q * 2 ^ k, where q has 24 digits, or 25 and is the least of those, or fewer and k is 0
written : (q k : ℕ) → q ≤ 2 ^ 24 → (0 < k → 2 ^ 23 ≤ q) → (size (q * 2 ^ k) - 24) * 2 ^ 23 + q * 2 ^ k / 2 ^ (size (q * 2 ^ k) - 24) ≡ k * 2 ^ 23 + q
written q k hi lo = go (eq-or-lt_of_le hi)
  where
    at : (j : ℕ) → size (q * 2 ^ k) - 24 ≡ j → (size (q * 2 ^ k) - 24) * 2 ^ 23 + q * 2 ^ k / 2 ^ (size (q * 2 ^ k) - 24) ≡ j * 2 ^ 23 + q * 2 ^ k / 2 ^ j
    at j e = ap (λ (x : ℕ). x * 2 ^ 23 + q * 2 ^ k / 2 ^ x) e

    same : (z k : ℕ) → z ≡ suc (23 + k) → z - 24 ≡ k
    same z k h = omega arith

    more : (z k : ℕ) → z ≡ suc (24 + k) → z - 24 ≡ suc k
    more z k h = omega arith

    lead : (k : ℕ) → 24 + k ≡ suc (23 + k)
    lead k = omega arith

    fewer : (z : ℕ) → z ≤ 23 → z - 24 ≡ 0
    fewer z h = omega arith

    carried : (k : ℕ) → suc k * 8388608 + 8388608 ≡ k * 8388608 + 16777216
    carried k = omega arith

    top : (p : ℕ) → 2 ^ 24 * 2 ^ k ≡ 2 ^ 23 * 2 ^ suc k
    top p = sym (pow-add 2 24 k) ∙ ap (λ (x : ℕ). 2 ^ x) (shift k) ∙ pow-add 2 23 (suc k)
      where
        shift : (k : ℕ) → 24 + k ≡ 23 + suc k
        shift k = omega arith

    below : q < 2 ^ 24 → (z : (q < 2 ^ 23) ⊎ (2 ^ 23 ≤ q)) → (size (q * 2 ^ k) - 24) * 2 ^ 23 + q * 2 ^ k / 2 ^ (size (q * 2 ^ k) - 24) ≡ k * 2 ^ 23 + q
    below l (inr g) =
        let a : 2 ^ (23 + k) ≤ q * 2 ^ k = subst (λ (x : ℕ). x ≤ q * 2 ^ k) (sym (pow-add 2 23 k)) (mul-le-mul_right (2 ^ k) g) in
        at k (same (size (q * 2 ^ k)) k (size_exact (23 + k) (q * 2 ^ k) a (subst (λ (x : ℕ). q * 2 ^ k < 2 ^ x) (lead k) (shl_lt 24 k l)))) ∙ ap (λ (x : ℕ). k * 2 ^ 23 + x) (mul-div_cancel q (pow_pos k))
    below l (inl g) =
        let z : k ≡ 0 = elim (eq-zero-or-pos k) [ inl e ↦ e | inr p ↦ absurd (lt_irrefl q (lt_of_lt_of_le g (lo p))) ] in
        let n : q * 2 ^ k ≡ q = ap (λ (x : ℕ). q * 2 ^ x) z ∙ mul-one q in
        at 0 (fewer (size (q * 2 ^ k)) (size-le (q * 2 ^ k) 23 (subst (λ (x : ℕ). x < 2 ^ 23) (sym n) g)))
        ∙ ap (λ (x : ℕ). 0 * 2 ^ 23 + x) (div-one (q * 2 ^ k) ∙ n) ∙ ap (λ (x : ℕ). x * 2 ^ 23 + q) (sym z)

    split : (q p : ℕ) → (q < p) ⊎ (p ≤ q)
    split q p = pick (ltb q p) (ltb→lt q p) (nltb→le q p)
      where
        pick : (b : Bool) → (T b → q < p) → (T (not b) → p ≤ q) → (q < p) ⊎ (p ≤ q)
        pick true x y = inl (x tt)
        pick false x y = inr (y tt)

    go : (q ≡ 2 ^ 24) ⊎ (q < 2 ^ 24) → (size (q * 2 ^ k) - 24) * 2 ^ 23 + q * 2 ^ k / 2 ^ (size (q * 2 ^ k) - 24) ≡ k * 2 ^ 23 + q
    go (inr l) = below l (split q (2 ^ 23))
    go (inl e) =
        let n : q * 2 ^ k ≡ 2 ^ 24 * 2 ^ k = ap (λ (x : ℕ). x * 2 ^ k) e in
        let p : q * 2 ^ k ≡ 2 ^ (24 + k) = n ∙ sym (pow-add 2 24 k) in
        at (suc k) (more (size (q * 2 ^ k)) k (size_exact (24 + k) (q * 2 ^ k) (le_of_eq (sym p)) (lt_of_le_of_lt (le_of_eq p) (pow-lt (bit (24 + k))))))
        ∙ ap (λ (x : ℕ). suc k * 2 ^ 23 + x) (ap (λ (x : ℕ). x / 2 ^ suc k) (n ∙ top 0) ∙ mul-div_cancel (2 ^ 23) (pow_pos (suc k)))
        ∙ carried k ∙ ap (λ (x : ℕ). k * 2 ^ 23 + x) (sym e)
      where
        bit : (k : ℕ) → k < suc k
        bit k = omega arith

-- below 2 ^ 128 the pattern is at most the infinity's, and from there on it is no less
within : (q k : ℕ) → q ≤ 2 ^ 24 → (0 < k → 2 ^ 23 ≤ q) → q * 2 ^ k < 2 ^ 277 → k * 2 ^ 23 + q ≤ 255 * 2 ^ 23
within q zero hi lo h = small q hi
  where
    small : (q : ℕ) → q ≤ 16777216 → 0 * 8388608 + q ≤ 2139095040
    small q h = omega arith
within q (suc k) hi lo h =
    let a : 2 ^ (23 + suc k) < 2 ^ 277 = lt_of_le_of_lt (le_trans (le_of_eq (pow-add 2 23 (suc k))) (mul-le-mul_right (2 ^ suc k) (lo (one k)))) h in
    go (eq-or-lt_of_le (lower k (pow_lt_back (23 + suc k) 277 a)))
  where
    one : (k : ℕ) → 0 < suc k
    one k = omega arith

    lower : (k : ℕ) → 23 + suc k < 277 → k ≤ 252
    lower k h = omega arith

    last : (q k : ℕ) → k ≡ 252 → q < 16777216 → suc k * 8388608 + q ≤ 2139095040
    last q k h l = omega arith

    rest : (q k : ℕ) → k < 252 → q ≤ 16777216 → suc k * 8388608 + q ≤ 2139095040
    rest q k h l = omega arith

    go : (k ≡ 252) ⊎ (k < 252) → suc k * 2 ^ 23 + q ≤ 255 * 2 ^ 23
    go (inl e) = last q k e (lt_of_mul-lt-mul_right (2 ^ 253) (lt_of_lt_of_le (subst (λ (x : ℕ). q * 2 ^ suc x < 2 ^ 277) e h) (lit≤ tt)))
    go (inr l) = rest q k l hi

beyond : (q k : ℕ) → q ≤ 2 ^ 24 → (0 < k → 2 ^ 23 ≤ q) → 2 ^ 277 ≤ q * 2 ^ k → 255 * 2 ^ 23 ≤ k * 2 ^ 23 + q
beyond q k hi lo h =
    let a : 2 ^ 277 < 2 ^ suc (24 + k) = lt_of_le_of_lt (le_trans h (le_trans (mul-le-mul_right (2 ^ k) hi) (le_of_eq (sym (pow-add 2 24 k))))) (pow-lt (bit (24 + k))) in
    go (eq-or-lt_of_le (upper k (pow_lt_back 277 (suc (24 + k)) a)))
  where
    bit : (k : ℕ) → k < suc k
    bit k = omega arith

    upper : (k : ℕ) → 277 < suc (24 + k) → 253 ≤ k
    upper k h = omega arith

    at : (q k : ℕ) → 253 ≡ k → 16777216 ≤ q → 2139095040 ≤ k * 8388608 + q
    at q k h l = omega arith

    past : (q k : ℕ) → 253 < k → 8388608 ≤ q → 2139095040 ≤ k * 8388608 + q
    past q k h l = omega arith

    some : (k : ℕ) → 253 < k → 0 < k
    some k h = omega arith

    go : (253 ≡ k) ⊎ (253 < k) → 255 * 2 ^ 23 ≤ k * 2 ^ 23 + q
    go (inl e) = at q k e (le_of_mul-le-mul_right (le_trans (le_trans (lit≤ tt) h) (le_of_eq (ap (λ (x : ℕ). q * 2 ^ x) (sym e)))) (pow_pos 253))
    go (inr l) = past q k l (lo (some k l))

min-left : (a b : ℕ) → a ≤ b → a ≡ min a b
min-left a b h = omega arith

min-right : (a b : ℕ) → b ≤ a → b ≡ min a b
min-right a b h = omega arith

top : (s : Bool) → to_bits binary32 (inf s) ≡ sign s + 255 * 2 ^ 23
unfolding to_bits
top s = refl

pub units-bits : (s : Bool) (q k : ℕ) → q ≤ 2 ^ 24 → (0 < k → 2 ^ 23 ≤ q) → to_bits binary32 (units binary32 s q k) ≡ sign s + min (k * 2 ^ 23 + q) (255 * 2 ^ 23)
unfolding units
units-bits s q k hi lo = go (ltb (q * 2 ^ k) (2 ^ 277)) (ltb→lt (q * 2 ^ k) (2 ^ 277)) (nltb→le (q * 2 ^ k) (2 ^ 277))
  where
    go : (b : Bool) → (T b → q * 2 ^ k < 2 ^ 277) → (T (not b) → 2 ^ 277 ≤ q * 2 ^ k) → to_bits binary32 (cond b (odd 25 s q k 149) (inf s)) ≡ sign s + min (k * 2 ^ 23 + q) (255 * 2 ^ 23)
    go true h g =
        pattern (odd 25 s q k 149) s (q * 2 ^ k) (odd_sign 25 s q k 149)
        ∙ add_assoc (sign s) ((size (q * 2 ^ k) - 24) * 2 ^ 23) (q * 2 ^ k / 2 ^ (size (q * 2 ^ k) - 24))
        ∙ ap (λ (x : ℕ). sign s + x) (written q k hi lo ∙ min-left (k * 2 ^ 23 + q) (255 * 2 ^ 23) (within q k hi lo (h tt)))
    go false h g = top s ∙ ap (λ (x : ℕ). sign s + x) (min-right (k * 2 ^ 23 + q) (255 * 2 ^ 23) (beyond q k hi lo (g tt)))

-- ---- what `round` keeps
kept-le : (p n den : ℕ) → kept p n den ≤ 2 ^ p
kept-le p n den =
    let k = drop p n den in
    let u = den * 2 ^ k in
    le_trans (nearest-le (n / u) (compare (n % u * 2) u)) (subst (λ (x : ℕ). x < 2 ^ p) (div-div-eq-div-mul n den (2 ^ k)) (kept-lt p (n / den)))

all_in_use : (z p : ℕ) → 0 < p → 0 < z - p → p - 1 + (z - p) < z
all_in_use z p P h = omega arith

kept-ge : (p n den : ℕ) → 0 < p → 0 < drop p n den → 2 ^ (p - 1) ≤ kept p n den
kept-ge p n den P K =
    let k = drop p n den in
    let u = den * 2 ^ k in
    let w = n / den in
    let a : 2 ^ (p - 1) * 2 ^ k ≤ w = le_trans (le_of_eq (sym (pow-add 2 (p - 1) k))) (size_reaches w (p - 1 + k) (all_in_use (size w) p P K)) in
    le_trans (subst (λ (x : ℕ). 2 ^ (p - 1) ≤ x) (div-div-eq-div-mul n den (2 ^ k)) ((le-div_iff_mul-le (pow_pos k)).1 a)) (nearest-ge (n / u) (compare (n % u * 2) u))

-- the pattern of num / den rounded, where k digits are dropped
pub round-bits : (s : Bool) (num den k : ℕ) → drop 24 (num * 2 ^ 149) den ≡ k
    → to_bits binary32 (round binary32 s num den) ≡ sign s + min (k * 2 ^ 23 + closest (num * 2 ^ 149) (den * 2 ^ k)) (255 * 2 ^ 23)
round-bits s num den k e =
    let n = num * 2 ^ 149 in
    ap (to_bits binary32) (round_is binary32 s num den)
    ∙ units-bits s (kept 24 n den) (drop 24 n den) (kept-le 24 n den) (kept-ge 24 n den (lit< tt))
    ∙ ap (λ (x : ℕ). sign s + min (x * 2 ^ 23 + closest n (den * 2 ^ x)) (255 * 2 ^ 23)) e
