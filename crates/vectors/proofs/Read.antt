-- The pattern of the f32 nearest to an f64, by the fields of the f64's own pattern: its sign s, the exponent's field x and the digits t.
-- In units of 2 ^ -149, the least f32, the f64 is (2 ^ 52 + t) * 2 ^ (x - 926).
use Rattle.std.proofs.Common.{◌≡◌, ℕ, zero, suc, ◌+◌, ◌-◌, ◌*◌, ◌/◌, ◌%◌, ◌^◌, ◌<◌, ◌≤◌, min, Bool, true, false, cond, not, ◌&&◌, T, eqb, leb, sym, refl, ap, ◌∙◌, subst, le_trans, le_of_eq, lt_of_lt_of_le, lt_of_le_of_lt, mul-le-mul_right, mod-eq_of_lt, mul_assoc, div-lt_iff_lt-mul, le-div_iff_mul-le, mul-one, arith, lit<, lit≤, eqb→eq, pow_pos, pow_mono, pow-add, shl_lt}
use Prim.Native.Nat.{compare, Ordering}
use native.Mathlib.Nat.{div-eq_of_lt}
use lib.Ieee.{Float, nan, inf, fin, binary32, binary64, up, down, size, nearest, odd, round, to_bits, of_fields, of_bits, nan_bits}
use lib.Ieee.Digits.{size-le}
use lib.Ieee.Fits.{down_pos, nearest-le}
use lib.Ieee.Exact.{HasValue, odd_sign}
use lib.Ieee.Nearest.{closest, closest_same}
use lib.Ieee.Order.{drop}
use lib.Ieee.Scale.{round_same}
use Rattle.vectors.specs.Narrow.{narrowed, sign}
use Rattle.vectors.proofs.Drop.{Cmp, cmp, dropped-is}
use Rattle.vectors.proofs.Units.{size_exact, round-bits}

-- ---- `narrowed` by any fraction that the value equals
narrowed_at : (x : Float) (s : Bool) (a c : ℕ) → 0 < c → HasValue x s a c → narrowed x ≡ round binary32 s a c
unfolding narrowed
narrowed_at nan s a c C h = absurd h
narrowed_at (inf t) s a c C h = absurd h
narrowed_at (fin t m e) s a c C h =
    ap (λ (b : Bool). round binary32 b (m * up e) (down e)) h.0 ∙ round_same binary32 s (m * up e) (down e) a c (down_pos e) C h.1

-- ---- how many digits are dropped
drop-low : (n den : ℕ) → 0 < den → n < 2 ^ 24 * den → drop 24 n den ≡ 0
drop-low n den D h = go (size (n / den)) (size-le (n / den) 24 ((div-lt_iff_lt-mul D).1 h))
  where
    go : (z : ℕ) → z ≤ 24 → z - 24 ≡ 0
    go z h = omega arith

drop_at : (n den k : ℕ) → 0 < den → 2 ^ (23 + k) * den ≤ n → n < 2 ^ suc (23 + k) * den → drop 24 n den ≡ k
drop_at n den k D lo hi = go (size (n / den)) k (size_exact (23 + k) (n / den) ((le-div_iff_mul-le D).1 lo) ((div-lt_iff_lt-mul D).1 hi))
  where
    go : (z k : ℕ) → z ≡ suc (23 + k) → z - 24 ≡ k
    go z k h = omega arith

-- less than a half rounds to 0
closest-zero : (n den : ℕ) → n * 2 < den → closest n den ≡ 0
closest-zero n den h =
    let l : n < den = small n den h in
    ap (λ (x : ℕ). nearest x (compare (n % den * 2) den)) (div-eq_of_lt l)
    ∙ ap (λ (x : ℕ). nearest 0 (compare (x * 2) den)) (mod-eq_of_lt l)
    ∙ go (compare (n * 2) den) (cmp (n * 2) den)
  where
    small : (n d : ℕ) → n * 2 < d → n < d
    small n d h = omega arith

    clash : (a d : ℕ) → a < d → d < a → ⊥
    clash a d x y = omega arith

    go : (o : Ordering) → Cmp o (n * 2) den → nearest 0 o ≡ 0
    go Ordering.lt c = refl
    go Ordering.eq c = refl
    go Ordering.gt c = absurd (clash (n * 2) den h c)

-- ---- q * 2 ^ j / 2 ^ 1074, rounded
joined : (q j i : ℕ) → q * 2 ^ j * 2 ^ i ≡ q * 2 ^ (j + i)
joined q j i = mul_assoc q (2 ^ j) (2 ^ i) ∙ ap (λ (x : ℕ). q * x) (sym (pow-add 2 j i))

-- below half of the least f32
round-tiny : (s : Bool) (num : ℕ) → num * 2 ^ 149 * 2 < 2 ^ 1074 → to_bits binary32 (round binary32 s num (2 ^ 1074)) ≡ sign s + 0
round-tiny s num h =
    let n = num * 2 ^ 149 in
    round-bits s num (2 ^ 1074) 0 (drop-low n (2 ^ 1074) (pow_pos 1074) (lt_of_lt_of_le (small n (2 ^ 1074) h) (lit≤ tt)))
    ∙ ap (λ (x : ℕ). sign s + min (0 * 2 ^ 23 + x) (255 * 2 ^ 23)) (closest-zero n (2 ^ 1074 * 2 ^ 0) (lt_of_lt_of_le h (lit≤ tt)))
  where
    small : (n d : ℕ) → n * 2 < d → n < d
    small n d h = omega arith

module _ (s : Bool) (q j : ℕ) (lead : 2 ^ 52 ≤ q) (less : q < 2 ^ 53) where
  n-is : q * 2 ^ j * 2 ^ 149 ≡ q * 2 ^ (j + 149)
  n-is = joined q j 149

  n-lt : q * 2 ^ j * 2 ^ 149 < 2 ^ (53 + (j + 149))
  n-lt = subst (λ (x : ℕ). x < 2 ^ (53 + (j + 149))) (sym n-is) (shl_lt 53 (j + 149) less)

  round-low : j < 896 → to_bits binary32 (round binary32 s (q * 2 ^ j) (2 ^ 1074)) ≡ sign s + min (0 * 2 ^ 23 + closest q (2 ^ (925 - j))) (255 * 2 ^ 23)
  round-low h =
      round-bits s (q * 2 ^ j) (2 ^ 1074) 0 (drop-low (q * 2 ^ j * 2 ^ 149) (2 ^ 1074) (pow_pos 1074) (lt_of_lt_of_le n-lt (le_trans (pow_mono (room j h)) (lit≤ tt))))
      ∙ ap (λ (x : ℕ). sign s + min (0 * 2 ^ 23 + x) (255 * 2 ^ 23))
      (closest_same (q * 2 ^ j * 2 ^ 149) (2 ^ 1074 * 2 ^ 0) q (2 ^ (925 - j)) (lit< tt) (pow_pos (925 - j))
      (ap (λ (x : ℕ). x * 2 ^ (925 - j)) n-is ∙ joined q (j + 149) (925 - j) ∙ ap (λ (x : ℕ). q * 2 ^ x) (whole j h)))
    where
      room : (j : ℕ) → j < 896 → 53 + (j + 149) ≤ 1098
      room j h = omega arith

      whole : (j : ℕ) → j < 896 → j + 149 + (925 - j) ≡ 1074
      whole j h = omega arith

  round-high : 896 ≤ j → to_bits binary32 (round binary32 s (q * 2 ^ j) (2 ^ 1074)) ≡ sign s + min ((j - 896) * 2 ^ 23 + closest q (2 ^ 29)) (255 * 2 ^ 23)
  round-high h =
      let k = j - 896 in
      let n = q * 2 ^ j * 2 ^ 149 in
      let lo : 2 ^ (23 + k) * 2 ^ 1074 ≤ n =
      le_trans (le_of_eq (sym (pow-add 2 (23 + k) 1074) ∙ ap (λ (x : ℕ). 2 ^ x) (low-is j h) ∙ pow-add 2 52 (j + 149)))
      (le_trans (mul-le-mul_right (2 ^ (j + 149)) lead) (le_of_eq (sym n-is))) in
      let hi : n < 2 ^ suc (23 + k) * 2 ^ 1074 = lt_of_lt_of_le n-lt (le_of_eq (ap (λ (x : ℕ). 2 ^ x) (high_is j h) ∙ pow-add 2 (suc (23 + k)) 1074)) in
      round-bits s (q * 2 ^ j) (2 ^ 1074) k (drop_at n (2 ^ 1074) k (pow_pos 1074) lo hi)
      ∙ ap (λ (x : ℕ). sign s + min (k * 2 ^ 23 + x) (255 * 2 ^ 23))
      (closest_same n (2 ^ 1074 * 2 ^ k) q (2 ^ 29) (subst (λ (x : ℕ). 0 < x) (pow-add 2 1074 k) (pow_pos (1074 + k))) (pow_pos 29)
      (ap (λ (x : ℕ). x * 2 ^ 29) n-is ∙ joined q (j + 149) 29 ∙ ap (λ (x : ℕ). q * 2 ^ x) (whole j h) ∙ ap (λ (x : ℕ). q * x) (pow-add 2 1074 k)))
    where
      low-is : (j : ℕ) → 896 ≤ j → 23 + (j - 896) + 1074 ≡ 52 + (j + 149)
      low-is j h = omega arith

      high_is : (j : ℕ) → 896 ≤ j → 53 + (j + 149) ≡ suc (23 + (j - 896)) + 1074
      high_is j h = omega arith

      whole : (j : ℕ) → 896 ≤ j → j + 149 + 29 ≡ 1074 + (j - 896)
      whole j h = omega arith

-- ---- what the fields are read as
cond_no : {X : Type 0} (b : Bool) (x y : X) → T (not b) → cond b x y ≡ y
cond_no true x y t = absurd t
cond_no false x y t = refl

at_zero : (s : Bool) (t : ℕ) → of_fields binary64 s 0 t ≡ odd 53 s t 0 1074
unfolding of_fields
at_zero s t = refl

at_field : (s : Bool) (j t : ℕ) → T (not (eqb (suc j) 2047)) → of_fields binary64 s (suc j) t ≡ odd 53 s (2 ^ 52 + t) j 1074
unfolding of_fields
at_field s j t n = cond_no (eqb (suc j) 2047) (cond (eqb t 0) (inf s) nan) (odd 53 s (2 ^ 52 + t) j 1074) n

at_top : (s : Bool) → of_fields binary64 s 2047 0 ≡ inf s
unfolding of_fields
at_top s = refl

-- the pattern of the f32 nearest to what the fields are read as
abbrev pub Out : Bool → ℕ → ℕ → ℕ
Out s x t = to_bits binary32 (narrowed (of_fields binary64 s x t))

lead-le : (t : ℕ) → 4503599627370496 ≤ 4503599627370496 + t
lead-le t = omega arith

with_lead : (t : ℕ) → t < 4503599627370496 → 4503599627370496 + t < 9007199254740992
with_lead t h = omega arith

finite : (s : Bool) (j t : ℕ) → T (not (eqb (suc j) 2047)) → Out s (suc j) t ≡ to_bits binary32 (round binary32 s ((2 ^ 52 + t) * 2 ^ j) (2 ^ 1074))
finite s j t n =
    ap (λ (v : Float). to_bits binary32 (narrowed v)) (at_field s j t n)
    ∙ ap (to_bits binary32) (narrowed_at (odd 53 s (2 ^ 52 + t) j 1074) s ((2 ^ 52 + t) * 2 ^ j) (2 ^ 1074) (pow_pos 1074) (odd_sign 53 s (2 ^ 52 + t) j 1074))

not_top : (j : ℕ) → suc j < 2047 → T (not (eqb (suc j) 2047))
not_top j h = go (eqb (suc j) 2047) (eqb→eq (suc j) 2047)
  where
    no : (j : ℕ) → suc j < 2047 → suc j ≡ 2047 → ⊥
    no j h e = omega arith

    go : (b : Bool) → (T b → suc j ≡ 2047) → T (not b)
    go true e = absurd (no j h (e tt))
    go false e = tt

pub out-tiny : (s : Bool) (x t : ℕ) → t < 2 ^ 52 → x < 873 → sign s + 0 ≡ Out s x t
out-tiny s zero t T52 h =
    sym (ap (λ (v : Float). to_bits binary32 (narrowed v)) (at_zero s t)
    ∙ ap (to_bits binary32) (narrowed_at (odd 53 s t 0 1074) s (t * 2 ^ 0) (2 ^ 1074) (pow_pos 1074) (odd_sign 53 s t 0 1074))
    ∙ round-tiny s (t * 2 ^ 0) (lt_of_le_of_lt (le_of_eq (ap (λ (x : ℕ). x * 2 ^ 149 * 2) (mul-one t) ∙ joined t 149 1)) (lt_of_lt_of_le (shl_lt 52 150 T52) (lit≤ tt))))
out-tiny s (suc j) t T52 h =
    let q = 2 ^ 52 + t in
    sym (finite s j t (not_top j (low j h))
    ∙ round-tiny s (q * 2 ^ j) (lt_of_le_of_lt (le_of_eq (ap (λ (x : ℕ). x * 2) (joined q j 149) ∙ joined q (j + 149) 1)) (lt_of_lt_of_le (shl_lt 53 (j + 149 + 1) (with_lead t T52)) (pow_mono (room j h)))))
  where
    low : (j : ℕ) → suc j < 873 → suc j < 2047
    low j h = omega arith

    room : (j : ℕ) → suc j < 873 → 53 + (j + 149 + 1) ≤ 1074
    room j h = omega arith

pub few : (q d : ℕ) → q < 2 ^ 53 → 29 ≤ d → closest q (2 ^ d) ≤ 2 ^ 24
few q d h l =
    le_trans (nearest-le (q / 2 ^ d) (compare (q % 2 ^ d * 2) (2 ^ d)))
    ((div-lt_iff_lt-mul (pow_pos d)).1 (lt_of_lt_of_le h (le_trans (lit≤ tt) (le_trans (pow_mono (go d l)) (le_of_eq (pow-add 2 24 d))))))
  where
    go : (d : ℕ) → 29 ≤ d → 53 ≤ 24 + d
    go d h = omega arith

min-small : (a : ℕ) → a ≤ 16777216 → min (0 * 8388608 + a) 2139095040 ≡ a
min-small a h = omega arith

pub out-low : (s : Bool) (x t : ℕ) → t < 2 ^ 52 → 873 ≤ x → x < 897 → sign s + closest (2 ^ 52 + t) (2 ^ (926 - x)) ≡ Out s x t
out-low s zero t T52 g h = absurd (no g)
  where
    no : 873 ≤ 0 → ⊥
    no h = omega arith
out-low s (suc j) t T52 g h =
    let q = 2 ^ 52 + t in
    sym (finite s j t (not_top j (low j h))
    ∙ round-low s q j (lead-le t) (with_lead t T52) (less j h)
    ∙ ap (λ (x : ℕ). sign s + x) (min-small (closest q (2 ^ (925 - j))) (few q (925 - j) (with_lead t T52) (wide j h)) ∙ ap (λ (d : ℕ). closest q (2 ^ d)) (by j)))
  where
    low : (j : ℕ) → suc j < 897 → suc j < 2047
    low j h = omega arith

    less : (j : ℕ) → suc j < 897 → j < 896
    less j h = omega arith

    wide : (j : ℕ) → suc j < 897 → 29 ≤ 925 - j
    wide j h = omega arith

    by : (j : ℕ) → 925 - j ≡ 926 - suc j
    by j = omega arith

inf-out : (s : Bool) → Out s 2047 0 ≡ sign s + 255 * 2 ^ 23
unfolding narrowed to_bits
inf-out s = ap (λ (v : Float). to_bits binary32 (narrowed v)) (at_top s)

pub out-high : (s : Bool) (x t : ℕ) → t < 2 ^ 52 → x < 2048 → 897 ≤ x → T (not (eqb x 2047 && not (eqb t 0))) → sign s + min ((x - 897) * 2 ^ 23 + closest (2 ^ 52 + t) (2 ^ 29)) (255 * 2 ^ 23) ≡ Out s x t
out-high s zero t T52 X g n = absurd (no g)
  where
    no : 897 ≤ 0 → ⊥
    no h = omega arith
out-high s (suc j) t T52 X g n = go (eqb (suc j) 2047) refl
  where
    more : (j : ℕ) → 897 ≤ suc j → 896 ≤ j
    more j h = omega arith

    by : (j : ℕ) → j - 896 ≡ suc j - 897
    by j = omega arith

    top : (x t : ℕ) → x ≡ 2047 → t ≡ 0 → sign s + min ((x - 897) * 2 ^ 23 + closest (2 ^ 52 + t) (2 ^ 29)) (255 * 2 ^ 23) ≡ Out s x t
    top x t e z =
        ap (λ (y : ℕ). sign s + min ((y - 897) * 2 ^ 23 + closest (2 ^ 52 + t) (2 ^ 29)) (255 * 2 ^ 23)) e
        ∙ ap (λ (y : ℕ). sign s + min ((2047 - 897) * 2 ^ 23 + closest (2 ^ 52 + y) (2 ^ 29)) (255 * 2 ^ 23)) z
        ∙ sym (inf-out s)
        ∙ ap (λ (y : ℕ). Out s 2047 y) (sym z)
        ∙ ap (λ (y : ℕ). Out s y t) (sym e)

    digits : (a b : Bool) → a ≡ true → T (not (a && not b)) → T b
    digits true true e h = tt
    digits true false e h = absurd h
    digits false b e h = absurd (subst T (sym e) tt)

    go : (b : Bool) → eqb (suc j) 2047 ≡ b → sign s + min ((suc j - 897) * 2 ^ 23 + closest (2 ^ 52 + t) (2 ^ 29)) (255 * 2 ^ 23) ≡ Out s (suc j) t
    go true e = top (suc j) t (eqb→eq (suc j) 2047 (subst T (sym e) tt)) (eqb→eq t 0 (digits (eqb (suc j) 2047) (eqb t 0) e n))
    go false e =
        let q = 2 ^ 52 + t in
        sym (finite s j t (subst (λ (b : Bool). T (not b)) (sym e) tt)
        ∙ round-high s q j (lead-le t) (with_lead t T52) (more j g)
        ∙ ap (λ (k : ℕ). sign s + min (k * 2 ^ 23 + closest q (2 ^ 29)) (255 * 2 ^ 23)) (by j))

-- ---- x units of 2 ^ 52 stay whole when 29 digits of x * 2 ^ 52 + t are dropped
led : (x t : ℕ) → (x * 2 ^ 52 + t + (2 ^ 28 - 1) + (x * 2 ^ 52 + t) / 2 ^ 29 % 2) / 2 ^ 29 ≡ x * 2 ^ 23 + (t + (2 ^ 28 - 1) + t / 2 ^ 29 % 2) / 2 ^ 29
led x t = ap (λ (p : ℕ). (x * 2 ^ 52 + t + (2 ^ 28 - 1) + p) / 2 ^ 29) (parity x t) ∙ shift x t (t / 2 ^ 29 % 2)
  where
    parity : (x t : ℕ) → (x * 2 ^ 52 + t) / 2 ^ 29 % 2 ≡ t / 2 ^ 29 % 2
    parity x t = omega arith

    shift : (x t p : ℕ) → (x * 2 ^ 52 + t + (2 ^ 28 - 1) + p) / 2 ^ 29 ≡ x * 2 ^ 23 + (t + (2 ^ 28 - 1) + p) / 2 ^ 29
    shift x t p = omega arith

-- ---- by the pattern b of the f64
module _ (b : ℕ) where
  abbrev s : Bool
  s = leb (2 ^ 63) b

  abbrev x : ℕ
  x = b % 2 ^ 63 / 2 ^ 52

  abbrev t : ℕ
  t = b % 2 ^ 52

  x_lt : x < 2048
  x_lt = omega arith

  t-lt : t < 2 ^ 52
  t-lt = omega arith

  is : Out s x t ≡ to_bits binary32 (narrowed (of_bits binary64 b))
  unfolding of_bits
  is = refl

  no_nan : T (not (nan_bits binary64 b)) → T (not (eqb x 2047 && not (eqb t 0)))
  unfolding nan_bits
  no_nan h = h

  pub bits-tiny : x < 873 → sign s + 0 ≡ to_bits binary32 (narrowed (of_bits binary64 b))
  bits-tiny h = out-tiny s x t t-lt h ∙ is

  pub bits-low : 873 ≤ x → x < 897 → (r : ℕ) → r ≡ closest (2 ^ 52 + t) (2 ^ (926 - x)) → sign s + r ≡ to_bits binary32 (narrowed (of_bits binary64 b))
  bits-low g h r e = ap (λ (y : ℕ). sign s + y) e ∙ out-low s x t t-lt g h ∙ is

  pub bits-high : 897 ≤ x → T (not (nan_bits binary64 b)) → (r : ℕ) → r ≡ closest (2 ^ 52 + t) (2 ^ 29) → (n : ℕ) → n ≡ min ((x - 897) * 2 ^ 23 + r) (255 * 2 ^ 23) → sign s + n ≡ to_bits binary32 (narrowed (of_bits binary64 b))
  bits-high g h r e n f = ap (λ (y : ℕ). sign s + y) (f ∙ ap (λ (y : ℕ). min ((x - 897) * 2 ^ 23 + y) (255 * 2 ^ 23)) e) ∙ out-high s x t t-lt x_lt g (no_nan h) ∙ is

  pub few-digits : (d : ℕ) → 29 ≤ d → (r : ℕ) → r ≡ closest (2 ^ 52 + t) (2 ^ d) → r ≤ 2 ^ 24
  few-digits d h r e = subst (λ (y : ℕ). y ≤ 2 ^ 24) (sym e) (few (2 ^ 52 + t) d (with_lead t t-lt) h)

  -- the same where the field is carried along
  split : b % 2 ^ 63 ≡ x * 2 ^ 52 + t
  split = omega arith

  pub carried : (r : ℕ) → r ≡ closest (b % 2 ^ 63) (2 ^ 29) → r + 2 ^ 23 ≡ x * 2 ^ 23 + closest (2 ^ 52 + t) (2 ^ 29)
  carried r e =
      let a = e ∙ ap (λ (y : ℕ). closest y (2 ^ 29)) split ∙ sym (dropped-is 29 (omega arith) (omega arith) (x * 2 ^ 52 + t)) ∙ led x t in
      let c = sym (dropped-is 29 (omega arith) (omega arith) (2 ^ 52 + t)) ∙ led 1 t in
      omega (arith, a, c)

  pub same_digits : b % 2 ^ 63 % 2 ^ 52 ≡ t
  same_digits = omega arith
