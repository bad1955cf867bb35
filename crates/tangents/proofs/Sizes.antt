-- How large a float can be: bounds that each rounded operation keeps, so that no NaN and no infinity arises within them.
use mathlib.Core.Path.{◌≡◌, sym, ap, ◌∙◌}
use Prim.Native.Nat.{ℕ, suc, ◌+◌, ◌-◌, ◌*◌, ◌/◌, ◌^◌, ◌≤◌, ◌<◌}
use native.Mathlib.Nat.{le_trans, le_of_eq, lt_of_le_of_lt, lt_of_lt_of_le, le_of_mul-le-mul_right, mul-le-mul, mul-le-mul_right, mul-one, mul-pos, div-one, mod-one, div-mul-le_self}
use native.Mathlib.Omega.{arith}
use mathlib.Core.Bool.{Bool, true, false, ◌&&◌, beq, cond}
use lib.Dec.{ltb}
use lib.Pow.{pow-add, pow_pos, pow_mono, shl_lt}
use lib.Ieee.{Float, nan, inf, fin, Format, binary32, binary64, prec, emax, low, up, down, size, round, units, neg, sum, add, sub, mul}
use lib.Ieee.Digits.{size-le}
use lib.Ieee.Exact.{HasValue, units_val}
use lib.Ieee.Fits.{round_is, down_pos}
use lib.Ieee.Nearest.{closest, closest_mono}

-- finite, and at most a / c in size
abbrev pub Size : ℕ → ℕ → Float → Type 0
Size a c nan = ⊥
Size a c (inf s) = ⊥
Size a c (fin s m e) = m * up e * c ≤ a * down e

value-size : (x : Float) (s : Bool) (v l b : ℕ) → 0 < l → v ≤ b * l → HasValue x s v l → Size b 1 x
value-size nan s v l b p h q = q
value-size (inf t) s v l b p h q = q
value-size (fin t m e) s v l b p h q =
    let a : m * up e * 1 * l ≤ b * down e * l = omega (arith, q.1, mul-le-mul_right (down e) h) in
    le_of_mul-le-mul_right a p

whole-closest : (n : ℕ) → closest n 1 ≡ n
whole-closest n = rw (div-one n, mod-one n)

-- what is kept of a fraction that is at most b * 2 ^ l, with b of no more digits than are kept
kept-below : (p n c b l : ℕ) → 0 < c → n ≤ b * 2 ^ l * c → b < 2 ^ p → closest n (c * 2 ^ (size (n / c) - p)) * 2 ^ (size (n / c) - p) ≤ b * 2 ^ l
kept-below p n c b l h k d =
    let w : n / c ≤ b * 2 ^ l = le_of_mul-le-mul_right (le_trans (div-mul-le_self n c) k) h in
    let z : size (n / c) ≤ p + l = size-le (n / c) (p + l) (lt_of_le_of_lt w (shl_lt p l d)) in
    let j = size (n / c) - p in
    let e : 2 ^ (l - j) * 2 ^ j ≡ 2 ^ l = sym (pow-add 2 (l - j) j) ∙ ap (λ (x : ℕ). 2 ^ x) (omega arith) in
    let f : b * 2 ^ (l - j) * (c * 2 ^ j) ≡ b * 2 ^ l * c = omega (arith, ap (λ (x : ℕ). b * c * x) e) in
    let g : closest n (c * 2 ^ j) ≤ b * 2 ^ (l - j) = rw (whole-closest (b * 2 ^ (l - j))) at (closest_mono n (c * 2 ^ j) (b * 2 ^ (l - j)) 1 (mul-pos h (pow_pos j)) (pow_pos 0) (rw (mul-one n, f) k)) in
    omega (arith, mul-le-mul_right (2 ^ j) g, ap (λ (x : ℕ). b * x) e)

wide : (f : Format) → (24 ≤ prec f) × (128 ≤ suc (emax f))
wide binary32 = (omega arith, omega arith)
wide binary64 = (omega arith, omega arith)

-- a fraction that is at most b * 2 ^ j
pub round-size : (f : Format) (s : Bool) (n c b j : ℕ) → 0 < c → n ≤ b * 2 ^ j * c → b < 2 ^ 24 → j ≤ 100 → Size (b * 2 ^ j) 1 (round f s n c)
round-size f s n c b j h k d r =
    let l = low f in
    let t : b * 2 ^ (j + l) ≡ b * 2 ^ j * 2 ^ l = omega (arith, ap (λ (x : ℕ). b * x) (pow-add 2 j l)) in
    let m : n * 2 ^ l ≤ b * 2 ^ (j + l) * c = omega (arith, ap (λ (x : ℕ). x * c) t, mul-le-mul_right (2 ^ l) k) in
    let v = kept-below (prec f) (n * 2 ^ l) c b (j + l) h m (lt_of_lt_of_le d (pow_mono (wide f).0)) in
    let o : b * 2 ^ (j + l) < 2 ^ (l + suc (emax f)) = lt_of_lt_of_le (shl_lt 24 (j + l) d) (pow_mono (omega (arith, wide f))) in
    rw (round_is f s n c)
    (value-size (units f s _ _) s _ (2 ^ l) (b * 2 ^ j) (pow_pos l) (le_trans v (le_of_eq t)) (units_val f s _ _ (lt_of_le_of_lt v o)))

cond-size : (a c : ℕ) (b : Bool) (x y : Float) → Size a c x → Size a c y → Size a c (cond b x y)
cond-size a c true x y p q = p
cond-size a c false x y p q = q

pub neg-size : (a c : ℕ) (x : Float) → Size a c x → Size a c (neg x)
unfolding neg
neg-size a c nan p = p
neg-size a c (inf s) p = p
neg-size a c (fin s m e) p = p

pub add-size : (f : Format) (a b j : ℕ) (x y : Float) → Size (a * 2 ^ j) 1 x → Size (b * 2 ^ j) 1 y → a + b < 2 ^ 24 → j ≤ 100 → Size ((a + b) * 2 ^ j) 1 (add f x y)
unfolding add sum
add-size f a b j nan y p q h r = absurd p
add-size f a b j (inf s) y p q h r = absurd p
add-size f a b j (fin s m e) nan p q h r = absurd q
add-size f a b j (fin s m e) (inf t) p q h r = absurd q
add-size f a b j (fin s m e) (fin t n d) p q h r =
    let c = down e * down d in
    let u = m * up e * down d in
    let v = n * up d * down e in
    let C : 0 < c = mul-pos (down_pos e) (down_pos d) in
    let P : u ≤ a * 2 ^ j * c = omega (arith, mul-le-mul_right (down d) p) in
    let Q : v ≤ b * 2 ^ j * c = omega (arith, mul-le-mul_right (down e) q) in
    let g : (z : Bool) (w : ℕ) → w ≤ u + v → Size ((a + b) * 2 ^ j) 1 (round f z w c) =
    λ z w l. round-size f z w c (a + b) j C (omega arith) h r in
    let y = round f t (v - u) c in
    let z = round f (s && ltb v u) (u - v) c in
    cond-size ((a + b) * 2 ^ j) 1 (beq s t) (round f s (u + v) c) (cond (ltb u v) y z) (g s (u + v) (omega arith))
    (cond-size ((a + b) * 2 ^ j) 1 (ltb u v) y z (g t (v - u) (omega arith)) (g (s && ltb v u) (u - v) (omega arith)))

pub sub-size : (f : Format) (a b j : ℕ) (x y : Float) → Size (a * 2 ^ j) 1 x → Size (b * 2 ^ j) 1 y → a + b < 2 ^ 24 → j ≤ 100 → Size ((a + b) * 2 ^ j) 1 (sub f x y)
unfolding sub
sub-size f a b j x y p q h r = add-size f a b j x (neg y) p (neg-size (b * 2 ^ j) 1 y q) h r

pub mul-size : (f : Format) (a c b d g j : ℕ) (x y : Float) → Size a c x → Size b d y → 0 < c → 0 < d → a * b ≤ g * 2 ^ j * (c * d) → g < 2 ^ 24 → j ≤ 100 → Size (g * 2 ^ j) 1 (mul f x y)
unfolding mul
mul-size f a c b d g j nan y p q C D h l r = absurd p
mul-size f a c b d g j (inf s) y p q C D h l r = absurd p
mul-size f a c b d g j (fin s m e) nan p q C D h l r = absurd q
mul-size f a c b d g j (fin s m e) (inf t) p q C D h l r = absurd q
mul-size f a c b d g j (fin s m e) (fin t n k) p q C D h l r =
    let z : m * up e * (n * up k) * (c * d) ≤ g * 2 ^ j * (down e * down k) * (c * d) = omega (arith, mul-le-mul p q, mul-le-mul_right (down e * down k) h) in
    round-size f _ _ (down e * down k) g j (mul-pos (down_pos e) (down_pos k)) (le_of_mul-le-mul_right z (mul-pos C D)) l r
