-- The least tolerance at which a whole number passes for a fraction: what it says, and that it may be worked out over any denominator.
use mathlib.Core.Path.{◌≡◌, sym, ap, ◌∙◌}
use Prim.Native.Nat.{ℕ, suc, ◌+◌, ◌-◌, ◌*◌, ◌/◌, ◌<◌, ◌≤◌}
use native.Mathlib.Nat.{mul-le-mul_right, le_of_mul-le-mul_right, div-add-mod', mod-lt}
use native.Mathlib.Omega.{arith}
use native.Mathlib.Decide.{dec_lt}
use lib.IntN.{ℤ, pos, negsuc, nat_abs, ◌-ℤ◌, ◌*ℤ◌}
use Rattle.whole.specs.Fraction.{Fraction, Within}
use Rattle.whole.proofs.Reading.{up, dn, Is, is-self, is_pos, is-as, is_mul, is-minus, abs-le, le-abs}
use Rattle.whole.proofs.Nearness.{within, near_of}
use Rattle.whole.proofs.Value.{Val}
use Rattle.station.specs.Acceptance.{needs}

-- ---- a quotient rounded up

abbrev pub up-over : ℕ → ℕ → ℕ
up-over x d = (x + (d - 1)) / d

below_of : (q t d : ℕ) → q * d < suc t * d → q ≤ t
below_of q t d h = go (dec_lt t q)
  where
    go : Dec (t < q) → q ≤ t
    go (yes l) = absurd (omega (arith, mul-le-mul_right d l))
    go (no l) = omega arith

pub up_least : (x d t : ℕ) → 0 < d → x ≤ t * d → up-over x d ≤ t
up_least x d t p h = below_of (up-over x d) t d (omega (arith, div-add-mod' (x + (d - 1)) d, mod-lt (x + (d - 1)) {m = d} p))

pub up-enough : (x d : ℕ) → 0 < d → x ≤ up-over x d * d
up-enough x d p = omega (arith, div-add-mod' (x + (d - 1)) d, mod-lt (x + (d - 1)) {m = d} p)

half-same : (x d y e : ℕ) → 0 < d → 0 < e → x * e ≡ y * d → up-over x d ≤ up-over y e
half-same x d y e p q h =
    up_least x d (up-over y e) p (le_of_mul-le-mul_right {k = e} (omega (arith, mul-le-mul_right d (up-enough y e q))) q)

-- it depends on the value alone
pub up_same : (x d y e : ℕ) → 0 < d → 0 < e → x * e ≡ y * d → up-over x d ≡ up-over y e
up_same x d y e p q h = omega (arith, half-same x d y e p q h, half-same y e x d q p (sym h))

-- ---- how far y is from e, read

pub abs_is : {z : ℤ} {p m : ℕ} → Is z p m → nat_abs z ≡ (p - m) + (m - p)
abs_is {z = pos x} h = omega (arith, h.same)
abs_is {z = negsuc x} h = omega (arith, h.same)

off : (y : ℤ) (e : Fraction) → Is (y *ℤ pos e.den -ℤ e.num) (up y * e.den + dn e.num) (dn y * e.den + up e.num)
off y e = is-as (is-minus (is_mul (is-self y) (is_pos e.den)) (is-self e.num)) (omega arith)

-- ---- "within a tolerance": as the paper has it

pub needs-within : (t : ℕ) (y : ℤ) (e : Fraction) → needs y e ≤ t → Within (2 * t) y e
unfolding needs
needs-within t y e h =
    let n = nat_abs (y *ℤ pos e.den -ℤ e.num) in
    let a = le-abs {k = t * e.den} (off y e) (omega (arith, up-enough n e.den e.above, mul-le-mul_right e.den h)) in
    within (record { near = record { hi = omega (arith, a.0); lo = omega (arith, a.1) } })

pub within-needs : (t : ℕ) (y : ℤ) (e : Fraction) → Within (2 * t) y e → needs y e ≤ t
unfolding needs
within-needs t y e w =
    let c = near_of w in
    up_least (nat_abs (y *ℤ pos e.den -ℤ e.num)) e.den t e.above
    (abs-le {k = t * e.den} (off y e) (omega (arith, c.near.hi)) (omega (arith, c.near.lo)))

-- ---- over any denominator: e = (p - m) / D, and y = a - b

cross : (a b c f D d : ℕ) → 0 < d → a * D + f * d ≡ c * d + b * D → ((a - b) + (b - a)) * D ≡ ((c - f) + (f - c)) * d
cross a b c f D d h e = go (dec_lt a b)
  where
    go : Dec (a < b) → ((a - b) + (b - a)) * D ≡ ((c - f) + (f - c)) * d
    go (yes l) =
        let k : b ≡ a + (b - a) = omega arith in
        let kd = ap (λ (z : ℕ). z * D) k in
        let u : c * d ≤ f * d = omega (arith, kd) in
        let v : c ≤ f = le_of_mul-le-mul_right {k = d} u h in
        let j : f ≡ c + (f - c) = omega arith in
        let jd = ap (λ (z : ℕ). z * d) j in
        let x : a - b ≡ 0 = omega arith in
        let y : c - f ≡ 0 = omega arith in
        rw (x, y) (omega (arith, kd, jd))
    go (no l) =
        let k : a ≡ b + (a - b) = omega arith in
        let kd = ap (λ (z : ℕ). z * D) k in
        let u : f * d ≤ c * d = omega (arith, kd) in
        let v : f ≤ c = le_of_mul-le-mul_right {k = d} u h in
        let j : c ≡ f + (c - f) = omega arith in
        let jd = ap (λ (z : ℕ). z * d) j in
        let x : b - a ≡ 0 = omega arith in
        let y : f - c ≡ 0 = omega arith in
        rw (x, y) (omega (arith, kd, jd))

-- what the code works out: naturals only
pub needs-over : (D p m a b : ℕ) (y : ℤ) (e : Fraction) → 0 < D → Is y a b → Val D p m e
    → needs y e ≡ up-over (((a * D + m) - (b * D + p)) + ((b * D + p) - (a * D + m))) D
unfolding needs
needs-over D p m a b y e h i w =
    let d = e.den in
    let o : Is (y *ℤ pos d -ℤ e.num) (a * d + dn e.num) (b * d + up e.num) = is-as (off y e) (omega (arith, ap (λ (z : ℕ). z * d) i.same)) in
    ap (λ (x : ℕ). up-over x d) (abs_is o)
    ∙ up_same (((a * d + dn e.num) - (b * d + up e.num)) + ((b * d + up e.num) - (a * d + dn e.num))) d (((a * D + m) - (b * D + p)) + ((b * D + p) - (a * D + m))) D e.above h
    (cross (a * d + dn e.num) (b * d + up e.num) (a * D + m) (b * D + p) D d e.above (omega (arith, w.same)))
