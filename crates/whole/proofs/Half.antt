-- Where a half goes: `nearest` rounds it away from zero, and so does the code's quotient. The laws above cite `nearest-rounds` alone.
use mathlib.Core.Path.{◌≡◌, refl, sym, ap}
use Prim.Native.Nat.{ℕ, zero, suc, ◌+◌, ◌*◌, ◌-◌, ◌/◌, ◌≤◌, ◌<◌}
use native.Mathlib.Omega.{arith}
use native.Mathlib.Nat.{div-add-mod', mod-lt, div-eq_of_lt, lt_of_mul-lt-mul_right}
use lib.IntN.{ℤ, pos, negsuc, neg_ℤ, sub_ℕ, neg_ℤ-neg_ℤ}
use borrow.Author.Tests.{lt-ltb, le-ltb}
use Rattle.whole.specs.Whole.{reach, nearest, under, lower}
use Rattle.whole.proofs.Reading.{up, dn, Is, is-self, is_pos, is-neg, is-sub, is_eq}
use Rattle.whole.proofs.Rounding.{Nearest, Rounds}

-- -1/2 < r - s/w ≤ 1/2
pub record HalfUp (s : ℤ) (w : ℕ) (r : ℤ) : Type 0 where
  pub hi : 2 * (up r * w) + 2 * dn s ≤ 2 * up s + 2 * (dn r * w) + w
  pub lo : 2 * up s + 2 * (dn r * w) < 2 * (up r * w) + 2 * dn s + w

-- -1/2 ≤ r - s/w < 1/2
pub record HalfDown (s : ℤ) (w : ℕ) (r : ℤ) : Type 0 where
  pub hi : 2 * (up r * w) + 2 * dn s < 2 * up s + 2 * (dn r * w) + w
  pub lo : 2 * up s + 2 * (dn r * w) ≤ 2 * (up r * w) + 2 * dn s + w

-- "a half in the whole engine goes away from zero": up from zero on, down under it
pub data HalfAway (w : ℕ) (r : ℤ) : ℤ → Type 0 where
  above : {n : ℕ} → HalfUp (pos n) w r → HalfAway w r (pos n)
  below : {n : ℕ} → HalfDown (negsuc n) w r → HalfAway w r (negsuc n)

pub nearest-half-away : (s : ℤ) (w : ℕ) → 0 < w → HalfAway w (nearest s w) s
unfolding nearest
nearest-half-away (pos a) w h =
    let n = 2 * a + w in
    above {n = a} (record { hi = omega (arith, div-add-mod' n (2 * w)); lo = omega (arith, div-add-mod' n (2 * w), mod-lt n {m = 2 * w} (omega arith)) })
nearest-half-away (negsuc a) w h =
    let n = 2 * suc a + w in
    let i = ap (λ (t : ℕ). t * w) (is-neg (is_pos (n / (2 * w)))).same in
    below {n = a} (record { hi = omega (arith, i, div-add-mod' n (2 * w), mod-lt n {m = 2 * w} (omega arith)); lo = omega (arith, i, div-add-mod' n (2 * w)) })

-- one whole number only is so
half-up-one : {s : ℤ} {w : ℕ} {r t : ℤ} → HalfUp s w r → HalfUp s w t → r ≡ t
half-up-one {s} {w} {r} {t} h k =
    let a : up r + dn t < up t + dn r + 1 = lt_of_mul-lt-mul_right w (omega (arith, h.hi, k.lo)) in
    let b : up t + dn r < up r + dn t + 1 = lt_of_mul-lt-mul_right w (omega (arith, k.hi, h.lo)) in
    is_eq (is-self r) (is-self t) (omega arith)

half-down-one : {s : ℤ} {w : ℕ} {r t : ℤ} → HalfDown s w r → HalfDown s w t → r ≡ t
half-down-one {s} {w} {r} {t} h k =
    let a : up r + dn t < up t + dn r + 1 = lt_of_mul-lt-mul_right w (omega (arith, h.hi, k.lo)) in
    let b : up t + dn r < up r + dn t + 1 = lt_of_mul-lt-mul_right w (omega (arith, k.hi, h.lo)) in
    is_eq (is-self r) (is-self t) (omega arith)

pub half-away-one : {s : ℤ} {w : ℕ} {r t : ℤ} → HalfAway w r s → HalfAway w t s → r ≡ t
half-away-one (above h) (above k) = half-up-one h k
half-away-one (below h) (below k) = half-down-one h k

pub nearest-rounds : Rounds nearest
nearest-rounds = record { near = λ s w h. go w (nearest s w) s (nearest-half-away s w h) }
  where
    go : (w : ℕ) (r s : ℤ) → HalfAway w r s → Nearest s w r
    go w r _ (above k) = record { hi = k.hi; lo = omega (arith, k.lo) }
    go w r _ (below k) = record { hi = omega (arith, k.hi); lo = k.lo }

-- mirrored numbers have mirrored roundings
pub nearest-odd : (s : ℤ) (w : ℕ) → nearest (neg_ℤ s) w ≡ neg_ℤ (nearest s w)
unfolding nearest
nearest-odd (pos zero) w = rw (none w)
  where
    none : (w : ℕ) → (0 + w) / (2 * w) ≡ 0
    none zero = refl
    none (suc v) = div-eq_of_lt (omega arith)
nearest-odd (pos (suc n)) w = refl
nearest-odd (negsuc n) w = sym (neg_ℤ-neg_ℤ _)

-- the code's quotient of a raised sum s of weight d
pub quotient-nearest : (s d : ℕ) → 0 < d → lower 1 ((2 * s + d - under s (d * reach)) / (2 * d)) ≡ nearest (lower d s) d
unfolding lower
quotient-nearest s d h = go (sub_ℕ s (d * reach)) (is-sub s (d * reach))
  where
    go : (z : ℤ) → Is z s (d * reach) → sub_ℕ ((2 * s + d - under s (d * reach)) / (2 * d)) (1 * reach) ≡ nearest z d
    go (pos a) i =
        let u : under s (d * reach) ≡ 0 = rw (le-ltb s (d * reach) (omega (arith, i.same))) in
        let n = 2 * s + d in
        let e : 2 * s + d - 0 ≡ n = omega arith in
        let q = n / (2 * d) in
        let j = ap (λ (t : ℕ). t * d) (is-sub q reach).same in
        rw (u, e)
        (half-away-one {s = pos a} {w = d} (above {n = a} (record { hi = omega (arith, i.same, j, div-add-mod' n (2 * d)); lo = omega (arith, i.same, j, div-add-mod' n (2 * d), mod-lt n {m = 2 * d} (omega arith)) }))
        (nearest-half-away (pos a) d h))
    go (negsuc a) i =
        let u : under s (d * reach) ≡ 1 = rw (lt-ltb s (d * reach) (omega (arith, i.same))) in
        let n = 2 * s + d - 1 in
        let q = n / (2 * d) in
        let j = ap (λ (t : ℕ). t * d) (is-sub q reach).same in
        rw u
        (half-away-one {s = negsuc a} {w = d} (below {n = a} (record { hi = omega (arith, i.same, j, div-add-mod' n (2 * d)); lo = omega (arith, i.same, j, div-add-mod' n (2 * d), mod-lt n {m = 2 * d} (omega arith)) }))
        (nearest-half-away (negsuc a) d h))
