-- The rules over naturals: raised numbers over one denominator D give raised numbers over D times that of the rule, and stand for the exact fraction.
use mathlib.Core.Path.{◌≡◌, refl, sym, ap}
use Prim.Native.Nat.{ℕ, ◌+◌, ◌*◌}
use native.Mathlib.Omega.{arith}
use native.Mathlib.Nat.{eq_of_mul-eq-mul_right}
use mathlib.Core.List.{List, [], ◌∷◌}
use lib.ListN.{length}
use lib.IntN.{ℤ}
use Rattle.lists.proofs.Pairs.{Pairs, nil, cons, pairs-length}
use Rattle.whole.specs.Whole.{reach, raise, Near}
use Rattle.whole.specs.Fraction.{Fraction, of_whole, ◌≈F◌}
use Rattle.whole.proofs.Sums.{raised-one}
use Rattle.whole.proofs.Value.{crossed, Val, val-as, val-scale, val-zero, val_plus, val-times, val-over}
use Rattle.rules.specs.Position.{Rule, ring_rule, limit, each, out_of, own, total, exact}
use Rattle.rules.proofs.Weights.{AddsUp}
use Rattle.station.specs.Far.{Over, sum_n}

pub over-one : {x : ℤ} → Near x → Over 1 (raise x) (of_whole x)
unfolding of_whole
over-one {x} n = record { val = record { same = omega (arith, (raised-one n).same.same) } }

pub over-scale : {D p : ℕ} {e : Fraction} (k : ℕ) → Over D p e → Over (D * k) (p * k) e
over-scale {D} {p} k o = record { val = val-as refl refl (omega arith) (val-scale k o.val) }

over-total : {D : ℕ} {ps : List ℕ} {es : List Fraction} → Pairs (Over D) ps es → Val D (sum_n ps) (length ps * (D * reach)) (total es)
over-total {D} nil = val-as refl refl (omega arith) (val-zero D)
over-total {D} (cons {xs} o os) = val-as refl refl (omega arith) (val_plus o.val (over-total os))

-- the rule with no rounding
pub over-blend : {D p : ℕ} {e : Fraction} {ps : List ℕ} {es : List Fraction} (r : Rule) → AddsUp r (length ps) → Over D p e → Pairs (Over D) ps es
    → Over (D * out_of r) (own r (length ps) * p + each r * sum_n ps) (exact.blend r e es)
over-blend {D} {p} {e} {ps} {es} r w o os =
    let n : length es ≡ length ps = sym (pairs-length (Over D) os) in
    let s = val_plus (val-times (own r (length ps)) o.val) (val-times (each r) (over-total os)) in
    let q : own r (length ps) * (D * reach) + each r * (length ps * (D * reach)) ≡ D * out_of r * reach = omega (arith, ap (λ (t : ℕ). t * (D * reach)) w.all) in
    rw n (record { val = val-as refl refl q (val-over (out_of r) w.above s) })

-- a rim edge, over 8 as the inner ones; an inner edge
pub over-halves : {D p q : ℕ} {a b : Fraction} → Over D p a → Over D q b → Over (D * 8) (4 * (p + q)) (exact.halves a b)
over-halves {D} {p} {q} o k = record { val = val-as (omega arith) (omega arith) (omega arith) (val-scale 4 (val-over 2 (omega arith) (val_plus o.val k.val))) }

pub over-eighths : {D p q u v : ℕ} {a b c d : Fraction} → Over D p a → Over D q b → Over D u c → Over D v d → Over (D * 8) (3 * p + 3 * q + u + v) (exact.eighths a b c d)
over-eighths {D} a b c d =
    record { val = val-as refl (omega arith) (omega arith) (val-over 8 (omega arith) (val_plus (val_plus (val_plus (val-times 3 a.val) (val-times 3 b.val)) c.val) d.val)) }

-- the new vertex of an inner edge at the limit: its ends have the denominators 8 j and 8 k, all else 8
pub over-six : {e e1 e2 e3 e4 a b : ℕ} {E E1 E2 E3 E4 A B : Fraction} (j k : ℕ) → AddsUp (ring_rule limit 6) 6
    → Over 8 e E → Over 8 e1 E1 → Over 8 e2 E2 → Over 8 e3 E3 → Over 8 e4 E4 → Over (8 * j) a A → Over (8 * k) b B
    → Over (96 * (j * k)) ((6 * e + e1 + e2 + e3 + e4) * (j * k) + a * k + b * j) (exact.blend (ring_rule limit 6) E (E1 ∷ B ∷ E2 ∷ E3 ∷ A ∷ E4 ∷ []))
over-six {e} {e1} {e2} {e3} {e4} {a} {b} j k w o o1 o2 o3 o4 p q =
    let p' = over-as {F = 8 * (j * k)} (omega arith) refl (over-scale k p) in
    let q' = over-as {F = 8 * (j * k)} (omega arith) refl (over-scale j q) in
    over-as (omega arith) (omega arith)
    (over-blend {D = 8 * (j * k)} (ring_rule limit 6) w (over-scale (j * k) o) (cons (over-scale (j * k) o1) (cons q' (cons (over-scale (j * k) o2) (cons (over-scale (j * k) o3) (cons p' (cons (over-scale (j * k) o4) nil)))))))
  where
    over-as : {D F x y : ℕ} {X : Fraction} → D ≡ F → x ≡ y → Over D x X → Over F y X
    over-as d n o = rw (← d, ← n) o

-- equal fractions have one value
pub val-carry : {D p m : ℕ} {y z : Fraction} → Val D p m y → y ≈F z → Val D p m z
val-carry {D} {p} {m} {y} {z} h e =
    record {
      same = eq_of_mul-eq-mul_right y.den y.above _ _
          (omega (arith, ap (λ (x : ℕ). x * z.den) h.same, ap (λ (x : ℕ). x * D) (crossed e)));
    }

-- the new vertex of a rim side at the limit, its ends over 8 j and 8 k as above
pub over-two : {e a b : ℕ} {E A B : Fraction} (j k : ℕ) (r : Rule) → AddsUp r 2 → Over 8 e E → Over (8 * j) a A → Over (8 * k) b B
    → Over (8 * (j * k) * out_of r) (own r 2 * (e * (j * k)) + each r * (b * j + (a * k + 0))) (exact.blend r E (B ∷ A ∷ []))
over-two j k r w o p q =
    let p' = over-den {F = 8 * (j * k)} (omega arith) (over-scale k p) in
    let q' = over-den {F = 8 * (j * k)} (omega arith) (over-scale j q) in
    over-blend {D = 8 * (j * k)} r w (over-scale (j * k) o) (cons q' (cons p' nil))
  where
    over-den : {D F x : ℕ} {X : Fraction} → D ≡ F → Over D x X → Over F x X
    over-den d o = rw (← d) o
