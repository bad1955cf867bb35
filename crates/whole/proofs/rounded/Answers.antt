use mathlib.Core.Path.{sym, ap, ◌∙◌}
use Prim.Native.Nat.{ℕ, ◌+◌, ◌-◌, ◌*◌, ◌/◌, ◌≤◌, ◌<◌}
use native.Mathlib.Omega.{arith}
use native.Mathlib.Nat.{div-lt_iff_lt-mul}
use Rattle.whole.specs.Whole.{reach, under, raise}
use Rattle.whole.proofs.Half.{quotient-nearest}
use Rattle.whole.proofs.Sums.{raised-lower, raise-is}
use Rattle.whole.proofs.rounded.Goals as goal

quotient-most : (s d u : ℕ) → 0 < d → s ≤ d * (2 * reach) → (2 * s + d - u) / (2 * d) ≤ 2 * reach
quotient-most s d u h l = let q : (2 * s + d - u) / (2 * d) < 2 * reach + 1 = (div-lt_iff_lt-mul {k = 2 * d} (omega arith)).1 (omega arith) in omega arith

pub returns : goal.returns
returns c = let s = c.args.s in
    let d = c.args.d in
    let p = c.requires in
    let u = under s (d * reach) in
    let m = quotient-most s d u p.0 p.2 in
    rw (c.quotient.ensures, c.under.ensures.0) (sym (raise-is (raised-lower ((2 * s + d - u) / (2 * d)) m)) ∙ ap raise (quotient-nearest s d p.0), m)
