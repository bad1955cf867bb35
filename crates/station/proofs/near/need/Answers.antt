use mathlib.Core.Path.{◌≡◌, sym, subst, ap, ◌∙◌}
use Prim.Native.Nat.{ℕ, ◌+◌, ◌-◌, ◌*◌, ◌/◌, ◌≤◌, ◌<◌}
use mir.Syntax.{w32}
use mir.ValLaws.{to_z-of_z}
use native.Mathlib.Omega.{arith}
use native.Mathlib.Nat.{mul-le-mul_right}
use mathlib.Core.Bool.{Bool, true, false}
use lib.Dec.{ltb}
use Rattle.lists.specs.Lists.{pick}
use Rattle.station.specs.Lift.{lift, between, need_over}
use Rattle.station.proofs.Held.{need-most, lift-most}
use borrow.Author.Rules.{rules}
use Rattle.station.proofs.near.need.Goals as goal

between-most : (a b : ℕ) → between a b ≤ a + b
between-most a b = go (ltb a b)
  where
    go : (t : Bool) → pick t (b - a) (a - b) ≤ a + b
    go true = omega arith
    go false = omega arith

pub overflow_mul-a : goal.overflow_mul-a
overflow_mul-a c = record { fits = omega (arith, mul-le-mul_right c.args.den c.lifted.ensures.1, c.requires.1.0) }

pub overflow_add-result : goal.overflow_add-result
overflow_add-result c = let d = c.args.den in
    let p = c.requires in
    record { fits = omega (arith, c.apart.ensures, between-most (c.lifted.result * d) (c.args.num + 1147483648 * d), mul-le-mul_right d c.lifted.ensures.1, p.1.0, p.1.1) }

pub returns : goal.returns
returns c = let d = c.args.den in
    let e = c.lifted.ensures.0 ∙ ap lift (to_z-of_z w32 c.args.y c.ranges.y) in
    let q : (c.apart.result + (d - 1)) / d ≡ need_over (lift c.args.y) c.args.num d =
    ap (λ (x : ℕ). (x + (d - 1)) / d) (c.apart.ensures ∙ ap (λ (z : ℕ). between (z * d) (c.args.num + 1147483648 * d)) e) in
    (q, subst (λ (x : ℕ). x < 4294967296) (sym q) (need-most (lift c.args.y) c.args.num d c.requires.0 (lift-most c.ranges.y) c.requires.1.1))
