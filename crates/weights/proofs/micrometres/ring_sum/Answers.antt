use mathlib.Core.Path.{◌≡◌}
use mathlib.Core.List.{List}
use Prim.Native.Nat.{ℕ, ◌<◌}
use native.Mathlib.Omega.{arith}
use lib.ListN.{length, take}
use lib.Seq.{take_all}
use lib.IntN.{ℤ}
use Rattle.whole.proofs.Sums.{Raised, lower-is}
use Rattle.rules.specs.Position.{whole}
use Rattle.rules.specs.Levels.{coord}
use Rattle.weights.specs.Lent.{Stands, sum_of}
use Rattle.weights.proofs.Means.{raised_of, raised-more}
use Rattle.weights.proofs.micrometres.ring_sum.Goals as goal

pub loop-u-preserved : goal.loop-u-preserved
loop-u-preserved c = let a = c.args in
    let v = c.loop-u.invariant in
    let x = c.at-x.ensures in
    let y = c.at-y.ensures in
    let z = c.at-z.ensures in
    let xs = a.xs.now in
    let vs = a.ring.now in
    let i = c.loop-u.u-index in
    let h : i < length vs = omega arith in (
      raised-more (coord whole xs 0) vs i 0 h v.0 (raised_of x.0 x.1),
      (raised-more (coord whole xs 1) vs i 0 h v.1.0 (raised_of y.0 y.1), raised-more (coord whole xs 2) vs i 0 h v.1.1 (raised_of z.0 z.1)),
    )

-- coordinate k, when none is left
whole-ring : (xs : List ℤ) (vs : List ℕ) (k : ℕ) {s i : ℕ} → i ≡ length vs → Raised s i (sum_of xs (take i vs) k) → Stands s (length vs) (sum_of xs vs k)
whole-ring xs vs k {s} {i} e r =
    let h = rw (e, take_all (length vs) vs (omega arith)) at r in
    (lower-is h, h.most)

pub returns : goal.returns
returns c = let a = c.args in
    let v = c.loop-u.invariant in
    let xs = a.xs.now in
    let vs = a.ring.now in
    let h : c.loop-u.u-index ≡ length vs = omega arith in
    (whole-ring xs vs 0 h v.0, (whole-ring xs vs 1 h v.1.0, whole-ring xs vs 2 h v.1.1))
