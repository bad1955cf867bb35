use Prim.Native.Nat.{ℕ, ◌+◌, ◌-◌, ◌*◌, ◌≤◌, ◌<◌}
use mathlib.Core.Path.{◌≡◌, refl, sym, ap, ◌∙◌}
use mathlib.Core.List.{List, map}
use native.Mathlib.Omega.{arith}
use lib.ListN.{length, take}
use lib.Seq.{take_all}
use borrow.Author.Rules.{rules}
use Rattle.whole.specs.Whole.{reach}
use Rattle.station.specs.Far.{raised_at, sum_n}
use Rattle.station.proofs.Points.{sum-next}
use Rattle.station.proofs.fractions.ring_sum.Goals as goal

pub loop-v-init : goal.loop-v-init
loop-v-init c = (omega arith, (refl, omega arith))

pub at-x-requires : goal.at-x-requires
at-x-requires c = (c.requires.0, c.requires.1.at c.loop-v.v-index (omega arith))

pub overflow_add-x : goal.overflow_add-x
overflow_add-x c = omega (arith, c.loop-v.invariant.1.1, c.requires.1.few, c.at-x.ensures.1)

pub loop-v-preserved : goal.loop-v-preserved
loop-v-preserved c = let a = c.args in
    let vs = a.ring.now in
    let f = raised_at a.xs.now a.c in
    let i = c.loop-v.v-index in
    let h : i < length vs = omega arith in (
      omega arith,
      (
        ap (λ (z : ℕ). z + c.at-x.result) c.loop-v.invariant.1.0 ∙ ap (λ (z : ℕ). sum_n (map f (take i vs)) + z) c.at-x.ensures.0 ∙ sym (sum-next f vs i h),
        omega (arith, c.loop-v.invariant.1.1, c.at-x.ensures.1),
      ),
    )

pub returns : goal.returns
returns c = let l = c.loop-v in
    let a = c.args in
    let vs = a.ring.now in
    let f = raised_at a.xs.now a.c in
    let z : l.v-index ≡ length vs = omega arith in
    (l.invariant.1.0 ∙ ap (λ (k : ℕ). sum_n (map f (take k vs))) z ∙ ap (λ (k : List ℕ). sum_n (map f k)) (take_all (length vs) vs (omega arith)), omega (arith, l.invariant.1.1, z))
