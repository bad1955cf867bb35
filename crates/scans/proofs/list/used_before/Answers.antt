use native.Mathlib.Omega.{arith}
use Prim.Native.Nat.{ℕ}
use mathlib.Core.Path.{refl, sym, ap, ◌∙◌}
use lib.ListN.{get_or}
use Rattle.scans.proofs.Scans.{before-one, before-none}
use Rattle.scans.proofs.list.used_before.Goals as goal

pub returns-then-runs : goal.returns-then-runs
returns-then-runs c = let a = c.args in
    let fs = a.indices.now in
    sym (before-one fs a.s c.requires.1 _ _ refl (ap (λ (z : ℕ). get_or fs z 0) c.onward.ensures) c.loop-t.t c.loop-t-test.true (sym c.runs.ensures ∙ c.if-runs.true))

pub returns : goal.returns
returns c = let a = c.args in
    let fs = a.indices.now in
    sym (before-none fs a.s c.requires.1 _ _ refl (ap (λ (z : ℕ). get_or fs z 0) c.onward.ensures) (λ j h. c.loop-t.invariant j (omega (arith, c.loop-t-test.false))))
