use native.Mathlib.Omega.{arith}
use Prim.Native.Nat.{ℕ, ◌+◌}
use mathlib.Core.Path.{◌≡◌, sym, ap, ◌∙◌}
use mathlib.Core.Bool.{Bool, not}
use mathlib.Core.Option.{none}
use lib.ListN.{length, get_or}
use Rattle.lists.specs.Lists.{found}
use Rattle.lists.proofs.Places.{tally-below}
use Rattle.rules.specs.Mesh.{links}
use Rattle.scans.proofs.Scans.{tally-one, tally-stays, rims-are}
use Rattle.scans.proofs.rims.count_rims.Goals as goal
use Rattle.scans.proofs.rims.count_rims.Goals.{then-on_rim, else-on_rim}

pub overflow_add-k : goal.overflow_add-k
overflow_add-k c = let l = c.loop-s in
    omega (arith, c.requires.few, l.invariant, tally-below (λ i. not (found (get_or (links c.args.indices.now) i none))) l.s)

pub loop-s-preserved : goal.loop-s-preserved
loop-s-preserved c = let a = c.args in
    let l = c.loop-s in
    let p : ℕ → Bool = λ i. not (found (get_or (links a.indices.now) i none)) in
    let e = sym c.on_rim.ensures in
    elim c.if-on_rim.branch [
      | then-on_rim came ↦ (
          came.k-is ∙ ap (λ (z : ℕ). z + 1) l.invariant ∙ tally-one p l.s (e ∙ came.if-on_rim.true)
          )
      | else-on_rim came ↦ (
          came.k-is ∙ l.invariant ∙ tally-stays p l.s (e ∙ came.if-on_rim.false)
          )
    ]

pub returns : goal.returns
returns c = let a = c.args in
    let l = c.loop-s in
    let e : l.s ≡ length a.indices.now = omega (arith, c.loop-s-test.false) in
    l.invariant ∙ rw e (rims-are a.indices.now)
