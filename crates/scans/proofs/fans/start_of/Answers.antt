use Prim.Native.Nat.{ℕ}
use mathlib.Core.Path.{◌∙◌}
use mathlib.Core.Bool.{Bool}
use lib.Dec.{eqb}
use borrow.Author.Tests.{eq-eqb, ne_eqb}
use Rattle.rules.specs.Mesh.{corner}
use Rattle.scans.proofs.Scans.{last-here, last-same}
use Rattle.scans.proofs.fans.start_of.Goals as goal
use Rattle.scans.proofs.fans.start_of.Goals.{then-corner-u, else-corner-u}

pub loop-t-preserved : goal.loop-t-preserved
loop-t-preserved c = let a = c.args in
    let l = c.loop-t in
    let p : ℕ → Bool = λ s. eqb (corner a.indices.now s) a.u in
    elim c.if-corner-u.branch [
      | then-corner-u came ↦ (
          came.last-is ∙ last-here p l.t (eq-eqb _ _ came.if-corner-u.true)
          )
      | else-corner-u came ↦ (
          came.last-is ∙ l.invariant ∙ last-same p l.t (ne_eqb _ _ came.if-corner-u.false)
          )
    ]
