use Prim.Native.Nat.{◌≤◌}
use mathlib.Core.Path.{sym, ◌∙◌}
use native.Mathlib.Omega.{arith}
use lib.ListN.{length}
use lib.Seq.{length-take-le}
use Rattle.objsheet.proofs.Laws.{fits}
use Rattle.objsheet.proofs.make.Lts
use Rattle.objsheet.proofs.make.Reads
use Rattle.objsheet.proofs.make.Tie
use Rattle.objsheet.proofs.make.Goals as goal

abbrev In-Ok : Type 0
In-Ok = Lts.Past-After-known_told Tie.the-claims Reads.Pre Reads.Post

written-fits : (k : In-Ok) → k.in-Ok.k ≤ length k.made.new.out
written-fits k =
    omega (arith, fits _ _ _ _ (sym k.made.ensures.answer ∙ k.in-Ok.is), k.made.auto.out)

pub slice_bounds-out-end : goal.slice_bounds-out-end
slice_bounds-out-end c = written-fits c

pub slice_bounds-output-end : goal.slice_bounds-output-end
slice_bounds-output-end c = sym (length-take-le _ _ (written-fits c.before))
