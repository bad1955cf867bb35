use native.Mathlib.Omega.{arith}
use mathlib.Core.Path.{◌≡◌, refl, ◌∙◌}
use lib.ListN.{length-set}
use Rattle.sharp.proofs.First.{unmarked-more}
use Rattle.sharp.proofs.no_marks.Goals as goal

pub loop-k-init : goal.loop-k-init
loop-k-init c = (omega arith, refl, refl)

pub loop-k-preserved : goal.loop-k-preserved
loop-k-preserved c = let l = c.loop-k in
    (omega arith, rw length-set l.invariant.1, unmarked-more c.args.words.now c.args.at c.args.n l.k (omega arith) l.words _ l.invariant.2 refl)

pub returns : goal.returns
returns c = let l = c.loop-k in
    let e : l.k ≡ c.args.n = omega arith in
    l.invariant.2 ∙ rw e
