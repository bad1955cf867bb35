use native.Mathlib.Omega.{arith}
use Rattle.whole.proofs.Sums.{raised-add}
use Rattle.weights.proofs.Means.{raised_of, once, mean-is}
use Rattle.weights.proofs.micrometres.half.Goals as goal

pub returns : goal.returns
returns c = let a = c.at.ensures in
    let b = c.at-2.ensures in
    (mean-is (omega arith) (raised-add (once (raised_of a.0 a.1)) (once (raised_of b.0 b.1))) c.rounded.ensures.0, c.rounded.ensures.1)
