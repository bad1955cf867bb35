use native.Mathlib.Omega.{arith}
use Rattle.whole.proofs.Sums.{raised-add, raised-times}
use Rattle.weights.proofs.Means.{raised_of, once, mean-is}
use Rattle.weights.proofs.micrometres.eighths.Goals as goal

pub returns : goal.returns
returns c = let s = c.before.before in
    let r = s.before.before in
    let a = r.at.ensures in
    let b = r.at-2.ensures in
    let d = r.at-3.ensures in
    let e = s.at-4.ensures in
    let ends = raised-add (raised-times 3 (raised_of a.0 a.1)) (raised-times 3 (raised_of b.0 b.1)) in
    let all = raised-add (raised-add ends (once (raised_of d.0 d.1))) (once (raised_of e.0 e.1)) in
    (mean-is (omega arith) all c.rounded.ensures.0, c.rounded.ensures.1)
