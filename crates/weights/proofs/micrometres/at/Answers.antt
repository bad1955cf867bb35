use Rattle.whole.proofs.Sums.{lower-raise}
use Rattle.weights.proofs.micrometres.at.Goals as goal

pub returns : goal.returns
returns c = let a = c.args in
    let h = c.requires in
    (rw c.raised_at.ensures.0 (lower-raise (h.1.near a.c h.0)), c.raised_at.ensures.1)
