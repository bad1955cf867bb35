use lib.ListN.{take}
use Rattle.whole.proofs.Sums.{Raised}
use Rattle.weights.specs.Lent.{sum_of}
use Rattle.weights.proofs.micrometres.ring_sum.Given as goal

abbrev pub invariant-loop-u : goal.invariant-loop-u
invariant-loop-u l =
    let i = l.u-index in
    let vs = take i l.ring in
    Raised l.x i (sum_of l.xs vs 0) × (Raised l.y i (sum_of l.xs vs 1) × Raised l.z i (sum_of l.xs vs 2))
