use native.Mathlib.Omega.{arith}
use Rattle.weights.proofs.Gathered.{fill_more}
use Rattle.weights.proofs.points.ring_points.Goals as goal

pub loop-i-preserved : goal.loop-i-preserved
loop-i-preserved c = let a = c.args in
    fill_more a.xs.now a.ring.now _ c.loop-i.i (omega arith) c.loop-i.invariant c.point-q.ensures
