use native.Mathlib.Omega.{arith}
use Rattle.obj.specs.Inside.{no_digit}
use Rattle.obj.proofs.Runs.{run_more}
use Rattle.obj.proofs.reading.digits.Goals as goal

pub loop-at-init : goal.loop-at-init
loop-at-init c = (omega arith, no_digit)

pub loop-at-preserved : goal.loop-at-preserved
loop-at-preserved c = (
  omega arith,
  run_more _ _ _ _ _ _ _ _ c.loop-at.invariant.1 c.wide.ensures.0 (omega arith) c.in-Some.ensures,
)
