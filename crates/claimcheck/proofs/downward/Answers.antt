use native.Mathlib.Omega.{arith}
use mir.Syntax.{w32}
use mir.ValLaws.{to_z_pos}
use Rattle.claimcheck.proofs.Laws.{minus-fits}
use Rattle.claimcheck.proofs.downward.Goals as goal

pub overflow_sub-result : goal.overflow_sub-result
overflow_sub-result c = let n = c.args.n in rw (to_z_pos w32 n (omega arith)) (minus-fits n (omega arith))
