use native.Mathlib.Omega.{arith}
use mir.Syntax.{w32}
use mir.ValLaws.{to_z_pos}
use Rattle.obj.proofs.numbers.plus.Goals as goal

pub returns : goal.returns
returns c = to_z_pos w32 c.args.n (omega arith)
