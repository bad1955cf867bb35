use native.Mathlib.Omega.{arith}
use mathlib.Core.Path.{◌≡◌, ap, ◌∙◌}
use lib.IntN.{pos, ◌-ℤ◌}
use mir.Syntax.{w32}
use mir.Val.{to_z, of_z}
use mir.ValLaws.{to_z-of_z, to_z_pos}
use Rattle.obj.specs.Reading.{minus}
use Rattle.obj.proofs.Answers.{zero_minus, minus-fits}
use Rattle.obj.proofs.numbers.less.Lts
use Rattle.obj.proofs.numbers.less.Reads
use Rattle.obj.proofs.numbers.less.Goals as goal

abbrev Start : Type 0
Start = Lts.Start Reads.Pre Reads.Post

value : (c : Start) → pos 0 -ℤ to_z w32 c.args.n ≡ minus c.args.n
value c = rw (to_z_pos w32 c.args.n (omega arith)) (zero_minus c.args.n)

pub overflow_sub-result : goal.overflow_sub-result
overflow_sub-result c = rw (value c) (minus-fits c.args.n (omega arith))

pub returns : goal.returns
returns c = ap (λ z. to_z w32 (of_z w32 z)) (value c) ∙ to_z-of_z w32 (minus c.args.n) (minus-fits c.args.n (omega arith))
