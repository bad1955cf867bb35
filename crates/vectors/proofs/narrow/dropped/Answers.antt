use Rattle.std.proofs.Common.{arith}
use Rattle.vectors.proofs.Drop.{half_pos, half_le, dropped-is}
use Rattle.vectors.proofs.narrow.dropped.Goals as goal

pub overflow_sub-result : goal.overflow_sub-result
overflow_sub-result c = half_pos c.args.d c.requires.0 c.requires.1

pub overflow_add-result : goal.overflow_add-result
overflow_add-result c = omega (arith, half_le c.args.d c.requires.0 c.requires.1)

pub overflow_add-result-2 : goal.overflow_add-result-2
overflow_add-result-2 c = omega (arith, half_le c.args.d c.requires.0 c.requires.1)

pub returns : goal.returns
returns c = dropped-is c.args.d c.requires.0 c.requires.1 c.args.q
