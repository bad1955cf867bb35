use mathlib.Core.Path.{refl}
use Rattle.rules.proofs.numbers.F32Number.nought.Goals as goal

pub returns : goal.returns
unfolding lib.Ieee.of_bits lib.Ieee.of_int
returns c = refl
