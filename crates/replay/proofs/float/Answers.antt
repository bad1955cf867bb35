use Rattle.std.proofs.Common.{rules, ne_eqb}
use Rattle.replay.proofs.float.Goals as goal

pub float_from_bits-result : goal.float_from_bits-result
unfolding lib.Ieee.nan_bits
float_from_bits-result c = rw (ne_eqb _ _ c.if-w-eq255.false) tt
