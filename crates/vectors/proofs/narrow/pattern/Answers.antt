use Rattle.std.proofs.Common.{T, sym, subst, arith}
use lib.Ieee.{binary64, fits}
use Rattle.vectors.proofs.Patterns.{no_nan, nan-bits, wide, pattern-no-nan, made}
use Rattle.vectors.proofs.narrow.pattern.Lts
use Rattle.vectors.proofs.narrow.pattern.Reads
use Rattle.vectors.proofs.narrow.pattern.Tie
use Rattle.vectors.proofs.narrow.pattern.Goals as goal

abbrev Start : Type 0
Start = Lts.Start Tie.the-claims Reads.Pre Reads.Post Tie.handed_clauses

-- `vectors::narrow::pattern` meets its contract, by the laws of `proofs/Patterns.antt`.
-- what owning an `f64` tells: the format holds it
held : (c : Start) → T (fits binary64 c.args.x)
held c = subst T (sym c.well_formed.0.1) tt

pub returns-then-x : goal.returns-then-x
returns-then-x c = nan-bits c.args.x c.if-x.true

pub float_to_bits-b : goal.float_to_bits-b
float_to_bits-b c = no_nan c.args.x c.if-x.false

pub overflow_mul-n : goal.overflow_mul-n
overflow_mul-n c = omega (arith, wide c.args.x (held c.before))

pub magnitude-requires : goal.magnitude-requires
magnitude-requires c = pattern-no-nan c.args.x (held c.before) (no_nan c.args.x c.if-x.false)

pub overflow_add-n : goal.overflow_add-n
overflow_add-n c = omega (arith, wide c.args.x (held c.before.before))

pub overflow_cast-result : goal.overflow_cast-result
overflow_cast-result c = omega (arith, wide c.args.x (held c.before.before))

pub returns : goal.returns
returns c = made c.args.x (held c.before.before) c.magnitude.result c.magnitude.ensures.result_value
