use Rattle.std.proofs.Common.{ap, ◌∙◌}
use lib.Ieee.{binary32, of_bits}
use lib.Ieee.Bits.{of_bits-to_bits}
use Rattle.vectors.specs.Narrow.{narrowed}
use Rattle.vectors.proofs.Patterns.{no_nan, of_nan, narrowed-fits, written-no-nan}
use Rattle.vectors.proofs.narrow.narrow.Goals as goal

-- `vectors::narrow::narrow` meets its contract: what is read from the pattern of a value that fits is the value.
pub returns-then-x : goal.returns-then-x
returns-then-x c = of_nan c.args.x c.if-x.true

pub pattern-requires : goal.pattern-requires
pattern-requires c = tt

pub float_from_bits-result : goal.float_from_bits-result
float_from_bits-result c = written-no-nan c.args.x (no_nan c.args.x c.if-x.false) c.pattern.result c.pattern.ensures

pub returns : goal.returns
returns c = let x = c.args.x in
    ap (of_bits binary32) c.pattern.ensures ∙ of_bits-to_bits binary32 (narrowed x) (narrowed-fits x)
