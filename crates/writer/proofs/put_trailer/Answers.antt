use mathlib.Core.Path.{refl}
use native.Mathlib.Omega.{arith}
use Rattle.writer.proofs.put_trailer.Goals as goal

pub overflow_mul-t : goal.overflow_mul-t
overflow_mul-t c = record { fits = omega arith }

pub slice_bounds-put_numbers-end : goal.slice_bounds-put_numbers-end
slice_bounds-put_numbers-end c = refl

pub returns : goal.returns
returns c = c.put_numbers.ensures
