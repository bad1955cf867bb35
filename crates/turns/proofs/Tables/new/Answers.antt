use mathlib.Core.Path.{refl}
use Rattle.turns.specs.Table.{cos_table, sin_table}
use Rattle.turns.proofs.Tables.new.Goals as goal

-- the code's numbers are the table's
pub invariant_of-result : goal.invariant_of-result
unfolding cos_table sin_table
invariant_of-result c = record { made = record { cosines = refl; sines = refl } }
