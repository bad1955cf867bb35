use mathlib.Core.Path.{refl}
use Prim.Native.Nat.{◌+◌, ◌*◌, ◌/◌, ◌≤◌, ◌<◌}
use native.Mathlib.Omega.{arith}
use borrow.Author.Rules.{rules}
use Rattle.turns.specs.Turns.{most_valence}
use Rattle.turns.specs.Table.{place}
use Rattle.turns.proofs.Rule.{placed}
use Rattle.turns.proofs.place.Goals as goal

-- `turns::place` meets its contract: one computed test over the places.
known : (c : goal.Start) → (6 ≤ c.args.m * (c.args.m + 1) / 2) × (c.args.m * (c.args.m + 1) ≤ 4096) × (place c.args.k c.args.m < place 0 (most_valence + 1))
known c = placed c.args.k c.args.m (search rules) (search rules) (search rules)

pub overflow_mul-result : goal.overflow_mul-result
overflow_mul-result c = omega (arith, (known c).1)

pub overflow_sub-result : goal.overflow_sub-result
overflow_sub-result c = (known c).0

pub overflow_add-result-2 : goal.overflow_add-result-2
overflow_add-result-2 c = omega (arith, (known c).2)

pub returns : goal.returns
returns c = (refl, (known c).2)
