use Prim.Native.Nat.{◌-◌}
use native.Mathlib.Omega.{arith}
use lib.ListN.{length}
use borrow.Author.Rules.{rules}
use Rattle.station.specs.Far.{raised_at}
use Rattle.station.proofs.Points.{ends-sum}
use Rattle.station.proofs.fractions.ends_sum.Goals as goal

pub overflow_cast-ring : goal.overflow_cast-ring
overflow_cast-ring c = let r = c.requires in omega (arith, (r.1.1.at 0 r.1.0).room)

pub at-requires : goal.at-requires
at-requires c = let r = c.requires in (r.0, r.1.1.at 0 r.1.0)

pub overflow_cast-ring-2 : goal.overflow_cast-ring-2
overflow_cast-ring-2 c = omega (arith, (c.requires.1.1.at (length c.args.ring.now - 1) (omega (arith, c.requires.1.0))).room)

pub at-requires-2 : goal.at-requires-2
at-requires-2 c = (c.requires.0, c.requires.1.1.at (length c.args.ring.now - 1) (omega (arith, c.requires.1.0)))

pub overflow_add-result : goal.overflow_add-result
overflow_add-result c = omega (arith, c.at-2.ensures.1, c.at.ensures.1)

pub returns : goal.returns
returns c = (ends-sum (raised_at c.args.xs.now c.args.c) c.args.ring.now c.at.result c.at-2.result c.requires.1.0 c.at.ensures.0 c.at-2.ensures.0, omega (arith, c.at.ensures.1, c.at-2.ensures.1))
