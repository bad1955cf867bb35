use native.Mathlib.Omega.{arith}
use borrow.Author.Tests.{lt-ltb, le-ltb}
use borrow.Author.Rules.{rules}
use Rattle.station.proofs.near.apart.Goals as goal

pub returns-then-a-b : goal.returns-then-a-b
returns-then-a-b c = rw (lt-ltb c.args.a c.args.b (omega arith))

pub returns-else-a-b : goal.returns-else-a-b
returns-else-a-b c = rw (le-ltb c.args.a c.args.b (omega arith))
