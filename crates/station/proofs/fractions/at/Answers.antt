use native.Mathlib.Omega.{arith}
use borrow.Author.Rules.{rules}
use Rattle.station.proofs.fractions.at.Goals as goal

pub raised_at-requires : goal.raised_at-requires
raised_at-requires c = (omega (arith, c.requires.0, c.requires.1.room), c.requires.1.near c.args.c c.requires.0)
