use mathlib.Core.Path.{subst}
use lib.ListN.{length}
use borrow.Author.Rules.{rules}
use Rattle.weights.specs.declared.Rule.{Rule}
use Rattle.weights.specs.declared.micrometres.Share.{Share}
use Rattle.weights.specs.Lent.{Shares}
use Rattle.station.specs.Far.{raised_at}
use Rattle.station.proofs.Points.{ring-weighted, rim-weighted}
use Rattle.station.proofs.fractions.weighted.Goals as goal

pub mix-requires : goal.mix-requires
mix-requires c = (subst (λ (r : Rule Share). Shares r (length c.args.ring.now)) c.in-Ring.is c.requires.shares, (c.at-p.ensures.1, c.ring_sum.ensures.1))

pub mix-requires-in-Rim : goal.mix-requires-in-Rim
mix-requires-in-Rim c = (subst (λ (r : Rule Share). Shares r (length c.args.ring.now)) c.in-Rim.is c.requires.shares, (c.at-p.ensures.1, c.ends_sum.ensures.1))

pub returns-in-Ring : goal.returns-in-Ring
returns-in-Ring c = let a = c.args in
    ring-weighted (raised_at a.xs.now a.c) a.u a.ring.now c.in-Ring.is c.at-p.ensures.0 c.ring_sum.ensures.0 c.mix.ensures

pub returns-in-Rim : goal.returns-in-Rim
returns-in-Rim c = let a = c.args in
    rim-weighted (raised_at a.xs.now a.c) a.u a.ring.now c.in-Rim.is c.at-p.ensures.0 c.ends_sum.ensures.0 c.mix-in-Rim.ensures
