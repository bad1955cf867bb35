use native.Mathlib.Omega.{arith}
use mathlib.Core.Path.{◌∙◌}
use Rattle.rules.specs.Position.{whole}
use Rattle.weights.specs.Weights.{staged}
use Rattle.creases.proofs.Counted.{count-ring, count-pair, count-stay}
use Rattle.creases.proofs.creased.Goals as goal

pub returns-then-k-lt2 : goal.returns-then-k-lt2
returns-then-k-lt2 c = let a = c.args in
    record { point = c.vertex.ensures.point ∙ count-ring whole (staged a.stage) a.xs.now a.v.0 a.ring.now a.k a.a a.b c.if-k-lt2.true; near = c.vertex.ensures.near }

pub crease-requires : goal.crease-requires
crease-requires c = let p = c.requires in let e = p.creasable.ends c.if-k-eq2.true in (p.readable.0, (e.0, e.1))

pub returns-then-k-eq2 : goal.returns-then-k-eq2
returns-then-k-eq2 c = let a = c.args in
    record { point = c.crease.ensures.point ∙ count-pair whole (staged a.stage) a.xs.now a.v.0 a.ring.now a.k a.a a.b c.if-k-eq2.true; near = c.crease.ensures.near }

pub returns : goal.returns
returns c = let a = c.args in
    record { point = c.stay.ensures.point ∙ count-stay whole (staged a.stage) a.xs.now a.v.0 a.ring.now a.k a.a a.b (omega (arith, c.if-k-lt2.false)) c.if-k-eq2.false; near = c.stay.ensures.near }
