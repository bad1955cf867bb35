use native.Mathlib.Omega.{arith}
use Rattle.rules.specs.Position.{numbers_of}
use Rattle.loopsubdiv.proofs.Limits.{limit-more, limits-are}
use Rattle.loopsubdiv.proofs.engine.limit.Goals as goal

pub loop-u-preserved : goal.loop-u-preserved
loop-u-preserved g c = let l = c.loop-u in
    limit-more (numbers_of g.N.Number.on) c.args.words.now c.args.at c.args.nf c.args.nv c.args.xs.now c.args.out.now l.out _ (g.N.Weighed.listed c.moved_point-p.result) l.u (omega arith)
    l.invariant c.put.ensures c.moved_point-p.ensures.point

pub returns : goal.returns
returns g c = let l = c.loop-u in
    limits-are (numbers_of g.N.Number.on) c.args.words.now c.args.at c.args.nf c.args.nv c.args.xs.now c.args.out.now l.out l.u (omega arith) l.invariant
