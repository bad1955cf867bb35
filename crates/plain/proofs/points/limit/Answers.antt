use native.Mathlib.Omega.{arith}
use mathlib.Core.Path.{refl, ◌∙◌}
use lib.ListN.{length}
use lib.Seq.{length-sets}
use mathlib.Core.Path.{ap}
use Rattle.weights.specs.Lent.{lowered}
use Rattle.sharp.proofs.Last.{sharp-limit-more, sharp-limits-are}
use Rattle.plain.proofs.points.limit.Goals as goal

pub loop-u-init : goal.loop-u-init
loop-u-init c = (omega arith, refl, refl)

pub limit_at-p-requires : goal.limit_at-p-requires
limit_at-p-requires c = record { mesh = (c.requires.mesh, omega arith); coords = c.requires.coords }

pub put-requires : goal.put-requires
put-requires c = (omega (arith, c.loop-u.invariant.1), c.limit_at-p.ensures.near)

pub loop-u-preserved : goal.loop-u-preserved
loop-u-preserved c = let l = c.loop-u in
    let e = c.put.ensures in (
      omega arith,
      ap length e ∙ simp length-sets l.invariant.1,
      sharp-limit-more c.args.words.now c.args.at c.args.marks c.args.nf c.args.nv c.args.xs.now c.args.out.now l.out _ (lowered c.limit_at-p.result) l.u (omega arith)
          l.invariant.2 e c.limit_at-p.ensures.point,
    )

pub returns : goal.returns
returns c = let l = c.loop-u in
    sharp-limits-are c.args.words.now c.args.at c.args.marks c.args.nf c.args.nv c.args.xs.now c.args.out.now l.out l.u (omega arith) l.invariant.2
