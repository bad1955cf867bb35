use mathlib.Core.Path.{◌≡◌, refl, ap, ◌∙◌}
use native.Mathlib.Omega.{arith}
use lib.ListN.{length}
use lib.Seq.{length-sets}
use Rattle.rules.specs.Position.{whole}
use Rattle.weights.specs.Lent.{lowered}
use Rattle.creases.proofs.Moves.{old-kept, old-more}
use Rattle.plain.proofs.points.old_points.Goals as goal

pub loop-u-init : goal.loop-u-init
loop-u-init c = (omega arith, (refl, refl))

pub old_point-p-requires : goal.old_point-p-requires
old_point-p-requires c = let a = c.args in
    let r = c.requires in
    let l = c.loop-u in
    record { mesh = (r.mesh, omega arith); room = omega (arith, r.room.old, l.invariant.1.0); near = rw (old-kept whole a.words.now a.at a.marks a.nf a.nv a.work.now a.from a.to r.room l.u (omega arith) l.work l.invariant.1.1) r.near }

pub overflow_mul-u : goal.overflow_mul-u
overflow_mul-u c = let a = c.args in
    let r = c.requires in
    let l = c.loop-u in
    omega (arith, r.room.new, l.invariant.1.0)

pub overflow_add-to : goal.overflow_add-to
overflow_add-to c = let a = c.args in
    let r = c.requires in
    let l = c.loop-u in
    omega (arith, r.room.new, l.invariant.1.0)

pub put-requires : goal.put-requires
put-requires c = let a = c.args in
    let r = c.requires in
    let l = c.loop-u in
    (omega (arith, r.room.new, l.invariant.1.0), c.old_point-p.ensures.near)

pub loop-u-preserved : goal.loop-u-preserved
loop-u-preserved c = let a = c.args in
    let r = c.requires in
    let l = c.loop-u in
    let e = old-more whole a.words.now a.at a.marks a.nf a.nv a.work.now a.from a.to r.room l.u (omega arith) l.work l.invariant.1.1 c.put.new.xs (lowered c.old_point-p.result) c.put.ensures c.old_point-p.ensures.point in
    (omega arith, (ap length e ∙ simp length-sets, e))

pub returns : goal.returns
returns c = let e : c.loop-u.u ≡ c.args.nv = omega arith in
    c.loop-u.invariant.1.1 ∙ rw e
