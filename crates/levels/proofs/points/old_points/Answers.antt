use native.Mathlib.Omega.{arith}
use Rattle.rules.specs.Position.{numbers_of}
use Rattle.levels.proofs.Moves.{old-kept, old-more}
use Rattle.levels.proofs.points.old_points.Goals as goal

pub old_point-p-requires : goal.old_point-p-requires
old_point-p-requires g c = let a = c.args in
    let r = c.requires in
    let l = c.loop-u in
    record { mesh = (r.mesh, omega arith); room = omega (arith, r.room.old); near = rw (old-kept (numbers_of g.N.Number.on) a.words.now a.at a.nf a.nv a.work.now a.from a.to r.room l.u (omega arith) l.work l.invariant) r.near }

pub loop-u-preserved : goal.loop-u-preserved
loop-u-preserved g c = let a = c.args in
    let r = c.requires in
    let l = c.loop-u in
    old-more (numbers_of g.N.Number.on) a.words.now a.at a.nf a.nv a.work.now a.from a.to r.room l.u (omega arith) l.work l.invariant c.put.new.xs (g.N.Weighed.listed c.old_point-p.result) c.put.ensures c.old_point-p.ensures.point
