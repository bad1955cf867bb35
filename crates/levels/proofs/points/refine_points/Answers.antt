use native.Mathlib.Omega.{arith}
use lib.ListN.{length}
use Rattle.rules.specs.Position.{numbers_of}
use Rattle.levels.specs.Moves.{Placed, edges_in}
use Rattle.levels.proofs.Moves.{points_kept, points-are}
use Rattle.levels.proofs.points.refine_points.Goals as goal

pub edge_points-requires : goal.edge_points-requires
edge_points-requires g c = let a = c.args in
    let r = c.requires in
    let p : Placed (length c.old_points.new.work) a.from a.to a.nv (edges_in a.words.now a.at a.nf) =
    record { old = omega (arith, r.room.old); new = omega (arith, r.room.new); apart = r.room.apart } in
    record { mesh = r.mesh; room = p; near = rw (c.old_points.ensures, points_kept (numbers_of g.N.Number.on) a.words.now a.at a.nf a.nv a.work.now a.from a.to r.room) r.near }

pub returns : goal.returns
returns g c = let a = c.args in
    let r = c.requires in
    points-are (numbers_of g.N.Number.on) a.words.now a.at a.nf a.nv a.work.now a.from a.to r.room c.old_points.new.work c.edge_points.new.work c.old_points.ensures c.edge_points.ensures
