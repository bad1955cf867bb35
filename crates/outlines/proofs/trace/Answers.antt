use Prim.Native.Nat.{ℕ}
use mathlib.Core.Path.{◌∙◌}
use lib.ListN.{length, length-replicate}
use Rattle.rules.specs.Position.{whole}
use Rattle.rules.specs.Answers.{whole_rooms}
use Rattle.loopsubdiv.proofs.Outcomes.{done}
use Rattle.outlines.proofs.Accepted.{leaving-none, traceable, cage-facts}
use Rattle.outlines.proofs.trace.Goals as goal

pub leaving_sides-requires : goal.leaving_sides-requires
leaving_sides-requires c = let e = (done whole (whole_rooms (length c.args.positions.now) (length c.args.out.now) (length c.args.words.now) (length c.args.work.now)) c.args.levels c.args.indices.now c.args.coords.now c.args.c c.requires).passes in
    let k = cage-facts c.args.levels c.args.indices.now c.args.coords.now e in
    record { cage = (k.0, k.1, k.2, traceable c.args.levels c.args.indices.now c.args.coords.now e); empty = (length-replicate {A = ℕ} 4096 0, leaving-none c.args.indices.now 4096) }

pub finish-requires : goal.finish-requires
finish-requires c = let t = c.leaving_sides.ensures in
    record { success = c.requires; leaving = (t.1 ∙ length-replicate {A = ℕ} 4096 0, t.0) }
