use native.Mathlib.Omega.{arith}
use lib.ListN.{length}
use Rattle.rules.specs.Answers.{whole_rooms}
use Rattle.loopsubdiv.proofs.Outcomes.{whole_room_lem}
use Rattle.loopsubdiv.proofs.SharpOutcomes.{sharp-done}
use Rattle.loopsubdiv.proofs.act_whole.Goals as goal

pub act-requires : goal.act-requires
act-requires c = let x = c.args.c in
    let d = sharp-done (whole_rooms (length c.args.positions.now) (length c.args.out.now) (length c.args.words.now) (length c.args.work.now)) c.args.levels c.args.sharp.now c.args.indices.now c.args.coords.now x c.requires in
    let r = whole_room_lem (length c.args.positions.now) (length c.args.out.now) (length c.args.words.now) (length c.args.work.now) x d.room in
    record { planned = (d.planned, d.listed); room = (omega (arith, r.words), (omega (arith, r.coords), (r.positions, r.indices))) }
