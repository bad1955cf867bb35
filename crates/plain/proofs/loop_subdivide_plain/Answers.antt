use native.Mathlib.Omega.{arith}
use mathlib.Core.Path.{sym, ◌∙◌}
use lib.ListN.{length}
use Rattle.rules.specs.Answers.{whole_rooms}
use Rattle.loopsubdiv.proofs.Outcomes.{whole_room_lem}
use Rattle.loopsubdiv.proofs.SharpOutcomes.{sharp-done}
use Rattle.plain.proofs.loop_subdivide_plain.Goals as goal

pub run-requires : goal.run-requires
run-requires c = let e = sym c.judge_room.ensures ∙ c.in_ok-c.was in
    let d = sharp-done (whole_rooms (length c.args.positions.now) (length c.args.out.now) (length c.args.words.now) (length c.args.work.now)) c.args.levels c.args.sharp.now c.args.indices.now c.args.coords.now c.in_ok-c.c e in
    let r = whole_room_lem (length c.args.positions.now) (length c.args.out.now) (length c.args.words.now) (length c.args.work.now) c.in_ok-c.c d.room in
    record { planned = (d.planned, d.listed); room = (omega (arith, r.words), (omega (arith, r.coords), (r.positions, r.indices))) }
