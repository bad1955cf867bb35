use native.Mathlib.Omega.{arith}
use mathlib.Core.Path.{sym, ap, ◌∙◌}
use lib.ListN.{length}
use Rattle.rules.specs.Position.{single}
use Rattle.rules.specs.Answers.{single_rooms}
use Rattle.rules.specs.declared.Counts.{Counts}
use Rattle.loopsubdiv.proofs.Outcomes.{done, single-room}
use Rattle.loopsubdiv.proofs.loop_subdivide.Goals as goal

pub run-requires : goal.run-requires
run-requires c = let x = c.in_ok-c.c in
    let d = done single (single_rooms (length c.args.positions.now) (length c.args.normals.now) (length c.args.out.now) (length c.args.words.now) (length c.args.work.now)) c.args.levels c.args.indices.now c.args.coords.now x (sym c.judge_single.ensures ∙ c.in_ok-c.was) in
    let r = single-room (length c.args.positions.now) (length c.args.normals.now) (length c.args.out.now) (length c.args.words.now) (length c.args.work.now) x d.room in record { planned = record { passes = d.passes; faces = sym (ap (λ (k : Counts). k.faces) d.counts); verts = sym (ap (λ (k : Counts). k.vertices) d.counts) }; room = (omega (arith, r.words), (omega (arith, r.coords), (r.positions, (r.normals, r.indices)))) }
