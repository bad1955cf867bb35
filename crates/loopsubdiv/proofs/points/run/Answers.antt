use native.Mathlib.Omega.{arith}
use Prim.Native.Nat.{ℕ, ◌-◌, ◌*◌}
use mathlib.Core.Path.{ap, ◌∙◌}
use mathlib.Core.List.{List}
use lib.Ieee.{Float}
use lib.ListN.{take}
use lib.Seq.{sets}
use Rattle.lists.specs.Lists.{count, gather}
use Rattle.rules.specs.Position.{single, f32}
use Rattle.tangents.specs.Normals.{normal_in}
use Rattle.room.specs.Held.{half_of, third_of}
use Rattle.room.proofs.First.{clear_kept}
use Rattle.room.proofs.Last.{last_fits}
use Rattle.loopsubdiv.proofs.Normals.{front_read, last-smooth, last-normals}
use Rattle.loopsubdiv.proofs.points.run.Goals as goal

pub overflow_cast-nv : goal.overflow_cast-nv
overflow_cast-nv c = record { fits = omega (arith, (last_fits single c.args.levels c.args.indices.now c.args.coords.now c.args.nf c.args.nv c.requires.planned).most, c.requires.planned.verts) }

pub normals-requires : goal.normals-requires
normals-requires c = let a = c.args in
    let r = c.requires in
    let e = c.work_out.ensures in
    let read = front_read a.levels a.indices.now a.coords.now a.nf a.nv r.planned a.positions.now c.work_out.new.positions r.room.1.1.0 e.positions in
    (rw c.start-at.ensures (last-smooth a.levels a.indices.now a.coords.now a.nf a.nv r.planned c.work_out.new.words e.held.words _ read), r.room.1.1.1.0)

pub returns : goal.returns
returns c = let a = c.args in
    let r = c.requires in
    let e = c.work_out.ensures in
    let w = c.work_out.new.words in
    let read = front_read a.levels a.indices.now a.coords.now a.nf a.nv r.planned a.positions.now c.work_out.new.positions r.room.1.1.0 e.positions in record {
      positions = e.positions;
      normals = c.normals.ensures ∙ ap (λ (zs : List Float). sets a.normals.now 0 zs)
          (ap (λ (at : ℕ). gather (normal_in w at a.nf a.nv (take (3 * a.nv - 0) c.work_out.new.positions)) (count 0 a.nv)) c.start-at.ensures
          ∙ last-normals a.levels a.indices.now a.coords.now a.nf a.nv r.planned w e.held.words _ read);
      out = e.out;
      words = c.clear.ensures.words ∙ clear_kept 0 (2 * half_of a.nf a.nv) _ a.words.now e.kept.0;
      work = c.clear.ensures.work ∙ clear_kept (f32 0) (2 * third_of a.nv) _ a.work.now e.kept.1;
    }
