use Prim.Native.Nat.{ℕ, ◌*◌, ◌≤◌}
use native.Mathlib.Omega.{arith}
use mathlib.Core.Path.{◌≡◌, refl, sym, ap, ◌∙◌}
use mathlib.Core.List.{List}
use lib.IntN.{ℤ}
use lib.ListN.{length, take}
use lib.Seq.{sets, length-sets, length-take-le}
use Rattle.rules.specs.Position.{whole}
use Rattle.rules.specs.Levels.{last}
use Rattle.rules.specs.Answers.{outcome, whole_rooms}
use Rattle.rules.specs.declared.Counts.{Counts}
use Rattle.std.specs.Prelude.{Ok}
use Rattle.rules.proofs.Sharp.{no-marks-outcome, no-marks-call}
use Rattle.loopsubdiv.proofs.Outcomes.{Done, done, whole_room_lem}
use Rattle.outlines.proofs.Accepted.{take-front, traceable, cage-facts, levels-few, final-is, faces-long, listing-is}
use Rattle.outlines.proofs.Listing.{pow_small}
use Rattle.outlines.proofs.write.Goals as goal

-- what a success says of the faces, which stand at the front of those that are lent
module _ (p : ℕ) (out : List ℕ) (w k l : ℕ) (fs : List ℕ) (xs : List ℤ) (c : Counts) (e : outcome whole (whole_rooms p (length out) w k) l fs xs ≡ Ok c) where
  D : Done whole (whole_rooms p (length out) w k) l fs xs c
  D = done whole (whole_rooms p (length out) w k) l fs xs c e

  roomy : 3 * c.faces ≤ length out
  roomy = (whole_room_lem p (length out) w k c D.room).indices

  fits : 3 * c.faces ≤ length (sets out 0 (last whole l fs xs).mesh.faces)
  fits = rw (length-sets out 0 (last whole l fs xs).mesh.faces) roomy

  front : take (3 * c.faces) (sets out 0 (last whole l fs xs).mesh.faces) ≡ (last whole l fs xs).mesh.faces
  front = take-front (last whole l fs xs).mesh.faces out (3 * c.faces) (faces-long l fs xs D.passes ∙ ap (λ (d : Counts). 3 * d.faces) D.counts) roomy

pub act_whole-requires : goal.act_whole-requires
act_whole-requires c = no-marks-outcome whole (whole_rooms (length c.args.positions.now) (length c.args.out.now) (length c.args.words.now) (length c.args.work.now)) c.args.levels c.args.indices.now c.args.coords.now ∙ c.requires.success

pub overflow_shl-all : goal.overflow_shl-all
overflow_shl-all c = let a = c.args in
    omega (arith, levels-few a.levels a.indices.now a.coords.now (D (length a.positions.now) a.out.now (length a.words.now) (length a.work.now) a.levels a.indices.now a.coords.now a.c c.requires.success).passes)

pub slice_bounds-put_loops-end : goal.slice_bounds-put_loops-end
slice_bounds-put_loops-end c = let a = c.args in
    rw c.act_whole.ensures.indices (fits (length a.positions.now) a.out.now (length a.words.now) (length a.work.now) a.levels a.indices.now a.coords.now a.c c.requires.success)

pub slice_bounds-put_loops-end-2 : goal.slice_bounds-put_loops-end-2
slice_bounds-put_loops-end-2 c = let a = c.args in
    rw c.act_whole.ensures.indices (sym (length-take-le _ _ (fits (length a.positions.now) a.out.now (length a.words.now) (length a.work.now) a.levels a.indices.now a.coords.now a.c c.requires.success)))

pub put_loops-requires : goal.put_loops-requires
put_loops-requires c = let a = c.args in
    let e = (D (length a.positions.now) a.out.now (length a.words.now) (length a.work.now) a.levels a.indices.now a.coords.now a.c c.requires.success).passes in
    let f = front (length a.positions.now) a.out.now (length a.words.now) (length a.work.now) a.levels a.indices.now a.coords.now a.c c.requires.success in
    let k = cage-facts a.levels a.indices.now a.coords.now e in
    let t = c.requires.tables in
    let w = c.act_whole.ensures.indices in
    let h = levels-few a.levels a.indices.now a.coords.now e in record {
      cage = (k.0, rw t.0 k.1, traceable a.levels a.indices.now a.coords.now e, t.2);
      few = (k.3, rw t.0 k.3, rw t.1 k.3, t.3);
      out = (omega (arith, pow_small a.levels h), h, rw (w, f) (final-is a.levels a.indices.now a.coords.now e));
      room = rw (w, f, listing-is a.levels a.indices.now a.coords.now e) c.requires.room;
    }

pub returns : goal.returns
returns c = let a = c.args in
    let e = (D (length a.positions.now) a.out.now (length a.words.now) (length a.work.now) a.levels a.indices.now a.coords.now a.c c.requires.success).passes in
    let f = front (length a.positions.now) a.out.now (length a.words.now) (length a.work.now) a.levels a.indices.now a.coords.now a.c c.requires.success in
    let r = c.act_whole.ensures in
    record { call = no-marks-call _ _ _ _ _ r; list = c.put_loops.ensures ∙ rw (r.indices, f, listing-is a.levels a.indices.now a.coords.now e) refl }
