use Prim.Native.Nat.{◌-◌, ◌*◌, ◌≤◌}
use native.Mathlib.Omega.{arith}
use mathlib.Core.Path.{sym, ◌∙◌}
use lib.ListN.{length}
use Rattle.lists.specs.Lists.{part}
use Rattle.lists.proofs.Stores.{length_part}
use Rattle.rules.specs.Mesh.{onward, backward}
use Rattle.rules.specs.Position.{whole}
use Rattle.rules.proofs.Sides.{on_below}
use Rattle.rules.proofs.Refine.{back_below}
use Rattle.weights.specs.Lent.{lowered}
use Rattle.weights.proofs.Joins.{readable}
use Rattle.levels.proofs.Moves.{lent_is}
use Rattle.marks.proofs.Marks.{mark-at}
use Rattle.plain.proofs.Ghost.{seen, corner-small, corner-is, across-below, edge-off, edge-sharp, edge-smooth}
use Rattle.plain.proofs.points.edge_point.Goals as goal

pub next_of-requires : goal.next_of-requires
next_of-requires c = let a = c.args in
    let r = c.requires in
    (seen a.words.now a.at a.marks a.nf a.nv r.mesh.0, r.mesh.1)

pub overflow_mul-nf : goal.overflow_mul-nf
overflow_mul-nf c = omega (arith, c.requires.mesh.0.small)

pub across-w-requires : goal.across-w-requires
across-w-requires c = let a = c.args in
    let r = c.requires in
    ((seen a.words.now a.at a.marks a.nf a.nv r.mesh.0).listed, r.mesh.1)

pub edge_rim-requires : goal.edge_rim-requires
edge_rim-requires c = let a = c.args in
    let r = c.requires in
    let l : 3 * a.nv ≤ length (part a.from (3 * a.nv) a.work.now) = omega (arith, length_part a.work.now a.from (3 * a.nv) r.room) in
    rw (lent_is a.work.now a.from (3 * a.nv)) (
      readable l r.near (rw (corner-is a.words.now a.at a.marks a.nf a.nv r.mesh.0 a.s r.mesh.1) (corner-small a.words.now a.at a.marks a.nf a.nv r.mesh.0 a.s r.mesh.1)),
      readable l r.near (rw c.next_of.ensures (corner-small a.words.now a.at a.marks a.nf a.nv r.mesh.0 (onward a.s) (on_below a.s a.nf r.mesh.1))),
    )

pub returns-then-w-eq0 : goal.returns-then-w-eq0
returns-then-w-eq0 c = let a = c.args in
    let r = c.requires in record {
      point = edge-off a.words.now a.at a.marks a.nf a.nv r.mesh.0 a.s r.mesh.1 c.across-w.result c.across-w.ensures whole (part a.from (3 * a.nv) a.work.now) (lowered c.edge_rim.result) _ _ (corner-is a.words.now a.at a.marks a.nf a.nv r.mesh.0 a.s r.mesh.1) c.next_of.ensures
          c.if-w-eq0.true (rw (lent_is a.work.now a.from (3 * a.nv)) at c.edge_rim.ensures.point);
      near = c.edge_rim.ensures.near;
    }

pub edge_rim-requires-then-mark : goal.edge_rim-requires-then-mark
edge_rim-requires-then-mark c = let a = c.args in
    let r = c.requires in
    let l : 3 * a.nv ≤ length (part a.from (3 * a.nv) a.work.now) = omega (arith, length_part a.work.now a.from (3 * a.nv) r.room) in
    rw (lent_is a.work.now a.from (3 * a.nv)) (
      readable l r.near (rw (corner-is a.words.now a.at a.marks a.nf a.nv r.mesh.0 a.s r.mesh.1) (corner-small a.words.now a.at a.marks a.nf a.nv r.mesh.0 a.s r.mesh.1)),
      readable l r.near (rw c.next_of.ensures (corner-small a.words.now a.at a.marks a.nf a.nv r.mesh.0 (onward a.s) (on_below a.s a.nf r.mesh.1))),
    )

pub returns-then-mark : goal.returns-then-mark
returns-then-mark c = let a = c.args in
    let r = c.requires in record {
      point = edge-sharp a.words.now a.at a.marks a.nf a.nv r.mesh.0 a.s r.mesh.1 c.across-w.result c.across-w.ensures whole (part a.from (3 * a.nv) a.work.now) (lowered c.edge_rim-then-mark.result) _ _ (corner-is a.words.now a.at a.marks a.nf a.nv r.mesh.0 a.s r.mesh.1) c.next_of.ensures
          (mark-at a.words.now a.marks a.nf a.s r.mesh.1 ∙ sym c.mark.ensures ∙ c.if-mark.true) (rw (lent_is a.work.now a.from (3 * a.nv)) at c.edge_rim-then-mark.ensures.point);
      near = c.edge_rim-then-mark.ensures.near;
    }

pub far_of-requires : goal.far_of-requires
far_of-requires c = let a = c.args in
    let r = c.requires in
    (seen a.words.now a.at a.marks a.nf a.nv r.mesh.0, r.mesh.1)

pub overflow_cast-w : goal.overflow_cast-w
overflow_cast-w c = let a = c.args in
    let r = c.requires in
    omega (arith, across-below a.words.now a.at a.marks a.nf a.nv r.mesh.0 a.s r.mesh.1 c.across-w.result c.across-w.ensures c.if-w-eq0.false, r.mesh.0.small)

pub far_of-requires-2 : goal.far_of-requires-2
far_of-requires-2 c = let a = c.args in
    let r = c.requires in
    (seen a.words.now a.at a.marks a.nf a.nv r.mesh.0, across-below a.words.now a.at a.marks a.nf a.nv r.mesh.0 a.s r.mesh.1 c.across-w.result c.across-w.ensures c.if-w-eq0.false)

pub edge_inner-requires : goal.edge_inner-requires
edge_inner-requires c = let a = c.args in
    let r = c.requires in
    let l : 3 * a.nv ≤ length (part a.from (3 * a.nv) a.work.now) = omega (arith, length_part a.work.now a.from (3 * a.nv) r.room) in
    let y = c.across-w.result in
    let t = across-below a.words.now a.at a.marks a.nf a.nv r.mesh.0 a.s r.mesh.1 c.across-w.result c.across-w.ensures c.if-w-eq0.false in
    rw (lent_is a.work.now a.from (3 * a.nv)) (
    record {
      readable = (
        readable l r.near (rw (corner-is a.words.now a.at a.marks a.nf a.nv r.mesh.0 a.s r.mesh.1) (corner-small a.words.now a.at a.marks a.nf a.nv r.mesh.0 a.s r.mesh.1)),
        readable l r.near (rw c.next_of.ensures (corner-small a.words.now a.at a.marks a.nf a.nv r.mesh.0 (onward a.s) (on_below a.s a.nf r.mesh.1))),
      );
      readable_2 = (
        readable l r.near (rw c.far_of.ensures (corner-small a.words.now a.at a.marks a.nf a.nv r.mesh.0 (backward a.s) (back_below a.s a.nf r.mesh.1))),
        readable l r.near (rw c.far_of-2.ensures (corner-small a.words.now a.at a.marks a.nf a.nv r.mesh.0 (backward (y - 1)) (back_below (y - 1) a.nf t))),
      );
    }
    )

pub returns : goal.returns
returns c = let a = c.args in
    let r = c.requires in record {
      point = edge-smooth a.words.now a.at a.marks a.nf a.nv r.mesh.0 a.s r.mesh.1 c.across-w.result c.across-w.ensures whole (part a.from (3 * a.nv) a.work.now) (lowered c.edge_inner.result) _ _ (corner-is a.words.now a.at a.marks a.nf a.nv r.mesh.0 a.s r.mesh.1) c.next_of.ensures
          c.if-w-eq0.false (mark-at a.words.now a.marks a.nf a.s r.mesh.1 ∙ sym c.mark.ensures ∙ c.if-mark.false) _ _ c.far_of.ensures c.far_of-2.ensures
          (rw (lent_is a.work.now a.from (3 * a.nv)) at c.edge_inner.ensures.point);
      near = c.edge_inner.ensures.near;
    }
