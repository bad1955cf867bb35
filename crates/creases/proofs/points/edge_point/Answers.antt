use Prim.Native.Nat.{◌+◌, ◌-◌, ◌*◌, ◌≤◌}
use native.Mathlib.Omega.{arith}
use mathlib.Core.Path.{sym, ◌∙◌}
use lib.ListN.{length, get_or}
use Rattle.lists.specs.Lists.{part}
use Rattle.lists.proofs.Stores.{length_part}
use Rattle.rules.specs.Mesh.{onward, backward}
use Rattle.rules.specs.Position.{whole}
use Rattle.rules.proofs.Sides.{on_below}
use Rattle.rules.proofs.Refine.{back_below}
use Rattle.weights.specs.Lent.{lowered}
use Rattle.weights.proofs.Joins.{readable}
use Rattle.levels.proofs.Moves.{lent_is, corner-small, link-small, across-below, inner-is}
use Rattle.marks.proofs.Marks.{mark-at}
use Rattle.creases.proofs.Moves.{edge-off, edge-sharp, edge-smooth}
use Rattle.creases.proofs.points.edge_point.Goals as goal

pub edge_rim-requires : goal.edge_rim-requires
edge_rim-requires c = let a = c.args in
    let r = c.requires in
    let l : 3 * a.nv ≤ length (part a.from (3 * a.nv) a.work.now) = omega (arith, length_part a.work.now a.from (3 * a.nv) r.room) in
    let p = corner-small a.words.now a.at a.nf a.nv r.mesh.0.movable a.s r.mesh.1 in
    let q = corner-small a.words.now a.at a.nf a.nv r.mesh.0.movable (onward a.s) (on_below a.s a.nf r.mesh.1) in
    rw (lent_is a.work.now a.from (3 * a.nv), c.onward.ensures) (readable l r.near p, readable l r.near q)

pub returns-then-w-eq0 : goal.returns-then-w-eq0
returns-then-w-eq0 c = let a = c.args in
    let r = c.requires in
    record { point = edge-off a.words.now a.at a.marks a.nf a.nv r.mesh.0 whole (part a.from (3 * a.nv) a.work.now) (lowered c.edge_rim.result) a.s r.mesh.1 c.if-w-eq0.true (rw (lent_is a.work.now a.from (3 * a.nv), c.onward.ensures) at c.edge_rim.ensures.point); near = c.edge_rim.ensures.near }

pub edge_rim-requires-then-mark : goal.edge_rim-requires-then-mark
edge_rim-requires-then-mark c = let a = c.args in
    let r = c.requires in
    let l : 3 * a.nv ≤ length (part a.from (3 * a.nv) a.work.now) = omega (arith, length_part a.work.now a.from (3 * a.nv) r.room) in
    let p = corner-small a.words.now a.at a.nf a.nv r.mesh.0.movable a.s r.mesh.1 in
    let q = corner-small a.words.now a.at a.nf a.nv r.mesh.0.movable (onward a.s) (on_below a.s a.nf r.mesh.1) in
    rw (lent_is a.work.now a.from (3 * a.nv), c.onward.ensures) (readable l r.near p, readable l r.near q)

pub returns-then-mark : goal.returns-then-mark
returns-then-mark c = let a = c.args in
    let r = c.requires in
    record { point = edge-sharp a.words.now a.at a.marks a.nf a.nv r.mesh.0 whole (part a.from (3 * a.nv) a.work.now) (lowered c.edge_rim-then-mark.result) a.s r.mesh.1 (mark-at a.words.now a.marks a.nf a.s r.mesh.1 ∙ sym c.mark.ensures ∙ c.if-mark.true) (rw (lent_is a.work.now a.from (3 * a.nv), c.onward.ensures) at c.edge_rim-then-mark.ensures.point); near = c.edge_rim-then-mark.ensures.near }

pub overflow_cast-w : goal.overflow_cast-w
overflow_cast-w c = let a = c.args in
    let r = c.requires in
    omega (arith, link-small a.words.now a.at a.nf a.nv r.mesh.0.movable a.s r.mesh.1)

pub backward-requires-2 : goal.backward-requires-2
backward-requires-2 c = let a = c.args in
    let r = c.requires in
    omega (arith, link-small a.words.now a.at a.nf a.nv r.mesh.0.movable a.s r.mesh.1)

pub overflow_add-e : goal.overflow_add-e
overflow_add-e c = let a = c.args in
    let r = c.requires in
    omega (arith, c.backward-2.ensures, across-below a.words.now a.at a.nf a.nv r.mesh.0.movable a.s r.mesh.1 c.if-w-eq0.false, r.mesh.0.movable.holds.room)

pub offset_bounds-words-at-5 : goal.offset_bounds-words-at-5
offset_bounds-words-at-5 c = let a = c.args in
    let r = c.requires in
    omega (arith, c.backward-2.ensures, across-below a.words.now a.at a.nf a.nv r.mesh.0.movable a.s r.mesh.1 c.if-w-eq0.false, r.mesh.0.movable.holds.room)

pub bounds-words-at-5 : goal.bounds-words-at-5
bounds-words-at-5 c = let a = c.args in
    let r = c.requires in
    omega (arith, c.backward-2.ensures, across-below a.words.now a.at a.nf a.nv r.mesh.0.movable a.s r.mesh.1 c.if-w-eq0.false, r.mesh.0.movable.holds.room)

pub edge_inner-requires : goal.edge_inner-requires
edge_inner-requires c = let a = c.args in
    let r = c.requires in
    let l : 3 * a.nv ≤ length (part a.from (3 * a.nv) a.work.now) = omega (arith, length_part a.work.now a.from (3 * a.nv) r.room) in
    let p = corner-small a.words.now a.at a.nf a.nv r.mesh.0.movable a.s r.mesh.1 in
    let q = corner-small a.words.now a.at a.nf a.nv r.mesh.0.movable (onward a.s) (on_below a.s a.nf r.mesh.1) in
    let d = corner-small a.words.now a.at a.nf a.nv r.mesh.0.movable (backward a.s) (back_below a.s a.nf r.mesh.1) in
    let t = across-below a.words.now a.at a.nf a.nv r.mesh.0.movable a.s r.mesh.1 c.if-w-eq0.false in
    let e = corner-small a.words.now a.at a.nf a.nv r.mesh.0.movable (backward (get_or a.words.now (a.at + 3 * a.nf + a.s) 0 - 1)) (back_below (get_or a.words.now (a.at + 3 * a.nf + a.s) 0 - 1) a.nf t) in
    rw (lent_is a.work.now a.from (3 * a.nv), c.onward.ensures, c.backward.ensures, c.backward-2.ensures) (record { readable = (readable l r.near p, readable l r.near q); readable_2 = (readable l r.near d, readable l r.near e) })

pub returns : goal.returns
returns c = let a = c.args in
    let r = c.requires in
    let o = inner-is a.words.now a.at a.nf a.nv r.mesh.0.movable whole (part a.from (3 * a.nv) a.work.now) (lowered c.edge_inner.result) a.s r.mesh.1 c.if-w-eq0.false (rw (lent_is a.work.now a.from (3 * a.nv), c.onward.ensures, c.backward.ensures, c.backward-2.ensures) at c.edge_inner.ensures.point) in
    record { point = edge-smooth a.words.now a.at a.marks a.nf a.nv r.mesh.0 whole (part a.from (3 * a.nv) a.work.now) (lowered c.edge_inner.result) a.s r.mesh.1 (mark-at a.words.now a.marks a.nf a.s r.mesh.1 ∙ sym c.mark.ensures ∙ c.if-mark.false) o; near = c.edge_inner.ensures.near }
