use Prim.Native.Nat.{ℕ, ◌+◌, ◌-◌, ◌*◌, ◌≤◌, ◌<◌}
use native.Mathlib.Omega.{arith}
use lib.ListN.{length, get_or}
use Rattle.lists.specs.Lists.{part}
use Rattle.lists.proofs.Stores.{length_part}
use Rattle.rules.specs.Mesh.{onward, backward}
use Rattle.rules.specs.Position.{numbers_of}
use Rattle.rules.proofs.Sides.{on_below}
use Rattle.rules.proofs.Refine.{back_below}
use Rattle.levels.proofs.Moves.{lent_is, corner-small, across-below, rim-is, inner-is}
use Rattle.levels.proofs.points.edge_point.Goals as goal

pub edge_rim-requires : goal.edge_rim-requires
edge_rim-requires g c = let a = c.args in
    let r = c.requires in
    let l : 3 * a.nv ≤ length (part a.from (3 * a.nv) a.work.now) = omega (arith, length_part a.work.now a.from (3 * a.nv) r.room) in
    let can : (j : ℕ) → j < a.nv → g.N.Weighed.Readable (part a.from (3 * a.nv) a.work.now) j = λ j q. g.met.N.Weighed.readable _ j (omega arith) r.near in
    let p = corner-small a.words.now a.at a.nf a.nv r.mesh.0 a.s r.mesh.1 in
    let q = corner-small a.words.now a.at a.nf a.nv r.mesh.0 (onward a.s) (on_below a.s a.nf r.mesh.1) in
    rw (lent_is a.work.now a.from (3 * a.nv), c.onward.ensures) (can _ p, can _ q)

pub bounds-words-at-else-w-eq0-2 : goal.bounds-words-at-else-w-eq0-2
bounds-words-at-else-w-eq0-2 g c = let a = c.args in
    let r = c.requires in
    omega (arith, c.backward-else-w-eq0.ensures, across-below a.words.now a.at a.nf a.nv r.mesh.0 a.s r.mesh.1 c.if-w-eq0.false, r.mesh.0.holds.room)

pub edge_inner-requires : goal.edge_inner-requires
edge_inner-requires g c = let a = c.args in
    let r = c.requires in
    let l : 3 * a.nv ≤ length (part a.from (3 * a.nv) a.work.now) = omega (arith, length_part a.work.now a.from (3 * a.nv) r.room) in
    let can : (j : ℕ) → j < a.nv → g.N.Weighed.Readable (part a.from (3 * a.nv) a.work.now) j = λ j q. g.met.N.Weighed.readable _ j (omega arith) r.near in
    let p = corner-small a.words.now a.at a.nf a.nv r.mesh.0 a.s r.mesh.1 in
    let q = corner-small a.words.now a.at a.nf a.nv r.mesh.0 (onward a.s) (on_below a.s a.nf r.mesh.1) in
    let d = corner-small a.words.now a.at a.nf a.nv r.mesh.0 (backward a.s) (back_below a.s a.nf r.mesh.1) in
    let t = across-below a.words.now a.at a.nf a.nv r.mesh.0 a.s r.mesh.1 c.if-w-eq0.false in
    let e = corner-small a.words.now a.at a.nf a.nv r.mesh.0 (backward (get_or a.words.now (a.at + 3 * a.nf + a.s) 0 - 1)) (back_below (get_or a.words.now (a.at + 3 * a.nf + a.s) 0 - 1) a.nf t) in
    rw (lent_is a.work.now a.from (3 * a.nv), c.onward.ensures, c.backward.ensures, c.backward-else-w-eq0.ensures) (record { readable = (can _ p, can _ q); readable_2 = (can _ d, can _ e) })

pub returns-then-w-eq0 : goal.returns-then-w-eq0
returns-then-w-eq0 g c = let a = c.args in
    let r = c.requires in
    record { point = rim-is a.words.now a.at a.nf a.nv r.mesh.0 (numbers_of g.N.Number.on) (part a.from (3 * a.nv) a.work.now) (g.N.Weighed.listed c.edge_rim.result) a.s r.mesh.1 c.if-w-eq0.true (rw (lent_is a.work.now a.from (3 * a.nv), c.onward.ensures) at c.edge_rim.ensures.point); near = c.edge_rim.ensures.near }

pub returns-else-w-eq0 : goal.returns-else-w-eq0
returns-else-w-eq0 g c = let a = c.args in
    let r = c.requires in
    record { point = inner-is a.words.now a.at a.nf a.nv r.mesh.0 (numbers_of g.N.Number.on) (part a.from (3 * a.nv) a.work.now) (g.N.Weighed.listed c.edge_inner.result) a.s r.mesh.1 c.if-w-eq0.false (rw (lent_is a.work.now a.from (3 * a.nv), c.onward.ensures, c.backward.ensures, c.backward-else-w-eq0.ensures) at c.edge_inner.ensures.point); near = c.edge_inner.ensures.near }
