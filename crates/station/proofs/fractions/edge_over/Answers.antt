use Prim.Native.Nat.{◌+◌, ◌-◌, ◌*◌}
use mathlib.Core.Path.{refl}
use native.Mathlib.Omega.{arith}
use lib.ListN.{get_or}
use borrow.Author.Rules.{rules}
use Rattle.rules.specs.Mesh.{onward, backward}
use Rattle.rules.proofs.Sides.{on_below}
use Rattle.rules.proofs.Refine.{back_below}
use Rattle.weights.proofs.Joins.{readable}
use Rattle.levels.proofs.Moves.{room_of_lem, link-small, across-below}
use Rattle.station.proofs.Points.{word_small, eight-rim, eight-inner}
use Rattle.station.proofs.fractions.edge_over.Goals as goal

pub overflow_cast-words : goal.overflow_cast-words
overflow_cast-words c = let a = c.args in
    let w = a.words.now in
    let m = c.requires.mesh.0 in
    omega (arith, word_small w a.base a.nf a.nv m a.s a.s refl c.requires.mesh.1.0, m.small)

pub at-a-requires : goal.at-a-requires
at-a-requires c = let a = c.args in
    let w = a.words.now in
    let m = c.requires.mesh.0 in
    (c.requires.mesh.1.1, readable c.requires.coords.0 c.requires.coords.1 (word_small w a.base a.nf a.nv m a.s a.s refl c.requires.mesh.1.0))

pub overflow_cast-words-2 : goal.overflow_cast-words-2
overflow_cast-words-2 c = let a = c.args in
    let w = a.words.now in
    let m = c.requires.mesh.0 in
    omega (arith, word_small w a.base a.nf a.nv m c.onward.result (onward a.s) c.onward.ensures (on_below a.s a.nf c.requires.mesh.1.0), m.small)

pub at-b-requires : goal.at-b-requires
at-b-requires c = let a = c.args in
    let w = a.words.now in
    let m = c.requires.mesh.0 in
    (c.requires.mesh.1.1, readable c.requires.coords.0 c.requires.coords.1 (word_small w a.base a.nf a.nv m c.onward.result (onward a.s) c.onward.ensures (on_below a.s a.nf c.requires.mesh.1.0)))

pub overflow_add-result : goal.overflow_add-result
overflow_add-result c = let a = c.args in
    let w = a.words.now in
    let m = c.requires.mesh.0 in
    omega (arith, c.at-a.ensures.1, c.at-b.ensures.1)

pub overflow_mul-result : goal.overflow_mul-result
overflow_mul-result c = let a = c.args in
    let w = a.words.now in
    let m = c.requires.mesh.0 in
    omega (arith, c.at-a.ensures.1, c.at-b.ensures.1)

pub overflow_cast-words-else-w-eq0 : goal.overflow_cast-words-else-w-eq0
overflow_cast-words-else-w-eq0 c = let a = c.args in
    let w = a.words.now in
    let m = c.requires.mesh.0 in
    omega (arith, word_small w a.base a.nf a.nv m c.backward.result (backward a.s) c.backward.ensures (back_below a.s a.nf c.requires.mesh.1.0), m.small)

pub at-d-requires : goal.at-d-requires
at-d-requires c = let a = c.args in
    let w = a.words.now in
    let m = c.requires.mesh.0 in
    (c.requires.mesh.1.1, readable c.requires.coords.0 c.requires.coords.1 (word_small w a.base a.nf a.nv m c.backward.result (backward a.s) c.backward.ensures (back_below a.s a.nf c.requires.mesh.1.0)))

pub overflow_cast-w : goal.overflow_cast-w
overflow_cast-w c = let a = c.args in
    let w = a.words.now in
    let m = c.requires.mesh.0 in
    omega (arith, link-small w a.base a.nf a.nv m a.s c.requires.mesh.1.0)

pub backward-requires-else-w-eq0 : goal.backward-requires-else-w-eq0
backward-requires-else-w-eq0 c = let a = c.args in
    let w = a.words.now in
    let m = c.requires.mesh.0 in
    omega (arith, link-small w a.base a.nf a.nv m a.s c.requires.mesh.1.0, m.small)

pub overflow_add-base-else-w-eq0-2 : goal.overflow_add-base-else-w-eq0-2
overflow_add-base-else-w-eq0-2 c = let a = c.args in
    let w = a.words.now in
    let m = c.requires.mesh.0 in
    omega (arith, c.backward-else-w-eq0.ensures, across-below w a.base a.nf a.nv m a.s c.requires.mesh.1.0 c.if-w-eq0.false, room_of_lem w a.base a.nf a.nv m, m.small)

pub offset_bounds-words-base-else-w-eq0-2 : goal.offset_bounds-words-base-else-w-eq0-2
offset_bounds-words-base-else-w-eq0-2 c = let a = c.args in
    let w = a.words.now in
    let m = c.requires.mesh.0 in
    omega (arith, c.backward-else-w-eq0.ensures, across-below w a.base a.nf a.nv m a.s c.requires.mesh.1.0 c.if-w-eq0.false, room_of_lem w a.base a.nf a.nv m, m.small)

pub bounds-words-base-else-w-eq0-2 : goal.bounds-words-base-else-w-eq0-2
bounds-words-base-else-w-eq0-2 c = let a = c.args in
    let w = a.words.now in
    let m = c.requires.mesh.0 in
    omega (arith, c.backward-else-w-eq0.ensures, across-below w a.base a.nf a.nv m a.s c.requires.mesh.1.0 c.if-w-eq0.false, room_of_lem w a.base a.nf a.nv m)

pub overflow_cast-words-else-w-eq0-2 : goal.overflow_cast-words-else-w-eq0-2
overflow_cast-words-else-w-eq0-2 c = let a = c.args in
    let w = a.words.now in
    let m = c.requires.mesh.0 in
    omega (arith, word_small w a.base a.nf a.nv m c.backward-else-w-eq0.result (backward (get_or w (a.base + 3 * a.nf + a.s) 0 - 1)) c.backward-else-w-eq0.ensures (back_below (get_or w (a.base + 3 * a.nf + a.s) 0 - 1) a.nf (across-below w a.base a.nf a.nv m a.s c.requires.mesh.1.0 c.if-w-eq0.false)), m.small)

pub at-e-requires : goal.at-e-requires
at-e-requires c = let a = c.args in
    let w = a.words.now in
    let m = c.requires.mesh.0 in
    (c.requires.mesh.1.1, readable c.requires.coords.0 c.requires.coords.1 (word_small w a.base a.nf a.nv m c.backward-else-w-eq0.result (backward (get_or w (a.base + 3 * a.nf + a.s) 0 - 1)) c.backward-else-w-eq0.ensures (back_below (get_or w (a.base + 3 * a.nf + a.s) 0 - 1) a.nf (across-below w a.base a.nf a.nv m a.s c.requires.mesh.1.0 c.if-w-eq0.false))))

pub overflow_add-result-else-w-eq0 : goal.overflow_add-result-else-w-eq0
overflow_add-result-else-w-eq0 c = let a = c.args in
    let w = a.words.now in
    let m = c.requires.mesh.0 in
    omega (arith, c.at-a.ensures.1, c.at-b.ensures.1, c.at-d.ensures.1, c.at-e.ensures.1)

pub overflow_mul-result-else-w-eq0 : goal.overflow_mul-result-else-w-eq0
overflow_mul-result-else-w-eq0 c = let a = c.args in
    let w = a.words.now in
    let m = c.requires.mesh.0 in
    omega (arith, c.at-a.ensures.1, c.at-b.ensures.1, c.at-d.ensures.1, c.at-e.ensures.1)

pub overflow_add-result-else-w-eq0-2 : goal.overflow_add-result-else-w-eq0-2
overflow_add-result-else-w-eq0-2 c = let a = c.args in
    let w = a.words.now in
    let m = c.requires.mesh.0 in
    omega (arith, c.at-a.ensures.1, c.at-b.ensures.1, c.at-d.ensures.1, c.at-e.ensures.1)

pub overflow_add-result-else-w-eq0-3 : goal.overflow_add-result-else-w-eq0-3
overflow_add-result-else-w-eq0-3 c = let a = c.args in
    let w = a.words.now in
    let m = c.requires.mesh.0 in
    omega (arith, c.at-a.ensures.1, c.at-b.ensures.1, c.at-d.ensures.1, c.at-e.ensures.1)

pub returns-then-w-eq0 : goal.returns-then-w-eq0
returns-then-w-eq0 c = let a = c.args in
    let w = a.words.now in
    let m = c.requires.mesh.0 in
    (eight-rim w a.base a.nf a.nv m a.xs.now a.c a.s c.requires.mesh.1.0 c.onward.result c.at-a.result c.at-b.result c.onward.ensures c.at-a.ensures.0 c.at-b.ensures.0 c.if-w-eq0.true, omega (arith, c.at-a.ensures.1, c.at-b.ensures.1))

pub returns-else-w-eq0 : goal.returns-else-w-eq0
returns-else-w-eq0 c = let a = c.args in
    let w = a.words.now in
    let m = c.requires.mesh.0 in
    (eight-inner w a.base a.nf a.nv m a.xs.now a.c a.s c.requires.mesh.1.0 c.onward.result c.at-a.result c.at-b.result c.onward.ensures c.at-a.ensures.0 c.at-b.ensures.0 c.backward.result c.backward-else-w-eq0.result c.at-d.result c.at-e.result c.if-w-eq0.false c.backward.ensures c.backward-else-w-eq0.ensures c.at-d.ensures.0 c.at-e.ensures.0, omega (arith, c.at-a.ensures.1, c.at-b.ensures.1, c.at-d.ensures.1, c.at-e.ensures.1))
