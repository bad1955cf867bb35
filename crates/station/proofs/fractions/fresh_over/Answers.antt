use Prim.Native.Nat.{◌+◌, ◌-◌, ◌*◌}
use mathlib.Core.Path.{refl}
use native.Mathlib.Omega.{arith}
use lib.ListN.{get_or}
use borrow.Author.Rules.{rules}
use Rattle.rules.specs.Mesh.{onward}
use Rattle.rules.proofs.Sides.{on_below}
use Rattle.levels.proofs.Moves.{room_of_lem}
use Rattle.station.proofs.New.{corner-small0, corner-is0, link-small0, across0, no-link0, a-link0, rim-exactly, inner-exactly}
use Rattle.station.proofs.fractions.fresh_over.Goals as goal

pub overflow_cast-words : goal.overflow_cast-words
overflow_cast-words c = let a = c.args in
    let w = a.words.now in
    let m = c.requires.mesh.0 in
    let h = c.requires.mesh.1.0 in
    omega (arith, corner-small0 w a.nf a.nv m a.s a.s refl h, m.small)

pub overflow_cast-words-then-w-eq0 : goal.overflow_cast-words-then-w-eq0
overflow_cast-words-then-w-eq0 c = let a = c.args in
    let w = a.words.now in
    let m = c.requires.mesh.0 in
    let h = c.requires.mesh.1.0 in
    omega (arith, corner-small0 w a.nf a.nv m c.onward.result (onward a.s) c.onward.ensures (on_below a.s a.nf h), m.small)

pub fresh_rim-requires : goal.fresh_rim-requires
fresh_rim-requires c = let a = c.args in
    let w = a.words.now in
    let m = c.requires.mesh.0 in
    let h = c.requires.mesh.1.0 in
    record { mesh = (m, (h, (corner-small0 w a.nf a.nv m a.s a.s refl h, corner-small0 w a.nf a.nv m c.onward.result (onward a.s) c.onward.ensures (on_below a.s a.nf h)))); coords = c.requires.coords }

pub overflow_cast-t : goal.overflow_cast-t
overflow_cast-t c = let a = c.args in
    let w = a.words.now in
    let m = c.requires.mesh.0 in
    let h = c.requires.mesh.1.0 in
    omega (arith, link-small0 w a.nf a.nv m a.s h, m.small)

pub onward-requires-else-w-eq0 : goal.onward-requires-else-w-eq0
onward-requires-else-w-eq0 c = let a = c.args in
    let w = a.words.now in
    let m = c.requires.mesh.0 in
    let h = c.requires.mesh.1.0 in
    omega (arith, link-small0 w a.nf a.nv m a.s h, m.small)

pub offset_bounds-words-onward-else-w-eq0 : goal.offset_bounds-words-onward-else-w-eq0
offset_bounds-words-onward-else-w-eq0 c = let a = c.args in
    let w = a.words.now in
    let m = c.requires.mesh.0 in
    let h = c.requires.mesh.1.0 in
    omega (arith, c.onward-else-w-eq0.ensures, on_below (get_or w (3 * a.nf + a.s) 0 - 1) a.nf (across0 w a.nf a.nv m a.s h c.if-w-eq0.false), m.small)

pub bounds-words-onward-else-w-eq0 : goal.bounds-words-onward-else-w-eq0
bounds-words-onward-else-w-eq0 c = let a = c.args in
    let w = a.words.now in
    let m = c.requires.mesh.0 in
    let h = c.requires.mesh.1.0 in
    omega (arith, c.onward-else-w-eq0.ensures, on_below (get_or w (3 * a.nf + a.s) 0 - 1) a.nf (across0 w a.nf a.nv m a.s h c.if-w-eq0.false), room_of_lem w 0 a.nf a.nv m)

pub overflow_cast-words-else-w-eq0 : goal.overflow_cast-words-else-w-eq0
overflow_cast-words-else-w-eq0 c = let a = c.args in
    let w = a.words.now in
    let m = c.requires.mesh.0 in
    let h = c.requires.mesh.1.0 in
    omega (arith, corner-small0 w a.nf a.nv m c.onward-else-w-eq0.result (onward (get_or w (3 * a.nf + a.s) 0 - 1)) c.onward-else-w-eq0.ensures (on_below (get_or w (3 * a.nf + a.s) 0 - 1) a.nf (across0 w a.nf a.nv m a.s h c.if-w-eq0.false)), m.small)

pub overflow_cast-words-else-w-eq0-2 : goal.overflow_cast-words-else-w-eq0-2
overflow_cast-words-else-w-eq0-2 c = let a = c.args in
    let w = a.words.now in
    let m = c.requires.mesh.0 in
    let h = c.requires.mesh.1.0 in
    omega (arith, corner-small0 w a.nf a.nv m c.onward-else-w-eq0-2.result (onward a.s) c.onward-else-w-eq0-2.ensures (on_below a.s a.nf h), m.small)

pub fresh_inner-requires : goal.fresh_inner-requires
fresh_inner-requires c = let a = c.args in
    let w = a.words.now in
    let m = c.requires.mesh.0 in
    let h = c.requires.mesh.1.0 in
    record { mesh = (m, (h, ((across0 w a.nf a.nv m a.s h c.if-w-eq0.false), (corner-small0 w a.nf a.nv m c.onward-else-w-eq0.result (onward (get_or w (3 * a.nf + a.s) 0 - 1)) c.onward-else-w-eq0.ensures (on_below (get_or w (3 * a.nf + a.s) 0 - 1) a.nf (across0 w a.nf a.nv m a.s h c.if-w-eq0.false)), corner-small0 w a.nf a.nv m c.onward-else-w-eq0-2.result (onward a.s) c.onward-else-w-eq0-2.ensures (on_below a.s a.nf h))))); coords = c.requires.coords }

pub returns-then-w-eq0 : goal.returns-then-w-eq0
returns-then-w-eq0 c = let a = c.args in
    let w = a.words.now in
    let m = c.requires.mesh.0 in
    let h = c.requires.mesh.1.0 in
    rim-exactly w a.nf a.nv m a.xs.now c.requires.coords.1 a.s h c.requires.mesh.1.1 c.fresh_rim.result _ _ (no-link0 w a.nf a.nv m a.s h c.if-w-eq0.true) (corner-small0 w a.nf a.nv m a.s a.s refl h) (corner-small0 w a.nf a.nv m c.onward.result (onward a.s) c.onward.ensures (on_below a.s a.nf h)) (corner-is0 w a.nf a.nv m a.s a.s refl h) (corner-is0 w a.nf a.nv m c.onward.result (onward a.s) c.onward.ensures (on_below a.s a.nf h)) c.fresh_rim.ensures

pub returns-else-w-eq0 : goal.returns-else-w-eq0
returns-else-w-eq0 c = let a = c.args in
    let w = a.words.now in
    let m = c.requires.mesh.0 in
    let h = c.requires.mesh.1.0 in
    inner-exactly w a.nf a.nv m a.xs.now c.requires.coords.1 a.s h c.requires.mesh.1.1 c.fresh_inner.result (get_or w (3 * a.nf + a.s) 0 - 1) _ _ (a-link0 w a.nf a.nv m a.s h c.if-w-eq0.false) (corner-small0 w a.nf a.nv m c.onward-else-w-eq0.result (onward (get_or w (3 * a.nf + a.s) 0 - 1)) c.onward-else-w-eq0.ensures (on_below (get_or w (3 * a.nf + a.s) 0 - 1) a.nf (across0 w a.nf a.nv m a.s h c.if-w-eq0.false))) (corner-small0 w a.nf a.nv m c.onward-else-w-eq0-2.result (onward a.s) c.onward-else-w-eq0-2.ensures (on_below a.s a.nf h)) (corner-is0 w a.nf a.nv m c.onward-else-w-eq0.result (onward (get_or w (3 * a.nf + a.s) 0 - 1)) c.onward-else-w-eq0.ensures (on_below (get_or w (3 * a.nf + a.s) 0 - 1) a.nf (across0 w a.nf a.nv m a.s h c.if-w-eq0.false))) (corner-is0 w a.nf a.nv m c.onward-else-w-eq0-2.result (onward a.s) c.onward-else-w-eq0-2.ensures (on_below a.s a.nf h)) c.fresh_inner.ensures
