use Prim.Native.Nat.{◌*◌}
use mathlib.Core.Path.{sym, ◌∙◌}
use native.Mathlib.Omega.{arith}
use borrow.Author.Rules.{rules}
use borrow.Author.Tests.{not-false}
use Rattle.levels.specs.Moves.{edges_in}
use Rattle.station.specs.Acceptance.{needs_at}
use Rattle.station.specs.Far.{far_from, exact0, exact1}
use Rattle.station.proofs.Far.{not-true}
use Rattle.station.proofs.Turns.{at-level-0, old-far-first, then-new}
use Rattle.station.proofs.near.too_far.Goals as goal

pub far_old-v-requires : goal.far_old-v-requires
far_old-v-requires c = let r = c.requires in record { mesh = r.mesh; coords = r.coords; claim = (r.claim.old, omega (arith, r.claim.small)) }

pub returns-then-levels-eq0 : goal.returns-then-levels-eq0
returns-then-levels-eq0 c = let a = c.args in
    at-level-0 a.levels (far_from (needs_at (exact0 a.words.now a.nf a.nv a.xs.now) a.ys.now) a.t 0 (3 * a.nv)) (far_from (needs_at (exact1 a.words.now a.nf a.nv a.xs.now) a.ys.now) a.t (3 * a.nv) (3 * edges_in a.words.now 0 a.nf)) c.far_old-v.result c.far_old-v.ensures c.if-levels-eq0.true

pub returns-then-not-passes : goal.returns-then-not-passes
returns-then-not-passes c = let a = c.args in
    old-far-first a.levels (far_from (needs_at (exact0 a.words.now a.nf a.nv a.xs.now) a.ys.now) a.t 0 (3 * a.nv)) (far_from (needs_at (exact1 a.words.now a.nf a.nv a.xs.now) a.ys.now) a.t (3 * a.nv) (3 * edges_in a.words.now 0 a.nf)) c.far_old-v.result c.far_old-v.ensures
    c.if-levels-eq0.false (sym c.passes.ensures ∙ c.if-not-passes.true)

pub far_new-requires : goal.far_new-requires
far_new-requires c = let r = c.requires in record { mesh = r.mesh; coords = r.coords; claim = (r.claim.new c.if-levels-eq0.false, r.claim.small) }

pub returns : goal.returns
returns c = let a = c.args in
    then-new a.levels (far_from (needs_at (exact0 a.words.now a.nf a.nv a.xs.now) a.ys.now) a.t 0 (3 * a.nv)) (far_from (needs_at (exact1 a.words.now a.nf a.nv a.xs.now) a.ys.now) a.t (3 * a.nv) (3 * edges_in a.words.now 0 a.nf)) c.far_old-v.result c.far_old-v.ensures c.far_new.result
    c.if-levels-eq0.false (sym c.passes.ensures ∙ c.if-not-passes.false) c.far_new.ensures
