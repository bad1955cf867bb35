use Prim.Native.Nat.{ℕ, ◌+◌, ◌-◌, ◌*◌, ◌≤◌}
use mathlib.Core.Path.{◌≡◌, sym, ap, ◌∙◌}
use native.Mathlib.Omega.{arith}
use borrow.Author.Rules.{rules}
use borrow.Author.Tests.{not-false}
use Rattle.station.specs.Acceptance.{needs_at}
use Rattle.station.specs.Far.{far_from, held_vertex, exact0}
use Rattle.station.proofs.Far.{rest, rest-starts, all-passed, vertex-passes, vertex-far, not-true}
use Rattle.station.proofs.near.far_old.Lts
use Rattle.station.proofs.near.far_old.Reads
use Rattle.station.proofs.near.far_old.Tie
use Rattle.station.proofs.near.far_old.Goals as goal

abbrev After-old_far-v : Type 0
After-old_far-v = Lts.After-old_far Tie.the-claims Reads.Pre Reads.Post goal.the-invariant-loop-u goal.the-decreases-loop-u Tie.handed_clauses

pub loop-u-init : goal.loop-u-init
loop-u-init c = let a = c.args in
    (omega arith, rest-starts (exact0 a.words.now a.nf a.nv a.xs.now) a.ys.now a.t 0 a.nv)

pub old_far-v-requires : goal.old_far-v-requires
old_far-v-requires c = let r = c.requires in record { mesh = (r.mesh, omega arith); coords = r.coords; claim = r.claim }

-- vertex u, counted from 0
here : (k : After-old_far-v) →
    (let a = k.args in
    k.old_far-v.result ≡ held_vertex (exact0 a.words.now a.nf a.nv a.xs.now) a.ys.now a.t (0 + k.loop-u.u))
here k =
    let a = k.args in
    let z : k.loop-u.u ≡ 0 + k.loop-u.u = omega arith in
    k.old_far-v.ensures ∙ ap (λ (x : ℕ). held_vertex (exact0 a.words.now a.nf a.nv a.xs.now) a.ys.now a.t x) z

pub returns-then-not-passes : goal.returns-then-not-passes
returns-then-not-passes c = let a = c.args in
    let l = c.loop-u in
    sym (l.invariant.1 ∙ vertex-far (exact0 a.words.now a.nf a.nv a.xs.now) a.ys.now a.t 0 a.nv l.u c.old_far-v.result (omega arith) (here c.before.before.before)
    (sym c.passes.ensures ∙ c.if-not-passes.true))

pub loop-u-preserved : goal.loop-u-preserved
loop-u-preserved c = let a = c.args in
    let l = c.loop-u in (
      omega arith,
      l.invariant.1 ∙ vertex-passes (exact0 a.words.now a.nf a.nv a.xs.now) a.ys.now a.t 0 a.nv l.u c.old_far-v.result (omega arith) (here c.before.before.before)
          (sym c.passes.ensures ∙ c.if-not-passes.false),
    )

pub returns : goal.returns
returns c = let a = c.args in
    let l = c.loop-u in
    sym (l.invariant.1 ∙ all-passed (exact0 a.words.now a.nf a.nv a.xs.now) a.ys.now a.t 0 a.nv l.u (omega arith))
