use Prim.Native.Nat.{ℕ, ◌+◌, ◌*◌, ◌<◌}
use mathlib.Core.Path.{◌≡◌, sym, ◌∙◌}
use mathlib.Core.Bool.{Bool, true}
use mathlib.Core.List.{List}
use native.Mathlib.Omega.{arith}
use lib.ListN.{length, get_or}
use Rattle.lists.specs.Lists.{count, keep, part}
use Rattle.rules.specs.Mesh.{links, is_first, first_met}
use Rattle.faces.specs.Words.{link_of}
use Rattle.rules.specs.Position.{Numbers, numbers_of}
use Rattle.levels.specs.Moves.{Movable, Placed, edges_in}
use Rattle.levels.proofs.Moves.{sides-long, test-is, edge-room, edge_kept, edge_same, edge_count, edge_more}
use Rattle.levels.proofs.points.edge_points.Goals as goal
use Rattle.levels.proofs.points.edge_points.Goals.{then-first_met, else-first_met}

-- where the test holds there is room
fits : (𝓝 : Numbers) (w : List ℕ) (at n v from to : ℕ) (work : List 𝓝.N) (s : ℕ) {k : ℕ} {b : Bool} → Movable w at n v → Placed (length work) from to v (edges_in w at n) → s < 3 * n →
    k ≡ length (keep (first_met (links (part at (3 * n) w))) (count 0 s)) → b ≡ is_first s (link_of (get_or w (at + 3 * n + s) 0)) → b ≡ true → k < edges_in w at n
fits 𝓝 w at n v from to work s m p h e t y =
    let room = edge-room 𝓝 w at n v work from to p (sides-long w at n v m) s h (sym (t ∙ test-is w at n v m s h) ∙ y) in
    omega (arith, e)

pub edge_point-p-requires : goal.edge_point-p-requires
edge_point-p-requires g c = let a = c.args in
    let r = c.requires in
    let l = c.loop-s in
    record { mesh = (r.mesh, omega arith); room = omega (arith, r.room.old); near = rw (edge_kept (numbers_of g.N.Number.on) a.words.now a.at a.nf a.nv a.work.now a.from a.to r.room (sides-long a.words.now a.at a.nf a.nv r.mesh) l.s (omega arith) l.work l.invariant.1) r.near }

pub overflow_add-to : goal.overflow_add-to
overflow_add-to g c = let a = c.args in
    let r = c.requires in
    let l = c.loop-s in
    omega (arith, r.room.new, fits (numbers_of g.N.Number.on) a.words.now a.at a.nf a.nv a.from a.to a.work.now l.s r.mesh r.room (omega arith) l.invariant.0 c.first_met.ensures c.if-first_met.true)

pub overflow_mul-k : goal.overflow_mul-k
overflow_mul-k g c = let a = c.args in
    let r = c.requires in
    let l = c.loop-s in
    omega (arith, r.room.new, fits (numbers_of g.N.Number.on) a.words.now a.at a.nf a.nv a.from a.to a.work.now l.s r.mesh r.room (omega arith) l.invariant.0 c.first_met.ensures c.if-first_met.true)

pub overflow_add-to-then-first_met : goal.overflow_add-to-then-first_met
overflow_add-to-then-first_met g c = let a = c.args in
    let r = c.requires in
    let l = c.loop-s in
    omega (arith, r.room.new, fits (numbers_of g.N.Number.on) a.words.now a.at a.nf a.nv a.from a.to a.work.now l.s r.mesh r.room (omega arith) l.invariant.0 c.first_met.ensures c.if-first_met.true)

pub put-requires : goal.put-requires
put-requires g c = let a = c.args in
    let r = c.requires in
    let l = c.loop-s in
    (omega (arith, r.room.new, fits (numbers_of g.N.Number.on) a.words.now a.at a.nf a.nv a.from a.to a.work.now l.s r.mesh r.room (omega arith) l.invariant.0 c.first_met.ensures c.if-first_met.true), c.edge_point-p.ensures.near)

pub overflow_add-k : goal.overflow_add-k
overflow_add-k g c = let a = c.args in
    let r = c.requires in
    let l = c.loop-s in
    omega (arith, r.room.new, fits (numbers_of g.N.Number.on) a.words.now a.at a.nf a.nv a.from a.to a.work.now l.s r.mesh r.room (omega arith) l.invariant.0 c.first_met.ensures c.if-first_met.true)

pub loop-s-preserved : goal.loop-s-preserved
loop-s-preserved g c = let a = c.args in
    let r = c.requires in
    let l = c.loop-s in
    let h : l.s < 3 * a.nf = omega arith in
    let test = c.first_met.ensures ∙ test-is a.words.now a.at a.nf a.nv r.mesh l.s h in
    elim c.if-first_met.branch [
      | then-first_met came ↦ (
          let t : first_met (links (part a.at (3 * a.nf) a.words.now)) l.s ≡ true = sym test ∙ came.if-first_met.true in
          let e = edge_more (numbers_of g.N.Number.on) a.words.now a.at a.nf a.nv a.work.now a.from a.to r.room (sides-long a.words.now a.at a.nf a.nv r.mesh) l.s h l.work l.invariant.1 c.if-first_met.work (g.N.Weighed.listed came.edge_point-p.result) l.k t l.invariant.0 (came.work-is ∙ came.put.ensures) came.edge_point-p.ensures.point in
          (came.k-is ∙ omega (arith, l.invariant.0, edge_count (numbers_of g.N.Number.on) a.words.now a.at a.nf a.nv a.work.now a.from a.to r.room (sides-long a.words.now a.at a.nf a.nv r.mesh) l.s h t), e))
      | else-first_met came ↦ (
          let e = edge_same (numbers_of g.N.Number.on) a.words.now a.at a.nf a.nv a.work.now a.from a.to r.room (sides-long a.words.now a.at a.nf a.nv r.mesh) l.s h (sym test ∙ came.if-first_met.false) in
          rw e (came.k-is ∙ l.invariant.0, came.work-is ∙ l.invariant.1))
    ]
