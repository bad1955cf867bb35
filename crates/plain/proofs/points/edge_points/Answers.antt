use Prim.Native.Nat.{◌*◌, ◌<◌}
use mathlib.Core.Path.{◌≡◌, refl, sym, ap, ◌∙◌}
use mathlib.Core.Bool.{true}
use native.Mathlib.Omega.{arith}
use lib.ListN.{length}
use lib.Seq.{length-sets}
use Rattle.lists.specs.Lists.{part}
use Rattle.rules.specs.Mesh.{links, first_met}
use Rattle.rules.specs.Position.{whole}
use Rattle.weights.specs.Lent.{lowered}
use Rattle.levels.specs.Moves.{edges_in}
use Rattle.plain.proofs.Ghost.{seen, sides-long, test-is}
use Rattle.creases.proofs.Moves.{edge-room, edge_kept, edge_same, edge_count, edge_more, edges-all}
use Rattle.plain.proofs.points.edge_points.Lts
use Rattle.plain.proofs.points.edge_points.Reads
use Rattle.plain.proofs.points.edge_points.Tie
use Rattle.plain.proofs.points.edge_points.Goals as goal
use Rattle.plain.proofs.points.edge_points.Goals.{then-first_met, else-first_met}

abbrev After-first_met : Type 0
After-first_met = Lts.After-first_met Tie.the-claims Reads.Pre Reads.Post goal.the-invariant-loop-s goal.the-decreases-loop-s Tie.handed_clauses

abbrev Then-first_met : Type 0
Then-first_met = Lts.Then1 Tie.the-claims Reads.Pre Reads.Post goal.the-invariant-loop-s goal.the-decreases-loop-s Tie.handed_clauses

-- the test, and that there is room where it holds
test : (c : After-first_met) → c.first_met.result ≡ first_met (links (part c.args.at (3 * c.args.nf) c.args.words.now)) c.loop-s.s
test c =
    let a = c.args in
    let r = c.requires in
    let l = c.loop-s in
    c.first_met.ensures ∙ test-is a.words.now a.at a.marks a.nf a.nv r.mesh l.s c.loop-s-test.true c.across-w.result c.across-w.ensures

fits : (c : Then-first_met) → c.loop-s.k < edges_in c.args.words.now c.args.at c.args.nf
fits c =
    let a = c.args in
    let r = c.requires in
    let l = c.loop-s in
    let h = edge-room whole a.words.now a.at a.marks a.nf a.nv a.work.now a.from a.to r.room (sides-long a.words.now a.at a.nf a.nv r.mesh.room) l.s (omega arith) (sym (test c.before) ∙ c.if-first_met.true) in
    omega (arith, l.invariant.1.1.0)

pub loop-s-init : goal.loop-s-init
loop-s-init c = (omega arith, (refl, (refl, refl)))

pub overflow_mul-nf : goal.overflow_mul-nf
overflow_mul-nf c = let a = c.args in
    let r = c.requires in
    omega (arith, r.mesh.small, r.mesh.room)

pub across-w-requires : goal.across-w-requires
across-w-requires c = let a = c.args in
    let r = c.requires in
    ((seen a.words.now a.at a.marks a.nf a.nv r.mesh).listed, c.loop-s-test.true)

pub overflow_cast-s : goal.overflow_cast-s
overflow_cast-s c = let a = c.args in
    let r = c.requires in
    omega (arith, r.mesh.small, r.mesh.room)

pub edge_point-p-requires : goal.edge_point-p-requires
edge_point-p-requires c = let a = c.args in
    let r = c.requires in
    let l = c.loop-s in
    record { mesh = (r.mesh, omega arith); room = omega (arith, r.room.old, l.invariant.1.0); near = rw (edge_kept whole a.words.now a.at a.marks a.nf a.nv a.work.now a.from a.to r.room (sides-long a.words.now a.at a.nf a.nv r.mesh.room) l.s (omega arith) l.work l.invariant.1.1.1) r.near }

pub overflow_mul-nv : goal.overflow_mul-nv
overflow_mul-nv c = let a = c.args in
    let r = c.requires in
    let l = c.loop-s in
    omega (arith, r.room.new, l.invariant.1.0, fits c.before.before.before)

pub overflow_add-to : goal.overflow_add-to
overflow_add-to c = let a = c.args in
    let r = c.requires in
    let l = c.loop-s in
    omega (arith, r.room.new, l.invariant.1.0, fits c.before.before.before)

pub overflow_mul-k : goal.overflow_mul-k
overflow_mul-k c = let a = c.args in
    let r = c.requires in
    let l = c.loop-s in
    omega (arith, r.room.new, l.invariant.1.0, fits c.before.before.before)

pub overflow_add-to-then-first_met : goal.overflow_add-to-then-first_met
overflow_add-to-then-first_met c = let a = c.args in
    let r = c.requires in
    let l = c.loop-s in
    omega (arith, r.room.new, l.invariant.1.0, fits c.before.before.before)

pub put-requires : goal.put-requires
put-requires c = let a = c.args in
    let r = c.requires in
    let l = c.loop-s in
    (omega (arith, r.room.new, l.invariant.1.0, fits c.before.before.before), c.edge_point-p.ensures.near)

pub overflow_add-k : goal.overflow_add-k
overflow_add-k c = let a = c.args in
    let r = c.requires in
    let l = c.loop-s in
    omega (arith, r.room.new, l.invariant.1.0, fits c.before.before.before.before.before)

pub loop-s-preserved : goal.loop-s-preserved
loop-s-preserved c = let a = c.args in
    let r = c.requires in
    let l = c.loop-s in
    let h : l.s < 3 * a.nf = omega arith in
    elim c.if-first_met.branch [
      | then-first_met came ↦ (
          let t : first_met (links (part a.at (3 * a.nf) a.words.now)) l.s ≡ true = sym (test c.before.before) ∙ came.if-first_met.true in
          let e = edge_more whole a.words.now a.at a.marks a.nf a.nv a.work.now a.from a.to r.room (sides-long a.words.now a.at a.nf a.nv r.mesh.room) l.s h l.work l.invariant.1.1.1 c.if-first_met.work (lowered came.edge_point-p.result) l.k t l.invariant.1.1.0 (came.work-is ∙ came.put.ensures) came.edge_point-p.ensures.point in
          (omega arith, (ap length e ∙ simp length-sets, (came.k-is ∙ omega (arith, l.invariant.1.1.0, edge_count whole a.words.now a.at a.marks a.nf a.nv a.work.now a.from a.to r.room (sides-long a.words.now a.at a.nf a.nv r.mesh.room) l.s h t), e)))
          )
      | else-first_met came ↦ (
          let e = edge_same whole a.words.now a.at a.marks a.nf a.nv a.work.now a.from a.to r.room (sides-long a.words.now a.at a.nf a.nv r.mesh.room) l.s h (sym (test c.before.before) ∙ came.if-first_met.false) in
          (omega arith, (rw came.work-is l.invariant.1.0, rw e (came.k-is ∙ l.invariant.1.1.0, came.work-is ∙ l.invariant.1.1.1)))
          )
    ]

pub returns : goal.returns
returns c = let a = c.args in
    let r = c.requires in
    let e : c.loop-s.s ≡ 3 * a.nf = omega arith in
    c.loop-s.invariant.1.1.1 ∙ rw e (edges-all whole a.words.now a.at a.marks a.nf a.nv a.work.now a.from a.to r.room (sides-long a.words.now a.at a.nf a.nv r.mesh.room))
