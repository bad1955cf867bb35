use native.Mathlib.Omega.{arith}
use Prim.Native.Nat.{◌<◌}
use mathlib.Core.Path.{◌≡◌}
use lib.ListN.{length}
use Rattle.rules.specs.Mesh.{corner}
use Rattle.cage.specs.Chains.{last_below, leaves}
use Rattle.cage.proofs.Marking.{joined-more, cleared_more, joined-again, cleared-again, joined-all, cleared-some, cleared-all}
use Rattle.cage.proofs.sides.put_vertices.Goals as goal
use Rattle.cage.proofs.sides.put_vertices.Goals.{then-nexts-s-eq0, else-nexts-s-eq0}

pub loop-s-preserved : goal.loop-s-preserved
loop-s-preserved c = let a = c.args in
    let fs = a.indices.now in
    let l = c.loop-s in
    let t = c.loop-s-test.true in
    let v = l.invariant in
    elim c.if-nexts-s-eq0.branch [
      | then-nexts-s-eq0 came ↦ (
          let k = came.put_vertex-low in
          let e = k.ensures.low in (
            rw came.marks-is k.ensures.marks,
            rw came.low-is e.1,
            rw came.low-is (cleared_more fs l.s l.low k.result e.0 v.2 e.2),
            joined-more fs a.at l.s a.words.now l.words c.if-nexts-s-eq0.words v.3 (rw came.words-is k.ensures.words),
          )
          )
      | else-nexts-s-eq0 came ↦ (
          let m : 0 < last_below (leaves fs (corner fs l.s)) l.s = omega (arith, c.requires.chains.1.next l.s t, came.if-nexts-s-eq0.false) in (
            rw came.marks-is v.0,
            rw came.low-is v.1,
            rw came.low-is (cleared-again fs l.s m l.low v.2),
            rw came.words-is (joined-again fs l.s m a.at a.words.now l.words v.3),
          )
          )
    ]

pub returns-then-low-indices : goal.returns-then-low-indices
returns-then-low-indices c = let fs = c.args.indices.now in
    let l = c.loop-s in
    let v = l.invariant in
    let e : l.s ≡ length fs = omega (arith, c.loop-s-test.false) in
    record { used = cleared-some fs l.low c.if-low-indices.true v.1 (rw e at v.2); links = joined-all fs c.args.at c.args.words.now l.words c.requires.sizes.0 c.requires.sizes.3 (rw e at v.3) }

pub returns-else-low-indices : goal.returns-else-low-indices
returns-else-low-indices c = let fs = c.args.indices.now in
    let l = c.loop-s in
    let v = l.invariant in
    let e : l.s ≡ length fs = omega (arith, c.loop-s-test.false) in
    record { used = cleared-all fs l.low c.if-low-indices.false v.1 (rw e at v.2); links = joined-all fs c.args.at c.args.words.now l.words c.requires.sizes.0 c.requires.sizes.3 (rw e at v.3) }
