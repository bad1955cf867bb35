use native.Mathlib.Omega.{arith}
use Prim.Native.Nat.{◌<◌}
use lib.ListN.{length}
use Rattle.rules.specs.Mesh.{corner}
use Rattle.cage.proofs.Rounds.{counted-few, counted-more}
use Rattle.cage.proofs.fans.count_corners.Goals as goal

pub overflow_add-counts : goal.overflow_add-counts
overflow_add-counts c = let l = c.loop-u in
    let fs = c.args.indices.now in
    let h : l.u-index < length fs = omega arith in
    let b : corner fs l.u-index < length l.counts = rw l.auto.counts (c.requires.sizes.1.each l.u-index h) in
    let m = counted-few fs l.u-index h l.counts (corner fs l.u-index) b l.invariant in
    omega (arith, m, c.requires.sizes.0.few)

pub loop-u-preserved : goal.loop-u-preserved
loop-u-preserved c = let l = c.loop-u in
    let fs = c.args.indices.now in
    let h : l.u-index < length fs = omega arith in
    counted-more fs l.u-index h l.counts (rw l.auto.counts (c.requires.sizes.1.each l.u-index h)) l.invariant
