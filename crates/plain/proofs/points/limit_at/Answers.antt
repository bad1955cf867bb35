use native.Mathlib.Omega.{arith}
use mathlib.Core.Path.{sym}
use Prim.Native.Nat.{◌≤◌}
use lib.ListN.{length, replicate}
use lib.Seq.{length-take-le}
use Rattle.turns.specs.Turns.{most_valence}
use Rattle.rules.specs.Position.{limit, whole}
use Rattle.weights.specs.Lent.{lowered}
use Rattle.plain.proofs.Ghost.{start_small, ringed, old-fits, old-reads, old-ends, old-is}
use Rattle.plain.proofs.points.limit_at.Lts
use Rattle.plain.proofs.points.limit_at.Reads
use Rattle.plain.proofs.points.limit_at.Tie
use Rattle.plain.proofs.points.limit_at.Goals as goal

abbrev After-sharp_ring-ring : Type 0
After-sharp_ring-ring = Lts.After-sharp_ring Tie.the-claims Reads.Pre Reads.Post Tie.handed_clauses

pub overflow_cast-s : goal.overflow_cast-s
overflow_cast-s c = let a = c.args in
    let r = c.requires in
    omega (arith, start_small a.words.now a.at a.marks a.nf a.nv r.mesh.0 a.u r.mesh.1)

pub sharp_ring-ring-requires : goal.sharp_ring-ring-requires
sharp_ring-ring-requires c = let a = c.args in
    let r = c.requires in
    (ringed a.words.now a.at a.marks a.nf a.nv r.mesh.0 a.u r.mesh.1, r.mesh.0.marked, omega arith)

fits : (k : After-sharp_ring-ring) → k.sharp_ring-ring.result.n ≤ length k.sharp_ring-ring.new.out
fits k =
    let a = k.args in
    let r = k.requires in
    old-fits a.words.now a.at a.marks a.nf a.nv r.mesh.0 a.u r.mesh.1 k.sharp_ring-ring.result k.sharp_ring-ring.ensures.ring (replicate most_valence 0) k.sharp_ring-ring.new.out (omega arith) k.sharp_ring-ring.ensures.out

pub slice_bounds-vs-end : goal.slice_bounds-vs-end
slice_bounds-vs-end c = fits c.before.before

pub slice_bounds-creased-end : goal.slice_bounds-creased-end
slice_bounds-creased-end c = sym (length-take-le _ _ (fits c.before.before.before))

pub creased-requires : goal.creased-requires
creased-requires c = let a = c.args in
    let r = c.requires in
    record { readable = old-reads a.words.now a.at a.marks a.nf a.nv r.mesh.0 a.u r.mesh.1 c.sharp_ring-ring.result c.sharp_ring-ring.ensures.ring (replicate most_valence 0) c.sharp_ring-ring.new.out (omega arith) c.sharp_ring-ring.ensures.out r.coords.0 r.coords.1; creasable = old-ends a.words.now a.at a.marks a.nf a.nv r.mesh.0 a.u r.mesh.1 c.sharp_ring-ring.result c.sharp_ring-ring.ensures.ring (replicate most_valence 0) c.sharp_ring-ring.new.out (omega arith) c.sharp_ring-ring.ensures.out r.coords.0 r.coords.1 }

pub returns : goal.returns
returns c = let a = c.args in
    let r = c.requires in
    record { point = old-is a.words.now a.at a.marks a.nf a.nv r.mesh.0 a.u r.mesh.1 c.sharp_ring-ring.result c.sharp_ring-ring.ensures.ring (replicate most_valence 0) c.sharp_ring-ring.new.out (omega arith) c.sharp_ring-ring.ensures.out whole limit a.xs.now (lowered c.creased.result) c.creased.ensures.point; near = c.creased.ensures.near }
