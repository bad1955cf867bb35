use native.Mathlib.Omega.{arith}
use mathlib.Core.Path.{sym}
use lib.ListN.{replicate}
use lib.Seq.{length-take-le}
use Rattle.turns.specs.Turns.{most_valence}
use Rattle.rules.specs.Position.{numbers_of}
use Rattle.weights.specs.Weights.{staged}
use Rattle.levels.proofs.Moves.{ring-asks, ring-fits, old-all, moved-is}
use Rattle.levels.proofs.points.moved_point.Goals as goal

pub one_ring-ring-requires : goal.one_ring-ring-requires
one_ring-ring-requires g c = let a = c.args in
    let r = c.requires in
    (ring-asks a.words.now a.at a.nf a.nv r.mesh.0 a.u r.mesh.1, omega arith)

pub slice_bounds-vs-end : goal.slice_bounds-vs-end
slice_bounds-vs-end g c = let a = c.args in
    let r = c.requires in
    ring-fits a.words.now a.at a.nf a.nv r.mesh.0 a.u r.mesh.1 c.one_ring-ring.result c.one_ring-ring.ensures.ring (replicate most_valence 0) c.one_ring-ring.new.out (omega arith) c.one_ring-ring.ensures.out

pub slice_bounds-vertex-end : goal.slice_bounds-vertex-end
slice_bounds-vertex-end g c = let a = c.args in
    let r = c.requires in
    sym (length-take-le _ _ (ring-fits a.words.now a.at a.nf a.nv r.mesh.0 a.u r.mesh.1 c.one_ring-ring.result c.one_ring-ring.ensures.ring (replicate most_valence 0) c.one_ring-ring.new.out (omega arith) c.one_ring-ring.ensures.out))

pub vertex-requires : goal.vertex-requires
vertex-requires g c = let a = c.args in
    let r = c.requires in
    old-all a.words.now a.at a.nf a.nv r.mesh.0 a.u r.mesh.1 c.one_ring-ring.result c.one_ring-ring.ensures.ring (replicate most_valence 0) c.one_ring-ring.new.out (omega arith) c.one_ring-ring.ensures.out g.N.Weighed.Readable a.xs.now
    (λ j q. g.met.N.Weighed.readable a.xs.now j (omega arith) r.coords.1)

pub returns : goal.returns
returns g c = let a = c.args in
    let r = c.requires in record {
      point = moved-is a.words.now a.at a.nf a.nv r.mesh.0 a.u r.mesh.1 c.one_ring-ring.result c.one_ring-ring.ensures.ring (replicate most_valence 0) c.one_ring-ring.new.out (omega arith) c.one_ring-ring.ensures.out (numbers_of g.N.Number.on) (staged a.stage) a.xs.now
          (g.N.Weighed.listed c.vertex.result) c.vertex.ensures.point;
      near = c.vertex.ensures.near;
    }
