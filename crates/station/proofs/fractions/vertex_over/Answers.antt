use borrow.Author.Rules.{rules}
use native.Mathlib.Omega.{arith}
use mathlib.Core.Path.{sym}
use Prim.Native.Nat.{◌≤◌}
use lib.ListN.{length, replicate}
use lib.Seq.{length-take-le}
use mathlib.Core.Path.{refl}
use mathlib.Core.List.{map}
use lib.ListN.{take}
use Rattle.whole.specs.Fraction.{of_whole}
use Rattle.turns.specs.Turns.{most_valence}
use Rattle.rules.specs.Position.{exact}
use Rattle.rules.specs.Levels.{three}
use Rattle.weights.specs.Weights.{staged}
use Rattle.weights.specs.Lent.{by_ring}
use Rattle.station.proofs.Points.{stands-in}
use Rattle.levels.proofs.Moves.{start_small, ring-asks, ring-fits, old-whole, moved-is}
use Rattle.station.proofs.fractions.vertex_over.Lts
use Rattle.station.proofs.fractions.vertex_over.Reads
use Rattle.station.proofs.fractions.vertex_over.Tie
use Rattle.station.proofs.fractions.vertex_over.Goals as goal

abbrev After-one_ring-ring : Type 0
After-one_ring-ring = Lts.After-one_ring Tie.the-claims Reads.Pre Reads.Post Tie.handed_clauses

pub overflow_cast-s : goal.overflow_cast-s
overflow_cast-s c = omega (arith, start_small c.args.words.now c.args.at c.args.nf c.args.nv c.requires.mesh.0 c.args.u c.requires.mesh.1)

pub one_ring-ring-requires : goal.one_ring-ring-requires
one_ring-ring-requires c = (ring-asks c.args.words.now c.args.at c.args.nf c.args.nv c.requires.mesh.0 c.args.u c.requires.mesh.1, omega arith)

fits : (k : After-one_ring-ring) → k.one_ring-ring.result.n ≤ length k.one_ring-ring.new.out
fits k =
    ring-fits k.args.words.now k.args.at k.args.nf k.args.nv k.requires.mesh.0 k.args.u k.requires.mesh.1 k.one_ring-ring.result k.one_ring-ring.ensures.ring (replicate most_valence 0) k.one_ring-ring.new.out (omega arith) k.one_ring-ring.ensures.out

pub slice_bounds-vs-end : goal.slice_bounds-vs-end
slice_bounds-vs-end c = fits c.before.before

pub slice_bounds-ring_over-end : goal.slice_bounds-ring_over-end
slice_bounds-ring_over-end c = sym (length-take-le _ _ (fits c.before.before.before))

pub ring_over-requires : goal.ring_over-requires
ring_over-requires c = (c.requires.coords.1, old-whole c.args.words.now c.args.at c.args.nf c.args.nv c.requires.mesh.0 c.args.u c.requires.mesh.1 c.one_ring-ring.result c.one_ring-ring.ensures.ring (replicate most_valence 0) c.one_ring-ring.new.out (omega arith) c.one_ring-ring.ensures.out c.requires.coords.0 c.requires.coords.1)

pub returns : goal.returns
returns c = let o = c.one_ring-ring.new.out in
    let x = c.one_ring-ring.result in
    let f = by_ring exact (staged c.args.stage) (map of_whole c.args.xs.now) c.args.u x.rim (take x.n o) in record {
      point = stands-in c.ring_over.result f _
          (moved-is c.args.words.now c.args.at c.args.nf c.args.nv c.requires.mesh.0 c.args.u c.requires.mesh.1 x c.one_ring-ring.ensures.ring (replicate most_valence 0) o (omega arith) c.one_ring-ring.ensures.out exact (staged c.args.stage) (map of_whole c.args.xs.now) (three exact f) refl)
          c.ring_over.ensures.point;
      den = c.ring_over.ensures.den;
    }
