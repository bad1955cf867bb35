use native.Mathlib.Omega.{arith}
use Prim.Native.Nat.{◌<◌}
use mathlib.Core.Path.{refl}
use lib.ListN.{length, length-set}
use Rattle.rules.specs.Mesh.{corner}
use Rattle.outlines.proofs.Steps.{leaving-yes, leaving-no}
use Rattle.outlines.proofs.rim.put_side.Lts
use Rattle.outlines.proofs.rim.put_side.Reads
use Rattle.outlines.proofs.rim.put_side.Tie
use Rattle.outlines.proofs.rim.put_side.Goals as goal

abbrev Start : Type 0
Start = Lts.Start Reads.Pre Reads.Post Tie.handed_clauses

below : (k : Start) → corner k.args.indices.now k.args.s < length k.args.leaving.now
below k = k.requires.sizes.1.each k.args.s k.requires.sizes.2

pub overflow_cast-a : goal.overflow_cast-a
overflow_cast-a c = omega (arith, below c.before.before.before.before)

pub offset_bounds-leaving-a : goal.offset_bounds-leaving-a
offset_bounds-leaving-a c = omega (arith, below c.before.before.before.before)

pub bounds-leaving-a : goal.bounds-leaving-a
bounds-leaving-a c = below c.before.before.before.before

pub returns-then-links-s-eq0 : goal.returns-then-links-s-eq0
returns-then-links-s-eq0 c = record { after = (leaving-yes c.args.indices.now c.args.links.now c.args.leaving.now c.args.s c.requires.sizes.2 c.requires.links.1 c.if-links-s-eq0.true (below c.before.before.before.before) c.requires.before, rw length-set refl) }

pub returns-else-links-s-eq0 : goal.returns-else-links-s-eq0
returns-else-links-s-eq0 c = record { after = (leaving-no c.args.indices.now c.args.links.now c.args.leaving.now c.args.s c.requires.sizes.2 c.requires.links.1 c.if-links-s-eq0.false c.requires.before, refl) }
