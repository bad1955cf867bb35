use Prim.Native.Nat.{◌≤◌}
use mathlib.Core.Path.{◌≡◌}
use lib.ListN.{length}
use Rattle.lists.specs.Lists.{count, tally}
use Rattle.rules.specs.Mesh.{links}
use Rattle.outlines.specs.Loops.{begins}
use Rattle.outlines.specs.Pieces.{Marked}
use Rattle.outlines.proofs.rim.mark_loops.Given as goal

abbrev pub invariant-loop-u : goal.invariant-loop-u
invariant-loop-u l = (l.u ≤ l.v) × (l.loops ≤ l.u) × (l.loops ≡ tally (begins l.indices (links l.indices)) (count 0 l.u)) × Marked l.v l.indices l.u l.marks × (length l.marks ≡ length l.initial.marks)
