use Prim.Native.Nat.{◌≤◌}
use mathlib.Core.Path.{◌≡◌}
use lib.ListN.{length}
use lib.Seq.{sets}
use Rattle.lists.specs.Lists.{count, gather}
use Rattle.outlines.specs.Pieces.{entry_at}
use Rattle.outlines.proofs.list.put_loops.Given as goal

abbrev pub invariant-loop-u : goal.invariant-loop-u
invariant-loop-u l = (l.u ≤ l.v) × (l.at ≡ length (gather (entry_at l.levels l.indices l.out) (count 0 l.u))) × (length l.list ≡ length l.initial.list) × (l.list ≡ sets l.initial.list 0 (gather (entry_at l.levels l.indices l.out) (count 0 l.u)))
