use Prim.Native.Nat.{◌≤◌}
use mathlib.Core.Path.{◌≡◌}
use lib.ListN.{length}
use lib.Seq.{sets}
use Rattle.lists.specs.Lists.{count, gather}
use Rattle.sharp.proofs.Last.{sharp_limit}
use Rattle.sharp.proofs.limit.Given as goal

abbrev pub invariant-loop-u : goal.invariant-loop-u
invariant-loop-u l = (l.u ≤ l.nv) × (length l.out ≡ length l.initial.out) × (l.out ≡ sets l.initial.out 0 (gather (sharp_limit l.words l.at l.marks l.nf l.nv l.xs) (count 0 l.u)))
