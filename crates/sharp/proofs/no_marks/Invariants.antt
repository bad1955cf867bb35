use Prim.Native.Nat.{◌≤◌}
use mathlib.Core.Path.{◌≡◌}
use lib.ListN.{length}
use lib.Seq.{sets}
use Rattle.lists.specs.Lists.{count, gather}
use Rattle.sharp.specs.Marked.{unmarked}
use Rattle.sharp.proofs.no_marks.Given as goal

abbrev pub invariant-loop-k : goal.invariant-loop-k
invariant-loop-k l = (l.k ≤ l.n) × (length l.words ≡ length l.initial.words) × (l.words ≡ sets l.initial.words l.at (gather unmarked (count 0 l.k)))
