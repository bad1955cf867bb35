use Prim.Native.Nat.{◌≤◌}
use mathlib.Core.Path.{◌≡◌}
use lib.ListN.{length}
use lib.Seq.{sets}
use Rattle.lists.specs.Lists.{count, keep, gather, part}
use Rattle.rules.specs.Mesh.{links, first_met}
use Rattle.levels.proofs.Starts.{start_of}
use Rattle.plain.proofs.level.new_starts.Given as goal

abbrev pub invariant-loop-s : goal.invariant-loop-s
invariant-loop-s l = (l.s ≤ l.n) × (length l.words ≡ length l.initial.words) × (l.k ≡ length (keep (first_met (links (part l.at l.n l.initial.words))) (count 0 l.s))) × (l.words ≡ sets l.initial.words l.to (gather start_of (keep (first_met (links (part l.at l.n l.initial.words))) (count 0 l.s))))
