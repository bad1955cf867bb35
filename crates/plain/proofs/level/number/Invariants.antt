use Prim.Native.Nat.{◌≤◌}
use mathlib.Core.Path.{◌≡◌}
use mathlib.Core.List.{map}
use lib.ListN.{length}
use lib.Seq.{sets}
use Rattle.lists.specs.Lists.{count, tally, part}
use Rattle.rules.specs.Mesh.{links, first_met, middle}
use Rattle.plain.proofs.level.number.Given as goal

abbrev pub invariant-loop-s : goal.invariant-loop-s
invariant-loop-s l = (l.s ≤ l.n) × (length l.words ≡ length l.initial.words) × (l.k ≡ tally (first_met (links (part l.at l.n l.initial.words))) (count 0 l.s)) × (l.words ≡ sets l.initial.words l.mids (map (middle l.v (links (part l.at l.n l.initial.words))) (count 0 l.s)))
