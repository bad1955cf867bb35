use mathlib.Core.Path.{◌≡◌}
use mathlib.Core.List.{map}
use lib.ListN.{take}
use lib.Seq.{sets}
use Rattle.cage.specs.Chains.{before}
use Rattle.cage.proofs.sides.put_starts.Given as goal

abbrev pub invariant-loop-u : goal.invariant-loop-u
invariant-loop-u l = l.words ≡ sets l.initial.words l.at (take l.u (map before (take l.v l.heads)))
