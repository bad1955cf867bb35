use mathlib.Core.Path.{◌≡◌}
use mathlib.Core.List.{map}
use lib.Seq.{sets}
use Rattle.lists.specs.Lists.{count}
use Rattle.rules.specs.Mesh.{last_corner}
use Rattle.scans.proofs.put_starts.Given as goal

abbrev pub invariant-loop-u : goal.invariant-loop-u
invariant-loop-u l = l.words ≡ sets l.initial.words l.at (map (last_corner l.indices) (count 0 l.u))
