use mathlib.Core.Path.{◌≡◌}
use mathlib.Core.List.{map}
use lib.ListN.{take}
use lib.Seq.{sets}
use Rattle.rules.specs.Mesh.{links}
use Rattle.faces.specs.Words.{coded}
use Rattle.cage.proofs.sides.put_links.Given as goal

abbrev pub invariant-loop-s : goal.invariant-loop-s
invariant-loop-s l = l.words ≡ sets l.initial.words l.at (take l.s (map coded (links l.indices)))
