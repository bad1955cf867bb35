use mathlib.Core.Path.{◌≡◌}
use mathlib.Core.List.{map}
use lib.Seq.{sets}
use Rattle.lists.specs.Lists.{count, tally}
use Rattle.rules.specs.Mesh.{first_met, middle}
use Rattle.faces.specs.Words.{links_in}
use Rattle.levels.proofs.number.Given as goal

abbrev pub invariant-loop-s : goal.invariant-loop-s
invariant-loop-s l = (l.k ≡ tally (first_met (links_in l.initial.words l.links l.sides)) (count 0 l.s)) × (l.words ≡ sets l.initial.words l.mids (map (middle l.v (links_in l.initial.words l.links l.sides)) (count 0 l.s)))
