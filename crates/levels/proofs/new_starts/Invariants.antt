use mathlib.Core.Path.{◌≡◌}
use lib.ListN.{length}
use lib.Seq.{sets}
use Rattle.lists.specs.Lists.{count, keep, gather}
use Rattle.rules.specs.Mesh.{first_met}
use Rattle.faces.specs.Words.{links_in}
use Rattle.levels.proofs.Starts.{start_of}
use Rattle.levels.proofs.new_starts.Given as goal

abbrev pub invariant-loop-s : goal.invariant-loop-s
invariant-loop-s l = (l.k ≡ length (keep (first_met (links_in l.initial.words l.links l.sides)) (count 0 l.s))) × (l.words ≡ sets l.initial.words l.to (gather start_of (keep (first_met (links_in l.initial.words l.links l.sides)) (count 0 l.s))))
