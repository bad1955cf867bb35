use mathlib.Core.Path.{◌≡◌}
use lib.Dec.{eqb}
use Rattle.lists.specs.Lists.{count, keep, last_of}
use Rattle.rules.specs.Mesh.{corner}
use Rattle.scans.proofs.fans.start_of.Given as goal

abbrev pub invariant-loop-t : goal.invariant-loop-t
invariant-loop-t l = l.last ≡ last_of 0 (keep (λ s. eqb (corner l.indices s) l.u) (count 0 l.t))
