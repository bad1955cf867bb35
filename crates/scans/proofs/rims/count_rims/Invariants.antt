use mathlib.Core.Path.{◌≡◌}
use mathlib.Core.Bool.{not}
use mathlib.Core.Option.{none}
use lib.ListN.{get_or}
use Rattle.lists.specs.Lists.{count, tally, found}
use Rattle.rules.specs.Mesh.{links}
use Rattle.scans.proofs.rims.count_rims.Given as goal

abbrev pub invariant-loop-s : goal.invariant-loop-s
invariant-loop-s l = l.k ≡ tally (λ i. not (found (get_or (links l.indices) i none))) (count 0 l.s)
