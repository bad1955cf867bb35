use mathlib.Core.Path.{◌≡◌}
use mathlib.Core.List.{map}
use lib.ListN.{take}
use Rattle.rules.specs.Position.{onto}
use Rattle.weights.specs.Weights.{alike}
use Rattle.weights.specs.Lent.{point_at}
use Rattle.weights.proofs.points.weight_one_ring.Given as goal

abbrev pub invariant-loop-u : goal.invariant-loop-u
invariant-loop-u l = l.at ≡ alike (onto l.b) l.initial.at (take l.u-index (map (point_at l.xs) l.ring))
