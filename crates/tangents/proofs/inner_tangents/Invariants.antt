use mathlib.Core.Path.{◌≡◌}
use mathlib.Core.List.{map}
use lib.ListN.{take}
use Rattle.turns.specs.Turns.{cosine, sine}
use Rattle.rules.specs.Tangents.{point, weighted}
use Rattle.tangents.proofs.inner_tangents.Given as goal

abbrev pub invariant-loop-i : goal.invariant-loop-i
invariant-loop-i l = (l.s ≡ weighted (λ j. cosine j l.n) 0 l.initial.s (take l.i (map (point l.xs) l.ring))) × (l.t ≡ weighted (λ j. sine j l.n) 0 l.initial.t (take l.i (map (point l.xs) l.ring)))
