use Prim.Native.Nat.{◌-◌}
use mathlib.Core.Path.{◌≡◌}
use Rattle.lists.specs.Lists.{part}
use Rattle.rules.specs.Tangents.{rim_weight, weighted}
use Rattle.tangents.proofs.rim_tangent_5.Given as goal

abbrev pub invariant-loop-k : goal.invariant-loop-k
invariant-loop-k l = l.t ≡ weighted (rim_weight l.m) 1 l.initial.t (part 1 (l.k - 1) l.ring)
