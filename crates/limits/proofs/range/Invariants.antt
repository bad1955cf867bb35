use Prim.Native.Nat.{ℕ, ◌<◌}
use mathlib.Core.Path.{◌≡◌}
use mathlib.Core.Bool.{true}
use lib.ListN.{get_or}
use Rattle.limits.proofs.range.Given as goal

abbrev pub invariant-loop-i : goal.invariant-loop-i
invariant-loop-i g l = let 𝓝 = g.N.Number.on in (j : ℕ) → j < l.i → 𝓝.allowed (get_or l.coords j 𝓝.nought) ≡ true
