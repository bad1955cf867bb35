use Prim.Native.Nat.{◌≤◌}
use mathlib.Core.Path.{◌≡◌}
use lib.ListN.{length}
use Rattle.outlines.specs.Pieces.{Leaving}
use Rattle.outlines.proofs.rim.put_leaving.Given as goal

abbrev pub invariant-loop-s : goal.invariant-loop-s
invariant-loop-s l = (l.s ≤ length l.indices) × (length l.leaving ≡ length l.initial.leaving) × Leaving l.indices l.s l.leaving
