use Prim.Native.Nat.{◌≤◌}
use mathlib.Core.Path.{◌≡◌}
use Rattle.rules.specs.Mesh.{rims}
use Rattle.faces.specs.Words.{links_in}
use Rattle.limits.proofs.size.count_rims.Given as goal

abbrev pub invariant-loop-s : goal.invariant-loop-s
invariant-loop-s l = (l.r ≤ l.s) × (l.r ≡ rims (links_in l.words 0 l.s))
