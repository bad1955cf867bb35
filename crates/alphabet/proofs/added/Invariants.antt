use Prim.Native.Nat.{◌+◌, ◌*◌, ◌≤◌}
use mathlib.Core.Path.{◌≡◌}
use lib.ListN.{drop}
use Rattle.alphabet.specs.Sheets.{total}
use Rattle.alphabet.proofs.added.Given as goal

abbrev pub invariant-loop-n : goal.invariant-loop-n
invariant-loop-n l = (l.sum + total (drop l.n-index l.lengths) ≡ total l.lengths) × (l.sum ≤ 4294967295 * l.n-index)
