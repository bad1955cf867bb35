use Prim.Native.Nat.{◌-◌}
use mathlib.Core.Path.{◌≡◌}
use native.Mathlib.Omega.{arith}
use lib.ListN.{length}
use borrow.Author.Rules.{rules}
use Rattle.outline.proofs.Lines.{Along, along-first, vertex-here, along-more, along-last}
use Rattle.outline.proofs.entries.Given as goal

abbrev pub invariant-loop-e : goal.invariant-loop-e
invariant-loop-e l = Along l.positions l.list 512 l.from l.initial.text l.text l.at l.left l.e-index
