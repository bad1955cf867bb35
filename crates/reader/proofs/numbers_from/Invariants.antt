use Prim.Native.Nat.{◌*◌}
use mathlib.Core.Path.{◌≡◌}
use mathlib.Core.List.{[], ◌∷◌}
use lib.Seq.{sets}
use Rattle.lists.specs.Lists.{rows}
use Rattle.rules.specs.Sheets.{word_at}
use Rattle.reader.proofs.numbers_from.Given as goal

abbrev pub invariant-loop-k : goal.invariant-loop-k
invariant-loop-k g l = l.s ≡ sets l.initial.s 0 (rows (λ k. g.N.Number.of_word (word_at l.b (4 * k)) ∷ []) l.k)
