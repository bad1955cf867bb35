use mathlib.Core.Path.{◌≡◌}
use lib.ListN.{length}
use Rattle.alphabet.specs.Sheets.{four}
use Rattle.alphabet.proofs.Going.{Held}
use Rattle.alphabet.proofs.run.Given as goal

abbrev pub invariant-loop-i : goal.invariant-loop-i
invariant-loop-i l = Held l.bytes l.lengths (four l.initial.positions l.initial.out l.initial.words l.initial.work) l.initial.slots (four l.positions l.out l.words l.work) l.slots l.at l.p l.q l.i
    × (length l.positions ≡ length l.initial.positions) × (length l.out ≡ length l.initial.out) × (length l.words ≡ length l.initial.words) × (length l.work ≡ length l.initial.work) × (length l.slots ≡ length l.initial.slots)
