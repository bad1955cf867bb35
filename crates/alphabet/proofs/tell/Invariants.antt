use mathlib.Core.Path.{◌≡◌}
use lib.ListN.{take}
use lib.Seq.{sets}
use Rattle.alphabet.proofs.tell.Given as goal

abbrev pub invariant-loop-k : goal.invariant-loop-k
invariant-loop-k l = l.slots ≡ sets l.initial.slots l.at (take l.k l.told)
