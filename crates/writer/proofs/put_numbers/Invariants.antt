use mathlib.Core.Path.{◌≡◌}
use mathlib.Core.List.{map}
use lib.ListN.{take}
use lib.Seq.{sets}
use Rattle.lists.specs.Lists.{gather}
use Rattle.rules.specs.Sheets.{bytes_of}
use Rattle.writer.proofs.put_numbers.Given as goal

abbrev pub invariant-loop-k : goal.invariant-loop-k
invariant-loop-k g l = l.bytes ≡ sets l.initial.bytes l.at (gather bytes_of (take l.k (map g.N.Number.word l.xs)))
