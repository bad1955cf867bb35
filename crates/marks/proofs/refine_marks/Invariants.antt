use mathlib.Core.Path.{◌≡◌}
use lib.Seq.{sets}
use Rattle.lists.specs.Lists.{count, gather, part}
use Rattle.marks.specs.Marks.{marks_from}
use Rattle.marks.proofs.refine_marks.Given as goal

abbrev pub invariant-loop-f : goal.invariant-loop-f
invariant-loop-f l = l.words ≡ sets l.initial.words l.to (gather (marks_from (part l.from l.nf l.initial.words)) (count 0 l.f))
