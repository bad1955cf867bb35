use native.Mathlib.Omega.{arith}
use Rattle.listing.proofs.Laws.{put-put}
use Rattle.outline.specs.Output.{outlines_line}
use borrow.Author.Rules.{rules}
use Rattle.outline.proofs.outlines_line.Goals as goal

pub returns : goal.returns
unfolding outlines_line
returns c = record { put = put-put c.word-first.ensures (put-put c.spaced_number-second.ensures.put (put-put c.spaced_number-end.ensures.put c.byte.ensures)); upper_bound = omega arith }
