use native.Mathlib.Omega.{arith}
use Rattle.listing.proofs.Laws.{put-put}
use Rattle.outline.specs.Output.{loop_line}
use borrow.Author.Rules.{rules}
use Rattle.outline.proofs.loop_line.Goals as goal

pub returns : goal.returns
unfolding loop_line
returns c = record { put = put-put c.word-next.ensures (put-put c.spaced_number-end.ensures.put c.byte.ensures); upper_bound = omega arith }
