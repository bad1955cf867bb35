use native.Mathlib.Omega.{arith}
use Rattle.listing.specs.Text.{refused_text}
use Rattle.listing.proofs.Laws.{put-put}
use borrow.Author.Rules.{rules}
use Rattle.listing.proofs.refused_text.Goals as goal

pub returns : goal.returns
unfolding refused_text
returns c = record { put = put-put c.word-first.ensures (put-put c.spaced_number-second.ensures.put (put-put c.word-third.ensures (put-put c.spaced_number-end.ensures.put c.byte.ensures))); upper_bound = omega arith }
