use native.Mathlib.Omega.{arith}
use Rattle.listing.proofs.Laws.{put-put}
use borrow.Author.Rules.{rules}
use Rattle.listing.proofs.three_numbers.Goals as goal

pub returns : goal.returns
returns c = record { put = put-put c.spaced_number-second.ensures.put (put-put c.spaced_number-third.ensures.put (put-put c.spaced_number-end.ensures.put c.byte.ensures)); upper_bound = omega arith }
