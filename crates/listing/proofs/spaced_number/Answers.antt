use native.Mathlib.Omega.{arith}
use Rattle.listing.proofs.Laws.{put-put}
use borrow.Author.Rules.{rules}
use Rattle.listing.proofs.spaced_number.Goals as goal

pub returns : goal.returns
returns c = record { put = put-put c.byte-next.ensures c.number.ensures.put; upper_bound = omega arith }
