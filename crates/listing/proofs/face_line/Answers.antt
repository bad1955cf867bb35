use native.Mathlib.Omega.{arith}
use Rattle.listing.specs.Text.{face_line}
use Rattle.listing.proofs.Laws.{put-put}
use borrow.Author.Rules.{rules}
use Rattle.listing.proofs.face_line.Goals as goal

pub returns : goal.returns
unfolding face_line
returns c = record { put = put-put c.byte-next.ensures c.three_numbers.ensures.put; upper_bound = omega arith }
