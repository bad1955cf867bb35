use native.Mathlib.Omega.{arith}
use Rattle.listing.specs.Text.{vertex_line}
use Rattle.listing.proofs.Laws.{put-put}
use borrow.Author.Rules.{rules}
use Rattle.listing.proofs.vertex_line.Goals as goal

pub returns : goal.returns
unfolding vertex_line
returns c = record { put = put-put c.byte-first.ensures (put-put c.spaced_coord-second.ensures.put (put-put c.spaced_coord-third.ensures.put (put-put c.spaced_coord-end.ensures.put c.byte.ensures))); upper_bound = omega arith }
