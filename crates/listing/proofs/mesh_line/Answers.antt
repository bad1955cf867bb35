use native.Mathlib.Omega.{arith}
use Rattle.listing.specs.Text.{mesh_line}
use Rattle.listing.proofs.Laws.{put-put}
use borrow.Author.Rules.{rules}
use Rattle.listing.proofs.mesh_line.Goals as goal

pub returns : goal.returns
unfolding mesh_line
returns c = record { put = put-put c.word-at.ensures c.three_numbers.ensures.put; upper_bound = omega arith }
