use native.Mathlib.Omega.{arith}
use Rattle.listing.specs.Text.{mesh_text}
use Rattle.listing.proofs.Laws.{put-put}
use borrow.Author.Rules.{rules}
use Rattle.listing.proofs.mesh_text.Goals as goal

pub returns : goal.returns
unfolding mesh_text
returns c = record { put = put-put c.mesh_line-first.ensures.put (put-put c.vertex_lines-second.ensures.put c.face_lines.ensures.put); upper_bound = omega arith }
