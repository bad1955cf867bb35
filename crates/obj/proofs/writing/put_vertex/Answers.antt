use mathlib.Core.Path.{◌≡◌, ◌∙◌}
use native.Mathlib.Omega.{arith}
use native.Mathlib.Nat.{zero-add}
use lib.ListN.{take}
use Rattle.listing.specs.Text.{vertex_line}
use Rattle.obj.proofs.Lines.{line_of}
use Rattle.obj.proofs.writing.put_vertex.Lts
use Rattle.obj.proofs.writing.put_vertex.Reads
use Rattle.obj.proofs.writing.put_vertex.Tie
use Rattle.obj.proofs.writing.put_vertex.Goals as goal

abbrev After-vertex_line-n : Type 0
After-vertex_line-n = Lts.After-vertex_line Tie.the-claims Reads.Pre Reads.Post Tie.handed_clauses

spelled : (k : After-vertex_line-n) → take k.vertex_line-n.result k.vertex_line-n.new.text ≡ vertex_line k.args.p.now k.args.v
spelled k = line_of k.vertex_line-n.ensures.put (omega arith)

pub slice_bounds-word-end : goal.slice_bounds-word-end
slice_bounds-word-end c = rw (spelled c.before.before.before) (c.vertex_line-n.ensures.put.next-is ∙ zero-add _)

pub word-requires : goal.word-requires
word-requires c = rw (spelled c.before.before.before) c.requires.1

pub returns : goal.returns
returns c = rw (spelled c.before.before.before.before.before.before.before) at c.word.ensures
