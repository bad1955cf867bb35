use Prim.Native.Nat.{suc}
use mathlib.Core.Path.{◌≡◌, ◌∙◌}
use mathlib.Core.List.{map}
use native.Mathlib.Omega.{arith}
use native.Mathlib.Nat.{zero-add}
use lib.ListN.{take}
use Rattle.listing.specs.Text.{face_line}
use Rattle.obj.proofs.Lines.{line_of}
use Rattle.obj.proofs.writing.put_face.Lts
use Rattle.obj.proofs.writing.put_face.Reads
use Rattle.obj.proofs.writing.put_face.Tie
use Rattle.obj.proofs.writing.put_face.Goals as goal

abbrev After-face_line-n : Type 0
After-face_line-n = Lts.After-face_line Tie.the-claims Reads.Pre Reads.Post Tie.handed_clauses

spelled : (k : After-face_line-n) → take k.face_line-n.result k.face_line-n.new.line ≡ face_line (map suc k.args.w.now) k.args.f
spelled k = line_of k.face_line-n.ensures.put (omega arith)

pub slice_bounds-word-end : goal.slice_bounds-word-end
slice_bounds-word-end c = rw (spelled c.before.before.before.before) (c.face_line-n.ensures.put.next-is ∙ zero-add _)

pub word-requires : goal.word-requires
word-requires c = rw (spelled c.before.before.before.before) c.requires.1

pub returns : goal.returns
returns c = rw (spelled c.before.before.before.before.before.before.before) at c.word.ensures
