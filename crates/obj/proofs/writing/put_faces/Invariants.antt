use Prim.Native.Nat.{suc, ◌≤◌}
use mathlib.Core.Path.{◌≡◌}
use mathlib.Core.List.{map}
use lib.ListN.{length}
use Rattle.lists.specs.Lists.{rows}
use Rattle.listing.specs.Text.{Put, face_line}
use Rattle.obj.proofs.writing.put_faces.Given as goal

abbrev pub invariant-loop-f : goal.invariant-loop-f
invariant-loop-f l = (l.f ≤ l.n) × ((length l.text ≡ length l.initial.text) × Put l.initial.text l.from (rows (face_line (map suc l.w)) l.f) l.text l.at)
