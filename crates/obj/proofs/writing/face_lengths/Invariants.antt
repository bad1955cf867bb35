use Prim.Native.Nat.{suc, ◌*◌, ◌≤◌}
use mathlib.Core.Path.{◌≡◌}
use mathlib.Core.List.{map}
use lib.ListN.{length}
use Rattle.lists.specs.Lists.{rows}
use Rattle.listing.specs.Text.{face_line}
use Rattle.obj.proofs.writing.face_lengths.Given as goal

abbrev pub invariant-loop-f : goal.invariant-loop-f
invariant-loop-f l = (l.f ≤ l.n) × ((l.long ≡ length (rows (face_line (map suc l.w)) l.f)) × (l.long ≤ 65 * l.f))
