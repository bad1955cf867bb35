use Prim.Native.Nat.{◌+◌, ◌-◌, ◌*◌, ◌≤◌}
use mathlib.Core.Path.{◌≡◌, refl, ◌∙◌}
use native.Mathlib.Omega.{arith}
use lib.ListN.{length}
use Rattle.lists.specs.Lists.{rows}
use Rattle.listing.specs.Text.{Put, face_line}
use Rattle.listing.proofs.Laws.{row_more}
use Rattle.listing.proofs.face_lines.Given as goal

abbrev pub invariant-loop-f : goal.invariant-loop-f
invariant-loop-f l = (l.f ≤ l.n) × ((length l.text ≡ length l.initial.text) × ((l.at ≤ l.from + 65 * l.f) × Put l.initial.text l.from (rows (face_line l.w) l.f) l.text l.at))
