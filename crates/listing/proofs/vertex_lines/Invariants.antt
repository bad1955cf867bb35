use Prim.Native.Nat.{◌+◌, ◌-◌, ◌*◌, ◌≤◌}
use mathlib.Core.Path.{◌≡◌, refl, ◌∙◌}
use native.Mathlib.Omega.{arith}
use lib.ListN.{length}
use Rattle.lists.specs.Lists.{rows}
use Rattle.listing.specs.Text.{Put, vertex_line}
use Rattle.listing.proofs.Laws.{row_more}
use Rattle.listing.proofs.vertex_lines.Given as goal

abbrev pub invariant-loop-v : goal.invariant-loop-v
invariant-loop-v l = (l.v ≤ l.n) × ((length l.text ≡ length l.initial.text) × ((l.at ≤ l.from + 68 * l.v) × Put l.initial.text l.from (rows (vertex_line l.p) l.v) l.text l.at))
