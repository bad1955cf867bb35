use Prim.Native.Nat.{◌*◌, ◌≤◌}
use mathlib.Core.Path.{◌≡◌}
use lib.ListN.{length}
use Rattle.lists.specs.Lists.{rows}
use Rattle.listing.specs.Text.{vertex_line}
use Rattle.obj.proofs.writing.vertex_lengths.Given as goal

abbrev pub invariant-loop-v : goal.invariant-loop-v
invariant-loop-v l = (l.v ≤ l.n) × ((l.long ≡ length (rows (vertex_line l.p) l.v)) × (l.long ≤ 68 * l.v))
