use Prim.Native.Nat.{◌≤◌}
use mathlib.Core.Path.{◌≡◌}
use lib.ListN.{length}
use Rattle.lists.specs.Lists.{rows}
use Rattle.listing.specs.Text.{Put, vertex_line}
use Rattle.obj.proofs.writing.put_vertices.Given as goal

abbrev pub invariant-loop-v : goal.invariant-loop-v
invariant-loop-v l = (l.v ≤ l.n) × ((length l.text ≡ length l.initial.text) × Put l.initial.text 0 (rows (vertex_line l.p) l.v) l.text l.at)
