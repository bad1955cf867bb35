use Prim.Native.Nat.{◌^◌, ◌<◌}
use mathlib.Core.Path.{◌≡◌}
use lib.ListN.{length, get_or}
use Rattle.outlines.specs.Pieces.{pieces, Within}
use Rattle.outlines.proofs.pieces.vertex_at.Given as goal

abbrev pub invariant-loop-l : goal.invariant-loop-l
invariant-loop-l l = (l.i < 2 ^ l.l) × (get_or (pieces l.l l.t) l.i 0 ≡ get_or (pieces l.levels l.s) l.j 0) × Within (length l.out) l.l l.t
