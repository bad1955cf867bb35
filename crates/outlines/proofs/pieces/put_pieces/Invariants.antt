use Prim.Native.Nat.{◌≤◌}
use mathlib.Core.Path.{◌≡◌}
use mathlib.Core.List.{map}
use lib.ListN.{length, take}
use lib.Seq.{sets}
use Rattle.rules.specs.Mesh.{corner}
use Rattle.outlines.specs.Pieces.{pieces}
use Rattle.outlines.proofs.pieces.put_pieces.Given as goal

abbrev pub invariant-loop-j : goal.invariant-loop-j
invariant-loop-j l = (l.j ≤ l.all) × (length l.list ≡ length l.initial.list) × (l.list ≡ sets l.initial.list l.at (take l.j (map (corner l.out) (pieces l.levels l.s))))
