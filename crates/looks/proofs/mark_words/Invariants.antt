use Prim.Native.Nat.{◌*◌, ◌≤◌}
use lib.ListN.{length, take}
use Rattle.lists.specs.Lists.{part}
use Rattle.rules.specs.Mesh.{links}
use Rattle.marks.specs.Marks.{Marking}
use Rattle.looks.proofs.mark_words.Given as goal

abbrev pub invariant-loop-side : goal.invariant-loop-side
invariant-loop-side l = (l.side-index ≤ length l.sharp) × Marking l.initial.words (links (part l.at (3 * l.nf) l.initial.words)) l.marks l.nf (take l.side-index l.sharp) l.words
