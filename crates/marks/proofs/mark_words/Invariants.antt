use Prim.Native.Nat.{◌*◌}
use lib.ListN.{take}
use Rattle.faces.specs.Words.{links_in}
use Rattle.marks.specs.Marks.{Marking}
use Rattle.marks.proofs.mark_words.Given as goal

abbrev pub invariant-loop-side : goal.invariant-loop-side
invariant-loop-side l = Marking l.initial.words (links_in l.initial.words l.links (3 * l.nf)) l.marks l.nf (take l.side-index l.sharp) l.words
