use mathlib.Core.Path.{◌≡◌}
use Prim.Native.Nat.{◌-◌, ◌*◌, ◌<◌}
use lib.ListN.{length, get_or, take}
use lib.Seq.{sets}
use Rattle.lists.specs.Lists.{part, keep}
use Rattle.rules.specs.Mesh.{links, here, walk, passed, next_corner}
use Rattle.rules.specs.Sharp.{sharp}
use Rattle.faces.specs.Rings.{inners}
use Rattle.marks.specs.Marks.{marks_in}
use Rattle.creases.specs.Rings.{met_of}
use Rattle.looks.proofs.rings.inner_ring.Given as goal

abbrev pub invariant-loop-t : goal.invariant-loop-t
invariant-loop-t l = (let cs = passed (walk (next_corner (links (part l.at (3 * l.nf) l.words)) l.s) l.nf (here l.s)) in
    (l.x < 3 * l.nf) × (l.n < length cs) × (l.x ≡ get_or cs l.n 0) × (length l.out ≡ length l.initial.out) × (l.out ≡ sets l.initial.out 0 (take l.n (inners (part l.at (3 * l.nf) l.words) cs))) ×
    (l.met ≡ met_of (inners (part l.at (3 * l.nf) l.words) (keep (sharp (marks_in l.words l.marks l.nf)) (take l.n cs)))))

abbrev pub decreases-loop-t : goal.decreases-loop-t
decreases-loop-t l = length (passed (walk (next_corner (links (part l.at (3 * l.nf) l.words)) l.s) l.nf (here l.s))) - l.n
