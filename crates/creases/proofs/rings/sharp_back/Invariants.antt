use mathlib.Core.Path.{◌≡◌}
use Prim.Native.Nat.{◌-◌, ◌*◌, ◌<◌}
use lib.ListN.{length, get_or, take}
use lib.Seq.{sets}
use Rattle.lists.specs.Lists.{part, tally}
use Rattle.rules.specs.Mesh.{here, walk, passed, prev_corner}
use Rattle.faces.specs.Words.{links_in}
use Rattle.faces.specs.Rings.{backs}
use Rattle.marks.specs.Marks.{marks_in}
use Rattle.creases.specs.Rings.{comes}
use Rattle.creases.proofs.rings.sharp_back.Given as goal

abbrev pub invariant-loop-t : goal.invariant-loop-t
invariant-loop-t l = (let cs = passed (walk (prev_corner (links_in l.words l.links (3 * l.nf)) l.end) l.q (here l.s)) in
    (l.at < 3 * l.nf) × (l.n < length cs) × (l.at ≡ get_or cs l.n 0) × (length l.out ≡ length l.initial.out) × (l.out ≡ sets l.initial.out l.from (take l.n (backs (part l.corners (3 * l.nf) l.words) cs))) ×
    (l.k ≡ tally (comes (marks_in l.words l.marks l.nf)) (take l.n cs)))

abbrev pub decreases-loop-t : goal.decreases-loop-t
decreases-loop-t l = length (passed (walk (prev_corner (links_in l.words l.links (3 * l.nf)) l.end) l.q (here l.s))) - l.n
