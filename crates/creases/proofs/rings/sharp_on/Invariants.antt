use mathlib.Core.Path.{◌≡◌}
use Prim.Native.Nat.{◌-◌, ◌*◌, ◌≤◌, ◌<◌}
use lib.ListN.{length, get_or, take}
use lib.Seq.{sets}
use Rattle.lists.specs.Lists.{part, keep}
use Rattle.rules.specs.Sharp.{sharp}
use Rattle.rules.specs.Mesh.{here, walk, passed, next_corner}
use Rattle.faces.specs.Words.{links_in}
use Rattle.faces.specs.Rings.{trip_of, inners}
use Rattle.faces.proofs.Trips.{trip_from}
use Rattle.marks.specs.Marks.{marks_in}
use Rattle.creases.specs.Rings.{met_of}
use Rattle.creases.proofs.rings.sharp_on.Given as goal

-- what gather_on does, with the sharp edges met
abbrev pub invariant-loop-n : goal.invariant-loop-n
invariant-loop-n l = (let next = next_corner (links_in l.words l.links (3 * l.nf)) l.s in
    let cs = passed (walk next l.nf (here l.s)) in
    (l.at < 3 * l.nf) × (l.n ≤ l.nf) × (trip_of (walk next l.nf (here l.s)) ≡ trip_from l.n 0 (walk next (l.nf - l.n) (here l.at))) ×
    (l.n < length cs) × (l.at ≡ get_or cs l.n 0) × (length l.out ≡ length l.initial.out) × (l.out ≡ sets l.initial.out 0 (take l.n (inners (part l.corners (3 * l.nf) l.words) cs))) ×
    (l.met ≡ met_of (inners (part l.corners (3 * l.nf) l.words) (keep (sharp (marks_in l.words l.marks l.nf)) (take l.n cs)))))
