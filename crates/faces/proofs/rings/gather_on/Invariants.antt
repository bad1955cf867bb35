use mathlib.Core.Path.{◌≡◌}
use Prim.Native.Nat.{◌-◌, ◌*◌, ◌≤◌, ◌<◌}
use lib.ListN.{length, get_or, take}
use lib.Seq.{sets}
use Rattle.lists.specs.Lists.{part}
use Rattle.rules.specs.Mesh.{here, walk, passed, next_corner}
use Rattle.faces.specs.Words.{links_in}
use Rattle.faces.specs.Rings.{trip_of, inners}
use Rattle.faces.proofs.Trips.{trip_from}
use Rattle.faces.proofs.rings.gather_on.Given as goal

-- what the walk finds, as in `by_next`, and what it has stored
abbrev pub invariant-loop-n : goal.invariant-loop-n
invariant-loop-n l = (let next = next_corner (links_in l.words l.links (3 * l.nf)) l.s in
    let cs = passed (walk next l.nf (here l.s)) in
    (l.at < 3 * l.nf) × (l.n ≤ l.nf) × (trip_of (walk next l.nf (here l.s)) ≡ trip_from l.n 0 (walk next (l.nf - l.n) (here l.at))) ×
    (l.n < length cs) × (l.at ≡ get_or cs l.n 0) × (length l.out ≡ length l.initial.out) × (l.out ≡ sets l.initial.out 0 (take l.n (inners (part l.corners (3 * l.nf) l.words) cs))))
