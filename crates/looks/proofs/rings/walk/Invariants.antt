use mathlib.Core.Path.{◌≡◌}
use Prim.Native.Nat.{ℕ, ◌-◌, ◌*◌, ◌<◌}
use Rattle.rules.specs.Mesh as mesh
use Rattle.faces.specs.Rings.{Follows, trip_of}
use Rattle.faces.proofs.Trips.{trip_from}
use Rattle.looks.proofs.rings.walk.Given as goal

abbrev pub invariant-loop-n : goal.invariant-loop-n
invariant-loop-n g l = (l.x < 3 * l.nf) × ((next : ℕ → mesh.Step) → Follows (goal.F-post g l.step) l.nf next
    → trip_of (mesh.walk next l.nf (mesh.here l.s)) ≡ trip_from l.n 0 (mesh.walk next (l.nf - l.n) (mesh.here l.x)))
