use Prim.Native.Nat.{ℕ, ◌+◌, ◌-◌, ◌*◌, ◌≤◌, ◌<◌}
use mathlib.Core.Path.{◌≡◌, refl, sym, ap, ◌∙◌}
use mathlib.Core.List.{List, map}
use native.Mathlib.Omega.{arith}
use lib.ListN.{length, take}
use lib.Seq.{take_all}
use borrow.Author.Rules.{rules}
use Rattle.whole.specs.Whole.{reach}
use Rattle.station.specs.Far.{raised_at, sum_n}
use Rattle.station.proofs.Points.{sum-next}
use Rattle.station.proofs.fractions.ring_sum.Given as goal

abbrev pub invariant-loop-v : goal.invariant-loop-v
invariant-loop-v l = (l.v-index ≤ length l.ring) × ((l.x ≡ sum_n (map (raised_at l.xs l.c) (take l.v-index l.ring))) × (l.x ≤ l.v-index * (2 * reach)))
