use Prim.Native.Nat.{ℕ, ◌+◌, ◌-◌, ◌*◌, ◌≤◌, ◌<◌}
use mathlib.Core.Path.{◌≡◌, refl, sym, ap, ◌∙◌}
use mathlib.Core.Bool.{Bool, true}
use native.Mathlib.Omega.{arith}
use borrow.Author.Rules.{rules}
use borrow.Author.Tests.{not-false}
use Rattle.lists.specs.Lists.{tally, count, bit, part}
use Rattle.lists.proofs.Places.{tally-next, tally-below}
use Rattle.rules.specs.Mesh.{links, first_met}
use Rattle.levels.specs.Moves.{edges_in}
use Rattle.levels.proofs.Moves.{room_of_lem}
use Rattle.station.specs.Acceptance.{needs_at}
use Rattle.station.specs.Far.{far_from, exact1}
use Rattle.station.proofs.Far.{rest, rest-starts, all-passed, met-passes, met-far, not-true, met-test, met-below, edges_are}
use Rattle.station.proofs.near.far_new.Given as goal

abbrev pub invariant-loop-s : goal.invariant-loop-s
invariant-loop-s l = (l.s ≤ 3 * l.nf) × ((l.k ≡ tally (first_met (links (part 0 (3 * l.nf) l.words))) (count 0 l.s))
    × (far_from (needs_at (exact1 l.words l.nf l.nv l.xs) l.ys) l.t (3 * l.nv) (3 * edges_in l.words 0 l.nf) ≡ rest (exact1 l.words l.nf l.nv l.xs) l.ys l.t l.nv (edges_in l.words 0 l.nf) l.k))
