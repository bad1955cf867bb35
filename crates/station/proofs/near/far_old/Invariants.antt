use Prim.Native.Nat.{ℕ, ◌+◌, ◌-◌, ◌*◌, ◌≤◌}
use mathlib.Core.Path.{◌≡◌, sym, ap, ◌∙◌}
use native.Mathlib.Omega.{arith}
use borrow.Author.Rules.{rules}
use borrow.Author.Tests.{not-false}
use Rattle.station.specs.Acceptance.{needs_at}
use Rattle.station.specs.Far.{far_from, held_vertex, exact0}
use Rattle.station.proofs.Far.{rest, rest-starts, all-passed, vertex-passes, vertex-far, not-true}
use Rattle.station.proofs.near.far_old.Given as goal

abbrev pub invariant-loop-u : goal.invariant-loop-u
invariant-loop-u l = (l.u ≤ l.nv) × (far_from (needs_at (exact0 l.words l.nf l.nv l.xs) l.ys) l.t 0 (3 * l.nv) ≡ rest (exact0 l.words l.nf l.nv l.xs) l.ys l.t 0 l.nv l.u)
