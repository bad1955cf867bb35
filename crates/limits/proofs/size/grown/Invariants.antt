use Prim.Native.Nat.{◌+◌, ◌-◌, ◌*◌, ◌^◌, ◌≤◌}
use mathlib.Core.Path.{◌≡◌}
use Rattle.rules.specs.Levels.{after}
use Rattle.limits.proofs.size.grown.Given as goal

abbrev pub invariant-loop : goal.invariant-loop
invariant-loop l = (after l.levels (record { verts = l.v; faces = l.f; edges = l.e }) ≡ after (l.levels - l.counter) (record { verts = l.verts; faces = l.faces; edges = l.edges }))
    × (2 ^ l.levels * l.r ≡ 2 ^ (l.levels - l.counter) * l.rims) × (l.faces ≤ 4096 * 4 ^ l.counter) × (l.edges ≤ 3 * l.faces) × (l.rims ≤ 3 * l.faces) × (l.verts ≤ 4096 + 3 * l.faces)
