use Prim.Native.Nat.{◌-◌, ◌≤◌, ◌<◌}
use mathlib.Core.Path.{◌≡◌}
use lib.ListN.{length}
use Rattle.rules.specs.Mesh.{corner}
use Rattle.cage.specs.Chains.{Coming}
use Rattle.cage.proofs.sides.put_coming.Given as goal

abbrev pub invariant-loop-h : goal.invariant-loop-h
invariant-loop-h l = (l.h ≤ length l.indices) × (0 < l.h → corner l.indices (l.h - 1) ≡ l.u) × Coming l.indices l.at l.u l.h l.initial.words l.words

abbrev pub decreases-loop-h : goal.decreases-loop-h
decreases-loop-h l = l.h
