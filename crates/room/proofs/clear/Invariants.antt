use mathlib.Core.Path.{◌≡◌}
use Rattle.lists.specs.Lists.{cleared}
use Rattle.room.proofs.clear.Given as goal

abbrev pub invariant-loop-i : goal.invariant-loop-i
invariant-loop-i g l = l.s ≡ cleared l.z l.i l.initial.s
