use Prim.Native.Nat.{◌*◌}
use mathlib.Core.Path.{◌≡◌}
use lib.Seq.{sets}
use Rattle.lists.specs.Lists.{count, gather, part}
use Rattle.levels.specs.Level.{links_by}
use Rattle.levels.proofs.child_links.Given as goal

abbrev pub invariant-loop-f : goal.invariant-loop-f
invariant-loop-f l = l.words ≡ sets l.initial.words l.to (gather (links_by (part l.links (3 * l.nf) l.initial.words)) (count 0 l.f))
