use native.Mathlib.Omega.{arith}
use Prim.Native.Nat.{◌/◌}
use mathlib.Core.Path.{sym, ◌∙◌}
use lib.ListN.{length}
use Rattle.limits.proofs.Search.{lowest-here, lowest-nowhere}
use Rattle.rules.specs.Refusals.{equal_corners}
use Rattle.limits.proofs.list.flat.Goals as goal

pub returns-then-equal_corners : goal.returns-then-equal_corners
returns-then-equal_corners c = c.no.ensures ∙ sym (lowest-here 6 (equal_corners c.args.indices.now) (length c.args.indices.now / 3) c.loop-f.f (omega arith) (sym c.equal_corners.ensures ∙ c.if-equal_corners.true) c.loop-f.invariant)

pub returns : goal.returns
returns c = let l = c.args.indices.now in sym (lowest-nowhere 6 (equal_corners l) (length l / 3) (λ j h. c.loop-f.invariant j (omega arith)))
