use borrow.Author.Tests.{le-leb}
use native.Mathlib.Omega.{arith}
use mathlib.Core.Path.{sym, ◌∙◌}
use Rattle.limits.proofs.Search.{find-here, find-nowhere}
use lib.Dec.{leb}
use Rattle.limits.proofs.list.beyond.Goals as goal

pub returns-then-u-v : goal.returns-then-u-v
returns-then-u-v c = c.no.ensures ∙ sym (find-here 5 (λ u. leb c.args.v u) 0 c.args.indices.now c.loop-i.i (omega arith) (le-leb _ _ c.if-u-v.true) c.loop-i.invariant)

pub returns : goal.returns
returns c = sym (find-nowhere 5 (λ u. leb c.args.v u) 0 c.args.indices.now (λ j h. c.loop-i.invariant j (omega arith)))
