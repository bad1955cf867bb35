use mathlib.Core.Path.{◌∙◌}
use borrow.Author.Tests.{le-leb}
use Rattle.cage.proofs.SharpList.{far}
use Rattle.scans.proofs.rims.loose.Goals as goal

pub returns-then-k-indices : goal.returns-then-k-indices
returns-then-k-indices c = let a = c.args in
    let h = c.if-k-indices.true in
    le-leb _ _ h ∙ far a.indices.now a.s h
