use native.Mathlib.Omega.{arith}
use mathlib.Core.Path.{sym, ap, ◌∙◌}
use Rattle.rules.specs.Mesh.{links}
use Rattle.rules.specs.Sharp.{unlinked}
use Rattle.limits.proofs.Search.{at}
use Rattle.cage.proofs.SharpList.{told_here, told-nowhere}
use Rattle.scans.proofs.rims.marks.Goals as goal

pub returns-then-loose : goal.returns-then-loose
returns-then-loose c = let a = c.args in
    let l = c.loop-i in
    c.no.ensures ∙ ap (at 18) c.place.ensures
    ∙ sym (told_here (unlinked (links a.indices.now)) a.sharp.now l.i (omega arith) (sym c.loose.ensures ∙ c.if-loose.true) l.invariant)

pub returns : goal.returns
returns c = let a = c.args in
    sym (told-nowhere (unlinked (links a.indices.now)) a.sharp.now (λ j h. c.loop-i.invariant j (omega arith)))
