use mathlib.Core.Path.{◌∙◌}
use native.Mathlib.Omega.{arith}
use borrow.Author.Rules.{rules}
use Rattle.station.specs.Far.{exact0}
use Rattle.station.proofs.Held.{vertex-held}
use Rattle.station.proofs.near.old_far.Goals as goal

pub far_at-requires : goal.far_at-requires
far_at-requires c = ((omega arith, omega arith), c.limit_over-o.ensures.bounded)

pub returns : goal.returns
returns c = let a = c.args in
    c.far_at.ensures.0 ∙ vertex-held c.limit_over-o.result (exact0 a.words.now a.nf a.nv a.xs.now) a.ys.now a.t a.u c.far_at.ensures.1 c.limit_over-o.ensures
