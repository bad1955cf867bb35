use native.Mathlib.Omega.{arith}
use mathlib.Core.Path.{◌≡◌, refl, ◌∙◌}
use lib.ListN.{length}
use Rattle.outlines.proofs.Steps.{left-all}
use Rattle.outlines.proofs.rim.put_leaving.Goals as goal

pub loop-s-init : goal.loop-s-init
loop-s-init c = (omega arith, refl, c.requires.empty)

pub put_side-requires : goal.put_side-requires
put_side-requires c = let l = c.loop-s in
    record { sizes = (c.requires.cage.0, record { each = λ x h. rw l.invariant.1 (c.requires.cage.1.each x h) }, c.loop-s-test.true); links = c.requires.links; before = l.invariant.2 }

pub loop-s-preserved : goal.loop-s-preserved
loop-s-preserved c = let l = c.loop-s in
    let r = c.put_side.ensures.after in
    (omega (arith, c.loop-s-test.true), r.1 ∙ l.invariant.1, r.0)

pub returns : goal.returns
returns c = let l = c.loop-s in
    let e : l.s ≡ length c.args.indices.now = omega (arith, c.loop-s-test.false, l.invariant.0) in
    (left-all c.args.v c.args.indices.now c.requires.cage.2 l.leaving (rw (← e) l.invariant.2), l.invariant.1)
