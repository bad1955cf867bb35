use native.Mathlib.Omega.{arith}
use Prim.Native.Nat.{◌+◌, ◌-◌, ◌^◌, ◌<◌}
use mathlib.Core.Path.{◌≡◌, refl, sym, ap, ◌∙◌}
use lib.ListN.{length}
use Rattle.rules.specs.Mesh.{corner}
use Rattle.outlines.proofs.Listing.{pow_small}
use Rattle.outlines.proofs.Steps.{turn-of, within-side}
use Rattle.outlines.proofs.pieces.vertex_at.Goals as goal

pub loop-l-init : goal.loop-l-init
loop-l-init c = (c.requires.sizes.1, refl, c.requires.within)

pub half_at-t-requires : goal.half_at-t-requires
half_at-t-requires c = omega (arith, within-side _ _ _ c.loop-l.invariant.2, c.requires.sizes.2)

pub loop-l-preserved : goal.loop-l-preserved
loop-l-preserved c = let l = c.loop-l in
    let p : l.l ≡ (l.l - 1) + 1 = omega (arith, c.loop-l-test.true) in
    let s = pow_small (l.l - 1) (omega (arith, l.auto.l, c.requires.sizes.0)) in
    let r = turn-of (length c.args.out.now) (l.l - 1) l.l _ l.t l.i p (omega (arith, s)) l.invariant.0 l.invariant.2 in
    (rw c.rest-i.ensures r.rest, rw (c.rest-i.ensures, c.half_at-t.ensures) (sym r.piece ∙ l.invariant.1), rw c.half_at-t.ensures r.within)

pub offset_bounds-out-t : goal.offset_bounds-out-t
offset_bounds-out-t c = omega (arith, within-side _ _ _ c.loop-l.invariant.2, c.requires.sizes.2)

pub bounds-out-t : goal.bounds-out-t
bounds-out-t c = within-side _ _ _ c.loop-l.invariant.2

pub returns : goal.returns
returns c = let l = c.loop-l in
    let e : l.l ≡ 0 = omega (arith, c.loop-l-test.false) in
    let p : l.i < 2 ^ 0 = rw e at l.invariant.0 in
    let z : l.i ≡ 0 = omega (arith, p) in
    ap (corner c.args.out.now) (rw (e, z) at l.invariant.1)
