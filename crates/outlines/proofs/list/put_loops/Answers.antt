use native.Mathlib.Omega.{arith}
use Prim.Native.Nat.{ℕ}
use mathlib.Core.Path.{◌≡◌, refl, sym, ap, ◌∙◌}
use mathlib.Core.List.{List}
use lib.Seq.{sets, length-sets}
use Rattle.lists.specs.Lists.{count, gather}
use Rattle.outlines.specs.Pieces.{entry_at}
use Rattle.outlines.proofs.Listing.{length-next, room_next, sets_more}
use Rattle.outlines.proofs.list.put_loops.Goals as goal

pub loop-u-init : goal.loop-u-init
loop-u-init c = (omega arith, refl, refl, refl)

pub put_at-at-requires : goal.put_at-at-requires
put_at-at-requires c = let l = c.loop-u in
    let h = room_next (entry_at c.args.levels c.args.indices.now c.args.out.now) l.u c.args.v c.loop-u-test.true in
    record { cage = c.requires.cage; vertex = (c.loop-u-test.true, c.requires.few.0, c.requires.few.1, c.requires.few.2, c.requires.few.3); out = c.requires.out; room = omega (arith, h, l.invariant.1, l.invariant.2, c.requires.room) }

pub loop-u-preserved : goal.loop-u-preserved
loop-u-preserved c = let l = c.loop-u in
    let r = c.put_at-at.ensures in (
      omega (arith, c.loop-u-test.true),
      r.next ∙ rw l.invariant.1 (sym (length-next (entry_at c.args.levels c.args.indices.now c.args.out.now) l.u)),
      rw r.list (length-sets l.list l.at ((entry_at c.args.levels c.args.indices.now c.args.out.now) l.u) ∙ l.invariant.2),
      r.list ∙ ap (λ (z : List ℕ). sets z l.at ((entry_at c.args.levels c.args.indices.now c.args.out.now) l.u)) l.invariant.3 ∙ sets_more (entry_at c.args.levels c.args.indices.now c.args.out.now) c.args.list.now l.at l.u l.invariant.1,
    )

pub shape_of-list : goal.shape_of-list
shape_of-list c = c.loop-u.invariant.2

pub returns : goal.returns
returns c = let l = c.loop-u in
    let e : l.u ≡ c.args.v = omega (arith, c.loop-u-test.false, l.invariant.0) in
    l.invariant.3 ∙ ap (λ (n : ℕ). sets c.args.list.now 0 (gather (entry_at c.args.levels c.args.indices.now c.args.out.now) (count 0 n))) e
