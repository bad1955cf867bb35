use native.Mathlib.Omega.{arith}
use Prim.Native.Nat.{ℕ, ◌^◌, ◌<◌}
use mathlib.Core.Path.{◌≡◌, refl, sym, ap, ◌∙◌}
use mathlib.Core.List.{map}
use lib.ListN.{length, length-set, take}
use lib.Seq.{sets, take-length}
use Rattle.lists.proofs.Stores.{copy_at}
use Rattle.rules.specs.Mesh.{corner}
use Rattle.outlines.specs.Pieces.{pieces}
use Rattle.outlines.proofs.Steps.{piece_store, length-stored}
use Rattle.outlines.proofs.pieces.put_pieces.Goals as goal

pub loop-j-init : goal.loop-j-init
loop-j-init c = (omega arith, refl, refl)

pub vertex_at-requires : goal.vertex_at-requires
vertex_at-requires c = record { sizes = (c.requires.few, omega (arith, c.requires.sizes.0, c.loop-j-test.true), c.requires.sizes.2); within = c.requires.within }

pub overflow_add-list : goal.overflow_add-list
overflow_add-list c = omega (arith, c.requires.sizes.1, c.loop-j-test.true)

pub offset_bounds-list-at : goal.offset_bounds-list-at
offset_bounds-list-at c = omega (arith, c.requires.sizes.1, c.loop-j-test.true)

pub bounds-list-at : goal.bounds-list-at
bounds-list-at c = omega (arith, c.requires.sizes.1, c.loop-j-test.true, c.loop-j.invariant.1)

pub loop-j-preserved : goal.loop-j-preserved
loop-j-preserved c = let l = c.loop-j in
    let fs = c.args.out.now in
    let ws = map (corner fs) (pieces c.args.levels c.args.s) in
    let h : l.j < 2 ^ c.args.levels = omega (arith, c.loop-j-test.true, c.requires.sizes.0) in (
      omega (arith, c.loop-j-test.true),
      rw length-set l.invariant.1,
      rw (l.invariant.2, c.vertex_at.ensures, piece_store fs c.args.levels c.args.s l.j h) (copy_at c.args.list.now ws c.args.at l.j 0 (rw (length-stored fs c.args.levels c.args.s) h)),
    )

pub returns : goal.returns
returns c = let l = c.loop-j in
    let ws = map (corner c.args.out.now) (pieces c.args.levels c.args.s) in
    let e : length ws ≡ l.j = length-stored c.args.out.now c.args.levels c.args.s ∙ omega (arith, c.requires.sizes.0, l.invariant.0, c.loop-j-test.false) in
    l.invariant.2 ∙ ap (sets c.args.list.now c.args.at) (ap (λ (n : ℕ). take n ws) (sym e) ∙ take-length ws)
