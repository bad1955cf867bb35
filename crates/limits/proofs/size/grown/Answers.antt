use native.Mathlib.Omega.{arith}
use Prim.Native.Nat.{ℕ, ◌+◌, ◌*◌, ◌^◌, ◌≤◌}
use mathlib.Core.Path.{◌≡◌, ap, ◌∙◌}
use native.Mathlib.Numerals.{add-one}
use Rattle.limits.proofs.Sizes.{few-faces, after_more, rims-more}
use Rattle.limits.proofs.size.grown.Lts
use Rattle.limits.proofs.size.grown.Reads
use Rattle.limits.proofs.size.grown.Goals as goal

abbrev In-loop : Type 0
In-loop = Lts.In-loop Reads.Pre Reads.Post goal.the-invariant-loop goal.the-decreases-loop

most : (k : In-loop) → k.loop.faces ≤ 67108864
most k = few-faces k.loop.counter k.loop.faces (omega (arith, k.requires)) k.loop.invariant.2

pub overflow_add-verts : goal.overflow_add-verts
overflow_add-verts c = omega (arith, most c)

pub overflow_mul-edges : goal.overflow_mul-edges
overflow_mul-edges c = omega (arith, most c)

pub overflow_mul-edges-in-loop : goal.overflow_mul-edges-in-loop
overflow_mul-edges-in-loop c = omega (arith, most c)

pub overflow_add-edges : goal.overflow_add-edges
overflow_add-edges c = omega (arith, most c)

pub overflow_mul-faces : goal.overflow_mul-faces
overflow_mul-faces c = omega (arith, most c)

pub loop-preserved : goal.loop-preserved
loop-preserved c = let a = c.args in
    let l = c.loop in
    let h = c.loop-test.true in
    let p : 4 ^ (l.counter + 1) ≡ 4 * 4 ^ l.counter = ap (λ (n : ℕ). 4 ^ n) (add-one l.counter) ∙ omega arith in (
      l.invariant.0 ∙ after_more a.levels l.counter (record { verts = l.verts; faces = l.faces; edges = l.edges }) h,
      l.invariant.1 ∙ rims-more a.levels l.counter l.rims h,
      rw p (omega (arith, l.invariant.2)),
      omega arith,
      omega arith,
      omega arith,
    )
