use native.Mathlib.Omega.{arith}
use Prim.Native.Nat.{ℕ, ◌≤◌}
use mathlib.Core.Path.{◌≡◌, refl, sym, ap, ◌∙◌, subst}
use Rattle.lists.specs.Lists.{count, tally}
use Rattle.lists.proofs.Places.{tally-next}
use Rattle.limits.proofs.Sizes.{bit_le}
use Rattle.rules.specs.Mesh.{links}
use Rattle.outlines.specs.Loops.{begins}
use Rattle.outlines.specs.Pieces.{Marked}
use Rattle.outlines.proofs.Marks.{firsts-all}
use Rattle.outlines.proofs.rim.mark_loops.Lts
use Rattle.outlines.proofs.rim.mark_loops.Reads
use Rattle.outlines.proofs.rim.mark_loops.Tie
use Rattle.outlines.proofs.rim.mark_loops.Goals as goal

abbrev After-mark_at-loops : Type 0
After-mark_at-loops = Lts.After-mark_at Tie.the-claims Reads.Pre Reads.Post goal.the-invariant-loop-u goal.the-decreases-loop-u Tie.handed_clauses

one : (k : After-mark_at-loops) → k.mark_at-loops.result ≤ 1
one k = rw k.mark_at-loops.ensures.begins (bit_le (begins k.args.indices.now (links k.args.indices.now) k.loop-u.u))

pub loop-u-init : goal.loop-u-init
loop-u-init c = (omega arith, omega arith, refl, c.requires.marks, refl)

pub mark_at-loops-requires : goal.mark_at-loops-requires
mark_at-loops-requires c = record { cage = c.requires.cage; vertex = (c.loop-u-test.true, c.requires.few.0, c.requires.few.1); marks = c.loop-u.invariant.3 }

pub overflow_add-loops : goal.overflow_add-loops
overflow_add-loops c = omega (arith, one c.before.before.before, c.loop-u.invariant.1, c.loop-u-test.true, c.requires.few.0)

pub loop-u-preserved : goal.loop-u-preserved
loop-u-preserved c = let l = c.loop-u in
    let fs = c.args.indices.now in
    let r = c.mark_at-loops.ensures in (
      omega (arith, c.loop-u-test.true),
      omega (arith, one c.before.before.before, l.invariant.1),
      rw (l.invariant.2, r.begins) (sym (tally-next (begins fs (links fs)) l.u)),
      r.marks.0,
      r.marks.1 ∙ l.invariant.4,
    )

pub shape_of-marks : goal.shape_of-marks
shape_of-marks c = c.loop-u.invariant.4

pub returns : goal.returns
returns c = let l = c.loop-u in
    let fs = c.args.indices.now in
    let e : l.u ≡ c.args.v = omega (arith, c.loop-u-test.false, l.invariant.0) in
    record { loops = l.invariant.2 ∙ ap (λ (n : ℕ). tally (begins fs (links fs)) (count 0 n)) e; marks = (firsts-all c.args.v c.args.indices.now c.requires.cage.2 l.marks (subst (λ (k : ℕ). Marked c.args.v fs k l.marks) e l.invariant.3), l.invariant.4) }
