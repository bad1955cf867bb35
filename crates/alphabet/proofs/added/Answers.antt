use native.Mathlib.Omega.{arith}
use Rattle.alphabet.proofs.Lengths.{total-more, total-none}
use Rattle.alphabet.proofs.added.Goals as goal

pub loop-n-preserved : goal.loop-n-preserved
loop-n-preserved c = let l = c.loop-n in
    let w = (c.type_inv.lengths l.n-index).fits in
    (omega (arith, l.invariant.0, total-more c.args.lengths.now l.n-index (omega arith)), omega (arith, w, l.invariant.1))

pub returns : goal.returns
returns c = let l = c.loop-n in
    omega (arith, l.invariant.0, total-none c.args.lengths.now l.n-index (omega arith))
