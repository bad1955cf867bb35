use native.Mathlib.Omega.{arith}
use Prim.Native.Nat.{◌≤◌}
use mathlib.Core.Path.{sym}
use mathlib.Core.Bool.{not}
use lib.ListN.{get_or}
use Rattle.lists.specs.Lists.{found}
use Rattle.faces.specs.Words.{link_of}
use Rattle.limits.proofs.Sizes.{rim-more, bit_le}
use Rattle.limits.proofs.size.count_rims.Lts
use Rattle.limits.proofs.size.count_rims.Reads
use Rattle.limits.proofs.size.count_rims.Tie
use Rattle.limits.proofs.size.count_rims.Goals as goal

abbrev After-rim_at-r : Type 0
After-rim_at-r = Lts.After-rim_at Tie.the-claims Reads.Pre Reads.Post goal.the-invariant-loop-s goal.the-decreases-loop-s

few : (k : After-rim_at-r) → k.rim_at-r.result ≤ 1
few k = rw k.rim_at-r.ensures (bit_le (not (found (link_of (get_or k.args.words.now k.loop-s.s 0)))))

pub loop-s-preserved : goal.loop-s-preserved
loop-s-preserved c = let l = c.loop-s in
    (omega (arith, few c.before), rw (l.invariant.1, c.rim_at-r.ensures) (sym (rim-more c.args.words.now l.s (omega (arith, c.requires, c.loop-s-test.true)))))
