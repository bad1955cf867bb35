use Prim.Native.Nat.{◌*◌}
use mathlib.Core.Bool.{true}
use mathlib.Core.Path.{sym}
use native.Mathlib.Omega.{arith}
use lib.ListN.{take}
use lib.Seq.{length-take-le}
use Rattle.claimcheck.specs.Output.{Claim}
use Rattle.claimcheck.proofs.Laws.{judged-by, unread}
use Rattle.claimcheck.proofs.judge.Goals as goal

pub slice_bounds-held-end : goal.slice_bounds-held-end
slice_bounds-held-end c = sym (length-take-le _ _ (omega (arith, c.in-Some.ensures.faces, c.read.auto.fs)))

pub returns-in-Some : goal.returns-in-Some
returns-in-Some c = let n = c.in-Some.c in
    let k : Claim = record { counts = n; positions = take (3 * n.vertices) c.read.new.ps; faces = take (3 * n.faces) c.read.new.fs } in
    record { judged = judged-by _ _ _ _ _ _ k true _ _ _ (λ z. c.in-Some.ensures.read) c.held-v.ensures c.our_rims.ensures c.with_rims.ensures c.verdict_text.ensures.put; upper_bound = c.verdict_text.ensures.upper_bound }

pub returns-in-None : goal.returns-in-None
returns-in-None c = record { judged = unread _ _ _ _ _ _ _ c.held.ensures c.unreadable.ensures.put; upper_bound = c.unreadable.ensures.upper_bound }
