use Prim.Native.Nat.{ℕ, ◌≤◌}
use mathlib.Core.Path.{sym}
use lib.ListN.{length, replicate, length-replicate}
use native.Mathlib.Omega.{arith}
use lib.Seq.{length-take-le}
use Rattle.fontcut.proofs.Along.{as_long}
use Rattle.fontcut.proofs.main.Lts
use Rattle.fontcut.proofs.main.Reads
use Rattle.fontcut.proofs.main.Tie
use Rattle.fontcut.proofs.main.Goals as goal

abbrev After-cut-k : Type 0
After-cut-k = Lts.After-cut Tie.the-claims Reads.Pre Reads.Post Tie.handed_clauses

text-fits : (k : After-cut-k) → k.cut-k.result ≤ length k.cut-k.new.text
text-fits k = as_long _ _ _ k.cut-k.auto.text k.cut-k.ensures.upper_bound

-- a room is as long as it is made, whatever its length: at the number itself a tactic would write the room out
room-is : (n x : ℕ) → n ≤ length (replicate n x)
room-is n x = rw (length-replicate {A = ℕ} n x) (omega arith)

pub slice_bounds-cut-end-2 : goal.slice_bounds-cut-end-2
slice_bounds-cut-end-2 c = sym (length-replicate {A = ℕ} 549120 0)

pub cut-k-requires : goal.cut-k-requires
cut-k-requires c = room-is 549120 0

pub slice_bounds-text-end : goal.slice_bounds-text-end
slice_bounds-text-end c = text-fits c.before

pub slice_bounds-output-end : goal.slice_bounds-output-end
slice_bounds-output-end c = sym (length-take-le _ _ (text-fits c.before.before))
