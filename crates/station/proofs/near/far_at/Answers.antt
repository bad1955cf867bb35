use native.Mathlib.Omega.{arith}
use borrow.Author.Rules.{rules}
use Rattle.station.specs.Far.{Small3}
use Rattle.station.proofs.Held.{held_x, held-y, held-z, held_none}
use Rattle.station.proofs.near.far_at.Lts
use Rattle.station.proofs.near.far_at.Reads
use Rattle.station.proofs.near.far_at.Tie
use Rattle.station.proofs.near.far_at.Goals as goal

abbrev After-need_at-c : Type 0
After-need_at-c = Lts.After-need_at3 Tie.the-claims Reads.Pre Reads.Post

-- all three are read first
fit : (k : After-need_at-c) → Small3 k.args.ys.now k.args.i
fit k = record { x = k.need_at-a.ensures.1; y = k.need_at-b.ensures.1; z = k.need_at-c.ensures.1 }

pub returns-then-t-a : goal.returns-then-t-a
returns-then-t-a c = let a = c.args in
    (held_x a.o a.ys.now a.i a.t c.need_at-a.result c.need_at-a.ensures.0 (omega arith), fit c.before)

pub returns-then-t-b : goal.returns-then-t-b
returns-then-t-b c = let a = c.args in
    (held-y a.o a.ys.now a.i a.t c.need_at-a.result c.need_at-b.result c.need_at-a.ensures.0 c.need_at-b.ensures.0 (omega arith) (omega arith), fit c.before.before)

pub returns-then-t-c : goal.returns-then-t-c
returns-then-t-c c = let a = c.args in
    (held-z a.o a.ys.now a.i a.t c.need_at-a.result c.need_at-b.result c.need_at-c.result c.need_at-a.ensures.0 c.need_at-b.ensures.0 c.need_at-c.ensures.0 (omega arith) (omega arith) (omega arith), fit c.before.before.before)

pub returns : goal.returns
returns c = let a = c.args in
    (held_none a.o a.ys.now a.i a.t c.need_at-a.result c.need_at-b.result c.need_at-c.result c.need_at-a.ensures.0 c.need_at-b.ensures.0 c.need_at-c.ensures.0 (omega arith) (omega arith) (omega arith), fit c.before.before.before)
