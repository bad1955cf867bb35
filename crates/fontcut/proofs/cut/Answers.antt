use Prim.Native.Nat.{ℕ, ◌+◌, ◌*◌}
use mathlib.Core.Path.{◌≡◌, sym}
use native.Mathlib.Omega.{arith}
use lib.ListN.{take, drop, length-replicate}
use lib.Seq.{length-take-le}
use Rattle.rules.specs.Sheets.{word_at}
use Rattle.reader.proofs.Read.{decoded}
use Rattle.fontcut.specs.Output.{lengths_of}
use Rattle.fontcut.proofs.Along.{rest}
use Rattle.fontcut.proofs.Head.{over, no-count, too_many, no_lengths, by-sheets}
use Rattle.fontcut.proofs.cut.Lts
use Rattle.fontcut.proofs.cut.Reads
use Rattle.fontcut.proofs.cut.Tie
use Rattle.fontcut.proofs.cut.Goals as goal

abbrev After-lengths : Type 0
After-lengths = Lts.After-numbers_from Tie.the-claims Reads.Pre Reads.Post Tie.handed_clauses

-- the lengths, decoded
lengths-are : (k : After-lengths) → take k.word_at-sheets.result k.numbers_from.new.s ≡ lengths_of k.args.input.now
lengths-are k =
    let i = k.args.input.now in
    let n = k.word_at-sheets.result in
    rw (k.numbers_from.ensures, rest i 4)
    (decoded (λ j. word_at (drop 4 i) (4 * j)) _ n (word_at i 0) (sym k.word_at-sheets.ensures) (omega (arith, k.if-sheets-gt64.false, length-replicate {A = ℕ} 64 0)))

pub returns-then-n-gt262144 : goal.returns-then-n-gt262144
returns-then-n-gt262144 c = record { put = rw (← (over c.args.input.now (omega arith))) c.refused_by.ensures.put; upper_bound = c.refused_by.ensures.upper_bound }

pub returns-then-n-lt4 : goal.returns-then-n-lt4
returns-then-n-lt4 c = record { put = rw (← (no-count c.args.input.now (omega arith) (omega arith))) c.refused_by-then-n-lt4.ensures.put; upper_bound = c.refused_by-then-n-lt4.ensures.upper_bound }

pub returns-then-sheets-gt64 : goal.returns-then-sheets-gt64
returns-then-sheets-gt64 c = let w = c.word_at-sheets.ensures in
    record { put = rw (← (too_many c.args.input.now (omega arith) (omega arith) (omega (arith, w, c.if-sheets-gt64.true)))) c.refused_by-then-sheets-gt64.ensures.put; upper_bound = c.refused_by-then-sheets-gt64.ensures.upper_bound }

pub returns-then-n-start : goal.returns-then-n-start
returns-then-n-start c = let w = c.word_at-sheets.ensures in
    record { put = rw (← (no_lengths c.args.input.now (omega arith) (omega arith) (omega (arith, w, c.if-sheets-gt64.false)) (omega (arith, w, c.if-n-start.true)))) c.refused_by-then-n-start.ensures.put; upper_bound = c.refused_by-then-n-start.ensures.upper_bound }

pub slice_bounds-batch-end-2 : goal.slice_bounds-batch-end-2
slice_bounds-batch-end-2 c = sym (length-take-le _ _ (omega (arith, c.numbers_from.auto.s, c.if-sheets-gt64.false, length-replicate {A = ℕ} 64 0)))

pub returns : goal.returns
returns c = let i = c.args.input.now in
    let w = c.word_at-sheets.ensures in
    let n = c.word_at-sheets.result in
    let m = c.if-sheets-gt64.false in
    let l = c.if-n-start.false in
    record { put = rw (← (by-sheets i (omega arith) (omega arith) (omega (arith, w, m)) (omega (arith, w, l)) n _ _ w (rest i (4 + 4 * n)) (lengths-are c.before.before.before.before.before.before.before.before))) c.batch.ensures.put; upper_bound = c.batch.ensures.upper_bound }
