use Prim.Native.Nat.{◌+◌, ◌-◌}
use mathlib.Core.Path.{sym}
use native.Mathlib.Omega.{arith}
use lib.ListN.{take, drop}
use Rattle.reader.proofs.Read.{read, none-is-bad, both-long}
use Rattle.claimcheck.specs.Output.{sheet_in, refused, judged}
use Rattle.claimcheck.proofs.Laws.{short, early-none, early-long, early-cut, early-bad, early-good, sheet-part, listing-part}
use Rattle.claimcheck.proofs.checked.Goals as goal

pub returns-then-n-lt8 : goal.returns-then-n-lt8
returns-then-n-lt8 c = record { spoken = refused 15 (early-none _ c.if-n-lt8.true) c.refused_by.ensures.put; upper_bound = c.refused_by.ensures.upper_bound }

pub returns-then-long-gt32768 : goal.returns-then-long-gt32768
returns-then-long-gt32768 c = record { spoken = refused 16 (early-long _ _ c.word_at-long.ensures c.if-n-lt8.false c.if-long-gt32768.true) c.refused_by-then-long-gt32768.ensures.put; upper_bound = c.refused_by-then-long-gt32768.ensures.upper_bound }

pub returns-then-n-end : goal.returns-then-n-end
returns-then-n-end c = record { spoken = refused 15 (early-cut _ _ c.word_at-long.ensures c.if-n-lt8.false c.if-long-gt32768.false c.if-n-end.true) c.refused_by-then-n-end.ensures.put; upper_bound = c.refused_by-then-n-end.ensures.upper_bound }

pub judge-requires : goal.judge-requires
judge-requires c = let b = take (8 + c.word_at-long.result - 8) (drop 8 c.args.input.now) in
    let e = sym c.in-Some.ensures in
    let g = both-long b _ e in
    let s = short (8 + c.word_at-long.result - 8) (drop 8 c.args.input.now) in
    let h = c.if-long-gt32768.false in
    record { sheet = (omega (arith, g, s, h), omega (arith, g, s, h), e); room = c.requires }

pub returns-in-None : goal.returns-in-None
returns-in-None c = let i = c.args.input.now in
    let b = none-is-bad (sheet_in i) (rw (sheet-part i c.word_at-long.result c.word_at-long.ensures) at (sym c.in-None.ensures)) in
    record { spoken = refused 15 (early-bad i c.word_at-long.result c.word_at-long.ensures c.if-n-lt8.false c.if-long-gt32768.false c.if-n-end.false b) c.refused_by-in-None.ensures.put; upper_bound = c.refused_by-in-None.ensures.upper_bound }

pub returns-in-Some : goal.returns-in-Some
returns-in-Some c = let i = c.args.input.now in
    let p = sheet-part i c.word_at-long.result c.word_at-long.ensures in
    let r = read _ _ (rw p at (sym c.in-Some.ensures)) in record {
      spoken = judged (early-good i c.word_at-long.result c.word_at-long.ensures c.if-n-lt8.false c.if-long-gt32768.false c.if-n-end.false r.good)
          (rw (c.word_at-t.ensures, p, listing-part i c.word_at-long.result c.word_at-long.ensures) at c.judge.ensures.judged);
      upper_bound = c.judge.ensures.upper_bound;
    }
