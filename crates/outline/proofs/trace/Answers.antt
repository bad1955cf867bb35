use mathlib.Core.Path.{sym, ◌∙◌}
use Rattle.reader.proofs.Read.{read, none-is-bad}
use Rattle.outline.proofs.Inputs.{over, no-sheet, by-sheet}
use borrow.Author.Rules.{rules}
use Rattle.outline.proofs.trace.Goals as goal

pub returns-then-bytes-gt32768 : goal.returns-then-bytes-gt32768
returns-then-bytes-gt32768 c = let r = c.refused_by.ensures in
    record { put = rw (← (over c.args.bytes.now c.if-bytes-gt32768.true)) r.put; upper_bound = r.upper_bound }

pub lists-requires : goal.lists-requires
lists-requires c = (c.if-bytes-gt32768.false, sym c.in-Some.ensures, c.requires)

pub returns-in-None : goal.returns-in-None
returns-in-None c = let r = c.refused_by-in-None.ensures in
    record { put = rw (← (no-sheet c.args.bytes.now c.if-bytes-gt32768.false (none-is-bad _ (sym c.in-None.ensures)))) r.put; upper_bound = r.upper_bound }

pub returns-in-Some : goal.returns-in-Some
returns-in-Some c = let r = c.lists.ensures in
    record { put = rw (← (by-sheet c.args.bytes.now c.if-bytes-gt32768.false (read _ _ (sym c.in-Some.ensures)).good)) r.put; upper_bound = r.upper_bound }
