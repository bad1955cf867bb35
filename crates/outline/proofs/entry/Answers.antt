use native.Mathlib.Omega.{arith}
use borrow.Author.Rules.{rules}
use borrow.Author.Tests.{eq-eqb, ne_eqb}
use Rattle.outline.proofs.entry.Goals as goal

pub returns-then-left-eq0 : goal.returns-then-left-eq0
returns-then-left-eq0 c = let r = c.loop_line.ensures in
    record { put = rw (eq-eqb _ _ c.if-left-eq0.true) r.put; upper_bound = omega (arith, r.upper_bound) }

pub vertex_line-requires : goal.vertex_line-requires
vertex_line-requires c = let p = c.requires in
    (p.room, p.vertex c.if-left-eq0.false)

pub returns : goal.returns
returns c = let r = c.vertex_line.ensures in
    record { put = rw (ne_eqb _ _ c.if-left-eq0.false) r.put; upper_bound = r.upper_bound }
