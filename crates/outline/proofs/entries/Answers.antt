use native.Mathlib.Omega.{arith}
use lib.ListN.{length}
use borrow.Author.Rules.{rules}
use Rattle.outline.proofs.Lines.{along-first, vertex-here, along-more, along-last}
use Rattle.outline.proofs.entries.Goals as goal

pub loop-e-init : goal.loop-e-init
loop-e-init c = along-first _ _ _ _ _ c.requires.vertices.0

pub entry-at-requires : goal.entry-at-requires
entry-at-requires c = let l = c.loop-e in
    let p = c.requires in
    record { room = omega (arith, l.invariant.small, l.invariant.long, p.room); vertex = λ z. omega (arith, vertex-here _ _ _ _ _ _ _ _ _ l.invariant (omega arith) z, p.vertices.1) }

pub loop-e-preserved : goal.loop-e-preserved
loop-e-preserved c = let l = c.loop-e in
    rw c.left_after-left.ensures (along-more _ _ _ _ _ _ _ _ _ l.invariant (omega arith) _ _ c.entry-at.ensures.upper_bound c.entry-at.auto.text c.entry-at.ensures.put)

pub shape_of-text : goal.shape_of-text
shape_of-text c = c.loop-e.invariant.long

pub returns : goal.returns
returns c = let l = c.loop-e in
    record { put = along-last _ _ _ _ _ _ _ _ _ l.invariant (omega (arith, l.invariant.few)); upper_bound = omega (arith, l.invariant.small) }
