use mathlib.Core.Path.{refl}
use borrow.Author.Tests.{lt-ltb, le-ltb}
use Rattle.outlines.proofs.pieces.rest.Goals as goal

pub returns-then-j-h : goal.returns-then-j-h
returns-then-j-h c = rw (lt-ltb _ _ c.if-j-h.true) refl

pub returns-else-j-h : goal.returns-else-j-h
returns-else-j-h c = rw (le-ltb _ _ c.if-j-h.false) refl
