use borrow.Author.Tests.{lt-ltb, le-ltb, eq-eqb, ne_eqb}
use mathlib.Core.Path.{sym, ◌∙◌}
use Rattle.reader.proofs.Laws.{first_word}
use Rattle.reader.specs.Reading.{sheet_of}
use Rattle.reader.proofs.read_sheet.Goals as goal

pub returns-then-n-lt20 : goal.returns-then-n-lt20
unfolding sheet_of
returns-then-n-lt20 c = simp (lt-ltb _ _ c.if-n-lt20.true)

pub returns-then-word_at-ne0 : goal.returns-then-word_at-ne0
unfolding sheet_of
returns-then-word_at-ne0 c = simp (le-ltb _ _ c.if-n-lt20.false, ne_eqb _ _ (λ e. c.if-word_at-ne0.true (c.word_at.ensures ∙ first_word c.args.b.now ∙ e)))

pub returns-then-word_at-vertices : goal.returns-then-word_at-vertices
unfolding sheet_of
returns-then-word_at-vertices c = let v = c.word_at-vertices.ensures in
    simp (le-ltb _ _ c.if-n-lt20.false, eq-eqb _ _ (sym (first_word c.args.b.now) ∙ sym c.word_at.ensures ∙ c.if-word_at-ne0.false), ← v, ← c.word_at-2.ensures, ne_eqb _ _ c.if-word_at-vertices.true)

pub returns-then-n-vertices : goal.returns-then-n-vertices
unfolding sheet_of
returns-then-n-vertices c = simp (le-ltb _ _ c.if-n-lt20.false, eq-eqb _ _ (sym (first_word c.args.b.now) ∙ sym c.word_at.ensures ∙ c.if-word_at-ne0.false), ← c.word_at-vertices.ensures, ← c.word_at-2.ensures, eq-eqb _ _ c.if-word_at-vertices.false, ← c.word_at-faces.ensures, ne_eqb _ _ c.if-n-vertices.true)

pub returns : goal.returns
unfolding sheet_of
returns c = simp (le-ltb _ _ c.if-n-lt20.false, eq-eqb _ _ (sym (first_word c.args.b.now) ∙ sym c.word_at.ensures ∙ c.if-word_at-ne0.false), ← c.word_at-vertices.ensures, ← c.word_at-2.ensures, eq-eqb _ _ c.if-word_at-vertices.false, ← c.word_at-faces.ensures, eq-eqb _ _ c.if-n-vertices.false, ← c.word_at-3.ensures)
