use mathlib.Core.Path.{sym, ◌∙◌}
use Rattle.obj.proofs.Lines.{part-vertex, part-face, many-vertices, many-faces, out_of_range, by-corners}
use Rattle.obj.proofs.writing.objable.Goals as goal

pub returns-then-coords-ne0 : goal.returns-then-coords-ne0
returns-then-coords-ne0 c = part-vertex _ _ c.if-coords-ne0.true

pub returns-then-corners-ne0 : goal.returns-then-corners-ne0
returns-then-corners-ne0 c = part-face _ _ c.if-coords-ne0.false c.if-corners-ne0.true

pub returns-then-coords-gt32768 : goal.returns-then-coords-gt32768
returns-then-coords-gt32768 c = many-vertices _ _ c.if-coords-ne0.false c.if-corners-ne0.false c.if-coords-gt32768.true

pub returns-then-corners-gt32768 : goal.returns-then-corners-gt32768
returns-then-corners-gt32768 c = many-faces _ _ c.if-coords-ne0.false c.if-corners-ne0.false c.if-coords-gt32768.false c.if-corners-gt32768.true

pub returns-then-not-all_in_range : goal.returns-then-not-all_in_range
returns-then-not-all_in_range c = out_of_range _ _ c.if-coords-ne0.false c.if-corners-ne0.false c.if-coords-gt32768.false c.if-corners-gt32768.false (sym c.all_in_range.ensures ∙ c.if-not-all_in_range.true)

pub returns : goal.returns
returns c = c.all_below.ensures ∙ by-corners _ _ c.if-coords-ne0.false c.if-corners-ne0.false c.if-coords-gt32768.false c.if-corners-gt32768.false (sym c.all_in_range.ensures ∙ c.if-not-all_in_range.false)
