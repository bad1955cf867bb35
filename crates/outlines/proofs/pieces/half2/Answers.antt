use Rattle.rules.specs.Mesh.{backward, restart}
use mathlib.Core.Path.{ap, ◌∙◌}
use Rattle.outlines.proofs.pieces.half2.Goals as goal

pub returns : goal.returns
returns c = c.backward.ensures ∙ ap backward (c.half1.ensures ∙ ap restart c.onward.ensures)
