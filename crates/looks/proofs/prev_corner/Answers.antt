use mathlib.Core.Path.{sym, ◌∙◌}
use Rattle.looks.proofs.Corners.{prev-within, prev-stands}
use Rattle.looks.proofs.prev_corner.Goals as goal

pub step_across-requires : goal.step_across-requires
step_across-requires c = let a = c.args in
    prev-within a.words.now a.at a.n c.requires.listed.0 c.requires.apart a.home a.s c.requires.listed.1 c.face-f.result c.face-f.ensures c.prev_face.result (sym c.prev_face.ensures)

pub returns : goal.returns
returns c = let a = c.args in
    c.step_across.ensures ∙ prev-stands a.words.now a.at a.n c.requires.listed.0 c.requires.apart a.home a.s c.requires.listed.1 c.face-f.result c.face-f.ensures c.prev_face.result (sym c.prev_face.ensures)
