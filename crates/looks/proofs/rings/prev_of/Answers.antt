use mathlib.Core.Path.{ap, ◌∙◌}
use Prim.Native.Nat.{◌+◌}
use lib.ListN.{get_or}
use Rattle.faces.specs.Faces.{prev_vert_of}
use Rattle.faces.specs.Rings.{vert}
use Rattle.faces.specs.declared.face.Face.{Face}
use Rattle.looks.specs.Looked.{number_of}
use Rattle.looks.proofs.Walks.{prev-vert-is}
use Rattle.looks.proofs.rings.prev_of.Goals as goal

pub returns : goal.returns
returns c = let a = c.args in
    let v = vert (get_or a.words.now (a.at + a.s) 0) in
    c.number_of.ensures
    ∙ ap number_of (c.prev_vert.ensures ∙ ap (λ (f : Face). prev_vert_of f v) c.bare.ensures
    ∙ prev-vert-is a.words.now a.at a.nf c.requires.0 a.s c.requires.1)
