use mathlib.Core.Path.{ap, ap₂, ◌∙◌}
use Prim.Native.Nat.{ℕ, ◌+◌}
use lib.ListN.{get_or}
use Rattle.faces.specs.Faces.{other_vert_of}
use Rattle.faces.specs.Rings.{vert}
use Rattle.faces.specs.declared.face.Face.{Face}
use Rattle.looks.specs.Looked.{number_of}
use Rattle.looks.proofs.Walks.{other-vert-is}
use Rattle.looks.proofs.rings.far_of.Goals as goal

pub returns : goal.returns
returns c = let a = c.args in
    let v = vert (get_or a.words.now (a.at + a.s) 0) in
    c.number_of.ensures
    ∙ ap number_of (c.other_vert.ensures
    ∙ ap₂ (λ (f : Face) (z : ℕ). other_vert_of f v (vert (get_or a.words.now (a.at + z) 0))) c.bare.ensures c.onward.ensures
    ∙ other-vert-is a.words.now a.at a.nf c.requires.0 a.s c.requires.1)
