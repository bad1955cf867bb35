use mathlib.Core.Path.{refl}
use Rattle.looks.proofs.Found.{face-is}
use Rattle.looks.proofs.face.Goals as goal

pub returns : goal.returns
returns c = let a = c.args in
    rw (c.bare.ensures, c.decode.ensures, c.decode-2.ensures, c.decode-3.ensures)
    (face-is a.words.now a.at a.n c.requires.0.room a.f.0 c.requires.1 _ _ _ _ _ _ refl refl refl c.across.ensures c.across-2.ensures c.across-3.ensures)
