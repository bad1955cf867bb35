use Rattle.alphabet.proofs.Parts.{one_of}
use Rattle.alphabet.proofs.one.Goals as goal

pub returns : goal.returns
returns c = one_of _ _ _ _ _ _ _ _ _ _ _ _ c.subdivide_sheet.ensures
