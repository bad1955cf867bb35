use borrow.Author.Rules.{rules}
use Rattle.plates.proofs.plates_subdivide_sheet.Goals as goal

pub returns : goal.returns
returns c = record { outcome = _; kept = c.subdivide_sheet.ensures; five = c.tell.ensures }
