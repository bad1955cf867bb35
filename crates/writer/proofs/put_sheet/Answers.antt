use mathlib.Core.Path.{◌∙◌}
use mathlib.Core.List.{map-id}
use Rattle.writer.proofs.Puts.{sheet-put}
use Rattle.writer.proofs.put_sheet.Goals as goal

pub returns : goal.returns
returns c = let a = c.args in
    c.put_trailer.ensures
    ∙ rw (c.put_numbers-2.ensures, c.put_numbers.ensures, map-id) (sheet-put a.levels a.indices.now a.coords.now a.bytes.now)
