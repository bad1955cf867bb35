-- What `platecut` and `plaincut` write for an input.
use Rattle.std.specs.Prelude.{ℕ, List}
use Rattle.rules.specs.Position.{whole}
use Rattle.rules.specs.Levels.{positions}
use Rattle.rules.specs.Sheets.{cut_rooms, sheet_outcome, cut_outcome}
use Rattle.rules.specs.Outcome.{Outcome}
use Rattle.rules.specs.Calls.{sheet_last}
use Rattle.listing.specs.Text.{text_of}

-- the text of an outcome, over the lists of the sheet's last level
unfoldable pub text_for : Outcome → List ℕ → List ℕ
text_for o b = text_of o (positions whole (sheet_last b)) (sheet_last b).mesh.faces

-- of an input that is not over 32,768 bytes
abbrev pub plate_text : List ℕ → List ℕ
plate_text b = text_for (sheet_outcome cut_rooms b) b

abbrev pub cut_text : List ℕ → List ℕ
cut_text b = text_for (cut_outcome b) b
