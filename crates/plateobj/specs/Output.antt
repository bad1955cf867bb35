-- What `plateobj` writes for an input.
use Rattle.std.specs.Prelude.{ℕ, List, ltb, ℤ, length, Err, Ok}
use Rattle.rules.specs.Position.{whole}
use Rattle.rules.specs.Levels.{positions}
use Rattle.rules.specs.Refusals.{check, when, Room}
use Rattle.rules.specs.Answers.{whole_rooms, unless}
use Rattle.rules.specs.Sheets.{sheet_outcome}
use Rattle.rules.specs.Calls.{sheet_last}
use Rattle.rules.specs.declared.Counts.{Counts}
use Rattle.rules.specs.Outcome.{Outcome}
use Rattle.listing.specs.Text.{refused_text}
use Rattle.obj.specs.Form.{obj_text}

-- room for 32,768 faces and 32,768 vertices: for every plate
abbrev pub plate_rooms : Counts → List Room
plate_rooms = whole_rooms 98304 98304 786432 196608

-- the sheet of 4,096 vertices and 4,096 faces
abbrev pub most_sheet : ℕ
most_sheet = 98324

unfoldable pub plate_outcome : List ℕ → Outcome
plate_outcome b =
    let o = sheet_outcome plate_rooms b in
    unless (check 16 (when (ltb most_sheet (length b)))) o

-- the text of the plate, or of the refusal
abbrev pub text_or : Outcome → List ℤ → List ℕ → List ℕ
text_or (Ok c) xs fs = obj_text xs fs
text_or (Err r) xs fs = refused_text r

unfoldable pub text_for : Outcome → List ℕ → List ℕ
text_for o b = text_or o (positions whole (sheet_last b)) (sheet_last b).mesh.faces

-- of an input that is not over the most
abbrev pub plate_text : List ℕ → List ℕ
plate_text b = text_for (sheet_outcome plate_rooms b) b

abbrev pub obj_output : List ℕ → List ℕ
obj_output b = text_for (plate_outcome b) b
