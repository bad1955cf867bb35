-- What the reader answers of a sheet's trailer, in the terms of docs/RULES.md.
use Rattle.std.specs.Prelude.{ℕ, List, Option, None, Some}
use Rattle.lists.specs.Lists.{pick}
use Rattle.rules.specs.Sheets.{bad_sheet, sheet_verts, sheet_faces, sheet_levels}
use Rattle.reader.specs.declared.Sheet.{Sheet}

-- none where 15 refuses it; else V, F and the levels
unfoldable pub sheet_of : List ℕ → Option Sheet
sheet_of b = pick (bad_sheet b) None (Some (record { vertices = sheet_verts b; faces = sheet_faces b; levels = sheet_levels b }))

-- its number: 15, or 0 where it is a sheet
abbrev pub sheet_number : Option Sheet → ℕ
sheet_number (Some s) = 0
sheet_number None = 15
