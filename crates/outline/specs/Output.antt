-- What `outline` writes for a sheet: how many loops and points; then of each loop its length and its points, in order along the rim.
use Rattle.std.specs.Prelude.{ℕ, ◌-◌, ◌<◌, ◌≢◌, List, [], ◌∷◌, ◌++◌, ltb, eqb, ℤ, length, Err, Ok}
use Rattle.lists.specs.Lists.{pick, gather}
use Rattle.rules.specs.Position.{whole}
use Rattle.rules.specs.Levels.{last, positions}
use Rattle.rules.specs.Sheets.{bad_sheet, sheet_levels, sheet_indices, sheet_coords, cut_rooms, most_input}
use Rattle.rules.specs.Outcome.{Outcome}
use Rattle.outlines.specs.Loops.{outline_of, loops_of, outline_outcome}
use Rattle.outlines.specs.declared.Outline.{Outline}
use Rattle.listing.specs.Text.{numeral, spaced, vertex_line, refused_text}

-- "outlines", loops and points
unfoldable pub outlines_line : Outline → List ℕ
outlines_line o = (111 ∷ 117 ∷ 116 ∷ 108 ∷ 105 ∷ 110 ∷ 101 ∷ 115 ∷ []) ++ (spaced (numeral o.loops) ++ (spaced (numeral o.listed) ++ (10 ∷ [])))

-- "loop" and its length, and its points
unfoldable pub loop_line : ℕ → List ℕ
loop_line n = (108 ∷ 111 ∷ 111 ∷ 112 ∷ []) ++ (spaced (numeral n) ++ (10 ∷ []))

unfoldable pub loop_text : List ℤ → List ℕ → List ℕ
loop_text ps r = loop_line (length r) ++ gather (vertex_line ps) r

abbrev pub traced_text : Outcome → List ℤ → List (List ℕ) → List ℕ
traced_text (Ok c) ps rs = outlines_line (outline_of rs) ++ gather (loop_text ps) rs
traced_text (Err r) ps rs = refused_text r

-- ---- of a cage, in room for 512 faces and 512 vertices, as `platecut` has it, and for 512 vertices in 170 loops

abbrev pub list_room : ℕ
list_room = 682

unfoldable pub cage_text : ℕ → List ℕ → List ℤ → List ℕ
cage_text l fs xs = traced_text (outline_outcome cut_rooms list_room l fs xs) (positions whole (last whole l fs xs)) (loops_of l fs xs)

-- ---- of an input: 16, 15, then the lists of the sheet

abbrev pub refused_by : ℕ → List ℕ
refused_by n = refused_text (record { number = n; place = 0 })

unfoldable pub outline_text : List ℕ → List ℕ
outline_text b =
    let sheet = cage_text (sheet_levels b) (sheet_indices b) (sheet_coords b) in
    pick (ltb most_input (length b)) (refused_by 16) (pick (bad_sheet b) (refused_by 15) sheet)

-- ---- entry by entry: where nothing is left of the loop before it an entry is a length, else a vertex

abbrev pub entry_text : List ℤ → ℕ → ℕ → List ℕ
entry_text ps left e = pick (eqb left 0) (loop_line e) (vertex_line ps e)

abbrev pub left_after : ℕ → ℕ → ℕ
left_after left e = pick (eqb left 0) e (left - 1)

unfoldable pub entry_texts : List ℤ → ℕ → List ℕ → List ℕ
entry_texts ps left [] = []
entry_texts ps left (e ∷ es) = entry_text ps left e ++ entry_texts ps (left_after left e) es

-- each vertex among them is below v
pub data Vertices (v : ℕ) : ℕ → List ℕ → Type 0 where
  done : {left : ℕ} → Vertices v left []
  next : {left e : ℕ} {es : List ℕ} → (left ≢ 0 → e < v) → Vertices v (left_after left e) es → Vertices v left (e ∷ es)
