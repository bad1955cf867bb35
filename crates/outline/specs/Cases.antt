-- The sheet of T at level 1, and the whole text that `outline` writes for it.
use Rattle.std.specs.Prelude.{◌≡◌, refl, ℕ, List, [], ◌∷◌, ◌++◌}
use Rattle.whole.specs.Whole.{nearest}
use Rattle.rules.specs.Mesh.{links, fan, refined, cage}
use Rattle.rules.specs.Levels.{levels, finer, new_positions, limits, moved, positions}
use Rattle.rules.specs.Refusals.{refusal, shape_refusal, range_refusal, list_refusal, fan_refusal, size_refusal}
use Rattle.rules.specs.Answers.{outcome}
use Rattle.rules.specs.Sheets.{vertex_block, face_block}
use Rattle.lists.specs.Lists.{rows}
use Rattle.listing.specs.Text.{decimal, numeral, signed_numeral, vertex_line, refused_text}
use Rattle.outlines.specs.Loops.{around, outlines, outline_outcome}
use Rattle.outline.specs.Output.{outlines_line, loop_line, loop_text, cage_text, outline_text}

-- a number below 256, in four bytes
abbrev word : ℕ → List ℕ
word n = n ∷ 0 ∷ 0 ∷ 0 ∷ []

abbrev T-sheet : List ℕ
T-sheet =
    word 0 ++ word 0 ++ word 0 ++ word 8 ++ word 0 ++ word 0 ++ word 0 ++ word 8 ++ word 0
    ++ word 0 ++ word 1 ++ word 2
    ++ word 0 ++ word 3 ++ word 36 ++ word 1 ++ word 1

-- a point with coordinates of one digit each, as their characters
abbrev point : ℕ → ℕ → List ℕ
point x y = 118 ∷ 32 ∷ x ∷ 32 ∷ y ∷ 32 ∷ 48 ∷ 10 ∷ []

-- "outlines 1 6", "loop 6", and six points
pub T-outline : outline_text T-sheet
    ≡ (111 ∷ 117 ∷ 116 ∷ 108 ∷ 105 ∷ 110 ∷ 101 ∷ 115 ∷ 32 ∷ 49 ∷ 32 ∷ 54 ∷ 10 ∷ []) ++ (108 ∷ 111 ∷ 111 ∷ 112 ∷ 32 ∷ 54 ∷ 10 ∷ [])
    ++ point 49 49 ++ point 52 48 ++ point 53 49 ++ point 52 52 ++ point 49 53 ++ point 48 52
unfolding rows nearest links fan refined cage moved new_positions limits finer levels positions shape_refusal range_refusal list_refusal fan_refusal size_refusal refusal outcome vertex_block face_block around outlines outline_outcome decimal numeral signed_numeral vertex_line refused_text outlines_line loop_line loop_text cage_text outline_text
T-outline = refl
