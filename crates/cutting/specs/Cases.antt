-- The sheet of T at level 1, byte for byte, and the whole text that both programs write for it.
use Rattle.std.specs.Prelude.{◌≡◌, refl, ℕ, List, [], ◌∷◌, ◌++◌}
use Rattle.lists.specs.Lists.{rows}
use Rattle.whole.specs.Whole.{nearest}
use Rattle.rules.specs.Mesh.{links, fan, refined, cage}
use Rattle.rules.specs.Levels.{levels, finer, new_positions, limits, moved, positions}
use Rattle.rules.specs.Refusals.{refusal, shape_refusal, range_refusal, list_refusal, fan_refusal, size_refusal}
use Rattle.rules.specs.Answers.{outcome}
use Rattle.rules.specs.Sheets.{vertex_block, face_block, sheet_outcome, cut_outcome}
use Rattle.listing.specs.Text.{decimal, numeral, signed_numeral, mesh_line, vertex_line, face_line, mesh_text, refused_text}
use Rattle.listing.specs.Cases.{T-text}
use Rattle.cutting.specs.Output.{text_for, cut_text}

-- a number below 256, in four bytes
abbrev word : ℕ → List ℕ
word n = n ∷ 0 ∷ 0 ∷ 0 ∷ []

abbrev T-sheet : List ℕ
T-sheet =
    word 0 ++ word 0 ++ word 0 ++ word 8 ++ word 0 ++ word 0 ++ word 0 ++ word 8 ++ word 0
    ++ word 0 ++ word 1 ++ word 2
    ++ word 0 ++ word 3 ++ word 36 ++ word 1 ++ word 1

pub T-cut : cut_text T-sheet ≡ T-text
unfolding rows nearest links fan refined cage moved new_positions limits finer levels positions shape_refusal range_refusal list_refusal fan_refusal size_refusal refusal outcome vertex_block face_block sheet_outcome cut_outcome decimal numeral signed_numeral mesh_line vertex_line face_line mesh_text refused_text text_for
T-cut = refl
