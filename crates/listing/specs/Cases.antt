-- The texts of docs/RULES.md, from the definitions.
use Rattle.std.specs.Prelude.{◌≡◌, refl, List, [], ◌∷◌, ◌++◌, map, ℕ, pos, negsuc}
use Rattle.lists.specs.Lists.{rows}
use Rattle.rules.specs.Cases.{zs}
use Rattle.listing.specs.Text.{decimal, numeral, signed_numeral, mesh_line, vertex_line, face_line, mesh_text, refused_text}

-- T at level 1: the letter, then digits as numbers, a space before each, a line feed
abbrev row : ℕ → ℕ → ℕ → ℕ → List ℕ
row w x y z = w ∷ 32 ∷ x ∷ 32 ∷ y ∷ 32 ∷ z ∷ 10 ∷ []

abbrev pub T-text : List ℕ
T-text =
    109 ∷ 101 ∷ 115 ∷ (row 104 54 52 54
    ++ row 118 49 49 48 ++ row 118 53 49 48 ++ row 118 49 53 48 ++ row 118 52 48 48 ++ row 118 52 52 48 ++ row 118 48 52 48
    ++ row 102 48 51 53 ++ row 102 51 49 52 ++ row 102 53 52 50 ++ row 102 51 52 53)

pub T-listing : mesh_text (record { vertices = 6; faces = 4; rims = 6 })
    (zs (1 ∷ 1 ∷ 0 ∷ 5 ∷ 1 ∷ 0 ∷ 1 ∷ 5 ∷ 0 ∷ 4 ∷ 0 ∷ 0 ∷ 4 ∷ 4 ∷ 0 ∷ 0 ∷ 4 ∷ 0 ∷ []))
    (0 ∷ 3 ∷ 5 ∷ 3 ∷ 1 ∷ 4 ∷ 5 ∷ 4 ∷ 2 ∷ 3 ∷ 4 ∷ 5 ∷ []) ≡ T-text
unfolding rows decimal numeral signed_numeral mesh_line vertex_line face_line mesh_text
T-listing = refl

-- "refused 9 at 3"
pub refused-9-at-3 : refused_text (record { number = 9; place = 3 }) ≡ 114 ∷ 101 ∷ 102 ∷ 117 ∷ 115 ∷ 101 ∷ 100 ∷ 32 ∷ 57 ∷ 32 ∷ 97 ∷ 116 ∷ 32 ∷ 51 ∷ 10 ∷ []
unfolding decimal numeral refused_text
refused-9-at-3 = refl

-- "-120", and "0"
pub signs : signed_numeral (negsuc 119) ++ signed_numeral (pos 0) ≡ 45 ∷ 49 ∷ 50 ∷ 48 ∷ 48 ∷ []
unfolding decimal numeral signed_numeral
signs = refl
