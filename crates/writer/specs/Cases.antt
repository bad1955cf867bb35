-- T's sheet at level 1 and the least and largest coordinates, byte for byte; what three lists that do not go are answered.
use Rattle.std.specs.Prelude.{ℕ, ◌≡◌, refl, List, [], ◌∷◌, ◌++◌, map, ℤ, pos, negsuc}
use Rattle.lists.specs.Lists.{gather, rows}
use Rattle.rules.specs.Mesh.{links, fan, cage}
use Rattle.rules.specs.Refusals.{shape_refusal, range_refusal, list_refusal, fan_refusal, mesh_refusal}
use Rattle.rules.specs.Sheets.{bytes_of, unsigned, sheet_bytes}
use Rattle.rules.specs.declared.Refusal.{Refusal}
use Rattle.std.specs.Prelude.{Result}
use Rattle.std.specs.Prelude.{Ok, Err}
use Rattle.writer.specs.Writing.{write_refusal, written_of}

-- a number below 256, in four bytes
abbrev word : ℕ → List ℕ
word n = n ∷ 0 ∷ 0 ∷ 0 ∷ []

abbrev T-points : List ℤ
T-points = pos 0 ∷ pos 0 ∷ pos 0 ∷ pos 8 ∷ pos 0 ∷ pos 0 ∷ pos 0 ∷ pos 8 ∷ pos 0 ∷ []

pub T-sheet : sheet_bytes 1 (0 ∷ 1 ∷ 2 ∷ []) T-points ≡
    word 0 ++ word 0 ++ word 0 ++ word 8 ++ word 0 ++ word 0 ++ word 0 ++ word 8 ++ word 0
    ++ word 0 ++ word 1 ++ word 2
    ++ word 0 ++ word 3 ++ word 36 ++ word 1 ++ word 1
unfolding sheet_bytes
T-sheet = refl

pub signs : gather bytes_of (map unsigned (negsuc 0 ∷ negsuc 999999999 ∷ pos 1000000000 ∷ [])) ≡ 255 ∷ 255 ∷ 255 ∷ 255 ∷ 0 ∷ 54 ∷ 101 ∷ 196 ∷ 0 ∷ 202 ∷ 154 ∷ 59 ∷ []
signs = refl

abbrev refused : ℕ → ℕ → Result ℕ Refusal
refused n p = Err (record { number = n; place = p })

abbrev nine : List ℕ
nine = 0 ∷ 1 ∷ 2 ∷ 3 ∷ 4 ∷ 5 ∷ 6 ∷ 7 ∷ 8 ∷ []

-- exactly full and one byte short; the empty cage; three separate triangles at level 7, which 13 would refuse; 9 before 17
pub answers :
    (written_of 68 1 (0 ∷ 1 ∷ 2 ∷ []) T-points) ∷ (written_of 67 1 (0 ∷ 1 ∷ 2 ∷ []) T-points) ∷ (written_of 20 0 [] []) ∷ (written_of 19 0 [] [])
    ∷ (written_of 164 7 nine (T-points ++ T-points ++ T-points)) ∷ (written_of 0 0 (0 ∷ 1 ∷ 2 ∷ []) (T-points ++ (pos 0 ∷ pos 0 ∷ pos 0 ∷ []))) ∷ []
    ≡ Ok 68 ∷ refused 17 0 ∷ Ok 20 ∷ refused 17 0 ∷ Ok 164 ∷ refused 9 3 ∷ []
unfolding rows links fan cage shape_refusal range_refusal list_refusal fan_refusal mesh_refusal sheet_bytes write_refusal written_of
answers = refl
