-- Request [9]: the lists of small cages, worked out by hand.
use Rattle.std.specs.Prelude.{◌≡◌, refl, List, [], ◌∷◌, map, ℕ}
use Rattle.rules.specs.Mesh.{links, refined, cage, fan, Mesh}
use Rattle.rules.specs.Cases.{T-faces, H-faces}
use Rattle.outlines.specs.Loops.{around, outlines, listing}

finer : Mesh → Mesh
finer m = refined m (links m.faces)

abbrev ring6 : List ℕ
ring6 = 4 ∷ 1 ∷ 0 ∷ 4 ∷ 5 ∷ 1 ∷ 5 ∷ 2 ∷ 1 ∷ 5 ∷ 3 ∷ 2 ∷ 3 ∷ 0 ∷ 2 ∷ 3 ∷ 4 ∷ 0 ∷ []

abbrev two : List ℕ
two = 5 ∷ 0 ∷ 3 ∷ 1 ∷ 4 ∷ 2 ∷ []

abbrev quad : List ℕ
quad = 0 ∷ 1 ∷ 2 ∷ 0 ∷ 2 ∷ 3 ∷ []

abbrev three : List ℕ
three = 6 ∷ 7 ∷ 8 ∷ 3 ∷ 4 ∷ 5 ∷ 2 ∷ 0 ∷ 1 ∷ []

record Case : Type 0 where
  got : List ℕ
  wanted : List ℕ

abbrev at : Mesh → List ℕ → Case
at m w = record { got = listing (outlines m); wanted = w }

-- T: one loop, also after one level and two; H: closed; two triangles; a band of six faces with two rims; two faces with a side in common; three triangles
abbrev table : List Case
table =
    at (cage 3 T-faces) (3 ∷ 0 ∷ 1 ∷ 2 ∷ [])
    ∷ at (finer (cage 3 T-faces)) (6 ∷ 0 ∷ 3 ∷ 1 ∷ 4 ∷ 2 ∷ 5 ∷ [])
    ∷ at (finer (finer (cage 3 T-faces))) (12 ∷ 0 ∷ 6 ∷ 3 ∷ 9 ∷ 1 ∷ 10 ∷ 4 ∷ 13 ∷ 2 ∷ 14 ∷ 5 ∷ 8 ∷ [])
    ∷ at (cage 4 H-faces) []
    ∷ at (finer (cage 4 H-faces)) []
    ∷ at (cage 0 []) []
    ∷ at (cage 6 two) (3 ∷ 0 ∷ 3 ∷ 5 ∷ 3 ∷ 1 ∷ 4 ∷ 2 ∷ [])
    ∷ at (finer (cage 6 two)) (6 ∷ 0 ∷ 7 ∷ 3 ∷ 8 ∷ 5 ∷ 6 ∷ 6 ∷ 1 ∷ 9 ∷ 4 ∷ 10 ∷ 2 ∷ 11 ∷ [])
    ∷ at (cage 6 ring6) (3 ∷ 0 ∷ 2 ∷ 1 ∷ 3 ∷ 3 ∷ 4 ∷ 5 ∷ [])
    ∷ at (finer (cage 6 ring6)) (6 ∷ 0 ∷ 16 ∷ 2 ∷ 12 ∷ 1 ∷ 7 ∷ 6 ∷ 3 ∷ 17 ∷ 4 ∷ 9 ∷ 5 ∷ 13 ∷ [])
    ∷ at (finer (cage 4 quad)) (8 ∷ 0 ∷ 4 ∷ 1 ∷ 5 ∷ 2 ∷ 7 ∷ 3 ∷ 8 ∷ [])
    ∷ at (cage 9 three) (3 ∷ 0 ∷ 1 ∷ 2 ∷ 3 ∷ 3 ∷ 4 ∷ 5 ∷ 3 ∷ 6 ∷ 7 ∷ 8 ∷ [])
    ∷ []

lists-hold : map (λ c. c.got) table ≡ map (λ c. c.wanted) table
unfolding links fan refined cage around outlines finer
lists-hold = refl
