-- What the table of request 6 is made of; its cases, worked out by hand, are proofs/SharpCases.antt.
use Rattle.std.specs.Prelude.{ℕ, List, [], ◌∷◌, ℤ, pos, negsuc}
use Rattle.rules.specs.Position.{whole}
use Rattle.rules.specs.Answers.{answer}
use Rattle.rules.specs.Cases.{zs, ample}
use Rattle.rules.specs.Sharp.{sharp_outcome, sharp_last, sharp_positions}

-- two faces; sides 2 and 3 are the edge between them
abbrev pub plate : List ℕ
plate = 0 ∷ 1 ∷ 2 ∷ 0 ∷ 2 ∷ 3 ∷ []

abbrev pub plate-points : List ℤ
plate-points = zs (0 ∷ 0 ∷ 0 ∷ 8 ∷ 0 ∷ 0 ∷ 8 ∷ 8 ∷ 0 ∷ 0 ∷ 8 ∷ 4 ∷ [])

-- top 0, equator 1 to 4, bottom 5
abbrev pub octahedron : List ℕ
octahedron = 0 ∷ 1 ∷ 2 ∷ 0 ∷ 2 ∷ 3 ∷ 0 ∷ 3 ∷ 4 ∷ 0 ∷ 4 ∷ 1 ∷ 5 ∷ 2 ∷ 1 ∷ 5 ∷ 3 ∷ 2 ∷ 5 ∷ 4 ∷ 3 ∷ 5 ∷ 1 ∷ 4 ∷ []

abbrev pub octahedron-points : List ℤ
octahedron-points = pos 0 ∷ pos 0 ∷ pos 12 ∷ pos 12 ∷ pos 0 ∷ pos 0 ∷ pos 0 ∷ pos 12 ∷ pos 0 ∷ negsuc 11 ∷ pos 0 ∷ pos 0 ∷ pos 0 ∷ negsuc 11 ∷ pos 0 ∷ pos 0 ∷ pos 0 ∷ negsuc 11 ∷ []

-- as numbers and limits_of, with the listed sides sharp
abbrev pub sharp_numbers : ℕ → List ℕ → List ℕ → List ℤ → List ℤ
sharp_numbers n l fs xs = zs (answer (sharp_outcome whole ample n l fs xs))

abbrev pub sharp_limits_of : ℕ → List ℕ → List ℕ → List ℤ → List ℤ
sharp_limits_of n l fs xs = sharp_positions whole (sharp_last whole n l fs xs)
