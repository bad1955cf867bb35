-- The cases P, cages on both sides of a line (docs/RULES.md, Examples): what their table is made of. The table, and the one statement, are proofs/Cases.antt.
use Rattle.std.specs.Prelude.{◌≡◌, ℕ, ◌*◌, List, [], ◌∷◌, map, take, drop, replicate, ℤ, pos}
use Rattle.rules.specs.Position.{whole}
use Rattle.rules.specs.Levels.{last, positions}
use Rattle.rules.specs.Refusals.{Room}
use Rattle.rules.specs.Answers.{answer, outcome, whole_rooms}
use Rattle.rules.specs.declared.Counts.{Counts}

abbrev pub zs : List ℕ → List ℤ
zs ns = map pos ns

-- the cages T and H
abbrev pub T-faces : List ℕ
T-faces = 0 ∷ 1 ∷ 2 ∷ []

abbrev pub T-points : List ℤ
T-points = zs (0 ∷ 0 ∷ 0 ∷ 8 ∷ 0 ∷ 0 ∷ 0 ∷ 8 ∷ 0 ∷ [])

abbrev pub H-faces : List ℕ
H-faces = 0 ∷ 1 ∷ 2 ∷ 0 ∷ 2 ∷ 3 ∷ 0 ∷ 3 ∷ 1 ∷ 1 ∷ 3 ∷ 2 ∷ []

abbrev pub H-points : List ℤ
H-points = zs (0 ∷ 0 ∷ 0 ∷ 16 ∷ 0 ∷ 0 ∷ 0 ∷ 16 ∷ 0 ∷ 0 ∷ 0 ∷ 16 ∷ [])

-- n vertices, all at one point
abbrev pub anywhere : ℕ → List ℤ
anywhere n = replicate (3 * n) (pos 0)

-- room for whatever these cages ask
abbrev pub ample : Counts → List Room
ample = whole_rooms 1000 1000 10000 1000

-- the five numbers of the whole call, its limit positions, its faces, and one vertex of a list of coordinates
abbrev pub numbers : ℕ → List ℕ → List ℤ → List ℤ
numbers l fs xs = zs (answer (outcome whole ample l fs xs))

abbrev pub limits_of : ℕ → List ℕ → List ℤ → List ℤ
limits_of l fs xs = positions whole (last whole l fs xs)

abbrev pub faces_of : ℕ → List ℕ → List ℤ → List ℤ
faces_of l fs xs = zs (last whole l fs xs).mesh.faces

abbrev pub vertex : ℕ → List ℤ → List ℤ
vertex v xs = take 3 (drop (3 * v) xs)

pub record Case : Type 0 where
  pub got : List ℤ
  pub wanted : List ℤ

abbrev pub case : List ℤ → List ℤ → Case
case g w = record { got = g; wanted = w }

-- the table as the statement itself: as a definition of its own it is computed much more slowly
abbrev pub Hold : List Case → Type 0
Hold t = map (λ c. c.got) t ≡ map (λ c. c.wanted) t
