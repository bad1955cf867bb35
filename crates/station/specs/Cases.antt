-- Claims of T and H at levels 0 and 1, on both sides of each line: one table.
use Rattle.std.specs.Prelude.{◌≡◌, refl, ℕ, List, [], ◌∷◌, ◌++◌, map, take, drop, ℤ, pos, negsuc}
use Rattle.whole.specs.Whole.{nearest}
use Rattle.whole.specs.Fraction.{of_whole, plus, times, over, minus}
use Rattle.rules.specs.Mesh.{links, refined, cage, fan}
use Rattle.rules.specs.Levels.{levels, finer, new_positions, limits, moved, positions}
use Rattle.rules.specs.Refusals.{refusal, shape_refusal, range_refusal, list_refusal, fan_refusal, size_refusal}
use Rattle.rules.specs.Answers.{outcome}
use Rattle.rules.specs.Cases.{T-faces, T-points, H-faces, H-points, zs, ample}
use Rattle.station.specs.Acceptance.{needs, held, station_outcome, verdict, answer}

-- the six numbers of a claim: tolerance, levels, faces, coordinates
abbrev of_T : ℕ → ℕ → List ℕ → List ℤ → List ℕ
of_T t l cs ys = answer (verdict ample t l T-faces T-points cs ys)

abbrev of-H : ℕ → ℕ → List ℕ → List ℤ → List ℕ
of-H t l cs ys = answer (verdict ample t l H-faces H-points cs ys)

-- what the whole call answers of them
abbrev T-limit : List ℤ
T-limit = zs (1 ∷ 1 ∷ 0 ∷ 5 ∷ 1 ∷ 0 ∷ 1 ∷ 5 ∷ 0 ∷ [])

abbrev T-first : List ℤ
T-first = zs (1 ∷ 1 ∷ 0 ∷ 5 ∷ 1 ∷ 0 ∷ 1 ∷ 5 ∷ 0 ∷ 4 ∷ 0 ∷ 0 ∷ 4 ∷ 4 ∷ 0 ∷ 0 ∷ 4 ∷ 0 ∷ [])

abbrev H-limit : List ℤ
H-limit = zs (3 ∷ 3 ∷ 3 ∷ 6 ∷ 3 ∷ 3 ∷ 3 ∷ 6 ∷ 3 ∷ 3 ∷ 3 ∷ 6 ∷ [])

abbrev H-first : List ℤ
H-first = zs (3 ∷ 3 ∷ 3 ∷ 6 ∷ 3 ∷ 3 ∷ 3 ∷ 6 ∷ 3 ∷ 3 ∷ 3 ∷ 6 ∷ 5 ∷ 3 ∷ 3 ∷ 5 ∷ 5 ∷ 3 ∷ 3 ∷ 5 ∷ 3 ∷ 3 ∷ 5 ∷ 5 ∷ 3 ∷ 3 ∷ 5 ∷ 5 ∷ 3 ∷ 5 ∷ [])

abbrev H-children : List ℕ
H-children = 0 ∷ 4 ∷ 6 ∷ 4 ∷ 1 ∷ 5 ∷ 6 ∷ 5 ∷ 2 ∷ 4 ∷ 5 ∷ 6 ∷ 0 ∷ 6 ∷ 8 ∷ 6 ∷ 2 ∷ 7 ∷ 8 ∷ 7 ∷ 3 ∷ 6 ∷ 7 ∷ 8 ∷ 0 ∷ 8 ∷ 4 ∷ 8 ∷ 3 ∷ 9 ∷ 4 ∷ 9 ∷ 1 ∷ 8 ∷ 9 ∷ 4 ∷ 1 ∷ 9 ∷ 5 ∷ 9 ∷ 3 ∷ 7 ∷ 5 ∷ 7 ∷ 2 ∷ 9 ∷ 7 ∷ 5 ∷ []

pub record Case : Type 0 where
  pub got : List ℕ
  pub wanted : List ℕ

abbrev case : List ℕ → List ℕ → Case
case g w = record { got = g; wanted = w }

abbrev Hold : List Case → Type 0
Hold t = map (λ c. c.got) t ≡ map (λ c. c.wanted) t

pub claims-hold : Hold (
    -- T at level 0, begun at another corner: 4/3 passes as 1 from tolerance 1 on
    case (of_T 1 0 (1 ∷ 2 ∷ 0 ∷ []) T-limit) (0 ∷ 0 ∷ 1 ∷ 0 ∷ 0 ∷ 0 ∷ []) ∷
    case (of_T 0 0 (1 ∷ 2 ∷ 0 ∷ []) T-limit) (0 ∷ 0 ∷ 0 ∷ 3 ∷ 0 ∷ 1 ∷ []) ∷
    -- its first coordinate as -1, 0, 2, 3, on both sides of what it needs
    case (of_T 3 0 (2 ∷ 0 ∷ 1 ∷ []) (negsuc 0 ∷ drop 1 T-limit)) (0 ∷ 0 ∷ 1 ∷ 0 ∷ 0 ∷ 0 ∷ []) ∷
    case (of_T 2 0 (2 ∷ 0 ∷ 1 ∷ []) (negsuc 0 ∷ drop 1 T-limit)) (0 ∷ 0 ∷ 0 ∷ 3 ∷ 0 ∷ 3 ∷ []) ∷
    case (of_T 2 0 (2 ∷ 0 ∷ 1 ∷ []) (pos 0 ∷ drop 1 T-limit)) (0 ∷ 0 ∷ 1 ∷ 0 ∷ 0 ∷ 0 ∷ []) ∷
    case (of_T 1 0 (2 ∷ 0 ∷ 1 ∷ []) (pos 0 ∷ drop 1 T-limit)) (0 ∷ 0 ∷ 0 ∷ 3 ∷ 0 ∷ 2 ∷ []) ∷
    case (of_T 1 0 (2 ∷ 0 ∷ 1 ∷ []) (pos 2 ∷ drop 1 T-limit)) (0 ∷ 0 ∷ 1 ∷ 0 ∷ 0 ∷ 0 ∷ []) ∷
    case (of_T 0 0 (2 ∷ 0 ∷ 1 ∷ []) (pos 2 ∷ drop 1 T-limit)) (0 ∷ 0 ∷ 0 ∷ 3 ∷ 0 ∷ 1 ∷ []) ∷
    case (of_T 2 0 (2 ∷ 0 ∷ 1 ∷ []) (pos 3 ∷ drop 1 T-limit)) (0 ∷ 0 ∷ 1 ∷ 0 ∷ 0 ∷ 0 ∷ []) ∷
    case (of_T 1 0 (2 ∷ 0 ∷ 1 ∷ []) (pos 3 ∷ drop 1 T-limit)) (0 ∷ 0 ∷ 0 ∷ 3 ∷ 0 ∷ 2 ∷ []) ∷
    -- the least i32
    case (of_T 1000 0 (0 ∷ 1 ∷ 2 ∷ []) (negsuc 2147483647 ∷ drop 1 T-limit)) (0 ∷ 0 ∷ 0 ∷ 3 ∷ 0 ∷ 2147483650 ∷ []) ∷
    -- turned over; a corner less; a coordinate more
    case (of_T 1 0 (1 ∷ 0 ∷ 2 ∷ []) T-limit) (0 ∷ 0 ∷ 0 ∷ 2 ∷ 0 ∷ 0 ∷ []) ∷
    case (of_T 1 0 (1 ∷ 2 ∷ []) T-limit) (0 ∷ 0 ∷ 0 ∷ 1 ∷ 0 ∷ 0 ∷ []) ∷
    case (of_T 1 0 (1 ∷ 2 ∷ 0 ∷ []) (pos 0 ∷ T-limit)) (0 ∷ 0 ∷ 0 ∷ 1 ∷ 0 ∷ 0 ∷ []) ∷
    -- at level 1
    case (of_T 1 1 (3 ∷ 5 ∷ 0 ∷ 3 ∷ 1 ∷ 4 ∷ 2 ∷ 5 ∷ 4 ∷ 5 ∷ 3 ∷ 4 ∷ []) T-first) (0 ∷ 0 ∷ 1 ∷ 0 ∷ 0 ∷ 0 ∷ []) ∷
    case (of_T 0 1 (3 ∷ 5 ∷ 0 ∷ 3 ∷ 1 ∷ 4 ∷ 2 ∷ 5 ∷ 4 ∷ 5 ∷ 3 ∷ 4 ∷ []) T-first) (0 ∷ 0 ∷ 0 ∷ 3 ∷ 0 ∷ 1 ∷ []) ∷
    case (of_T 1 1 (3 ∷ 5 ∷ 0 ∷ 3 ∷ 1 ∷ 4 ∷ 2 ∷ 5 ∷ 4 ∷ 5 ∷ 4 ∷ 3 ∷ []) T-first) (0 ∷ 0 ∷ 0 ∷ 2 ∷ 3 ∷ 0 ∷ []) ∷
    -- 21 right after 1, on any lists
    case (of_T 1001 0 [] []) (21 ∷ 0 ∷ 0 ∷ 0 ∷ 0 ∷ 0 ∷ []) ∷
    case (of_T 0 2 [] []) (21 ∷ 0 ∷ 0 ∷ 0 ∷ 0 ∷ 0 ∷ []) ∷
    case (of_T 1001 8 [] []) (1 ∷ 0 ∷ 0 ∷ 0 ∷ 0 ∷ 0 ∷ []) ∷
    -- H: 16/5 and 32/5 as 3 and 6, and at level 1 as it was
    case (of-H 1 0 H-faces H-limit) (0 ∷ 0 ∷ 1 ∷ 0 ∷ 0 ∷ 0 ∷ []) ∷
    case (of-H 0 0 H-faces H-limit) (0 ∷ 0 ∷ 0 ∷ 3 ∷ 0 ∷ 1 ∷ []) ∷
    case (of-H 1 1 H-children H-first) (0 ∷ 0 ∷ 1 ∷ 0 ∷ 0 ∷ 0 ∷ []) ∷
    case (of-H 0 1 H-children H-first) (0 ∷ 0 ∷ 0 ∷ 3 ∷ 0 ∷ 1 ∷ []) ∷
    -- its new vertex 4 is at 31/6
    case (of-H 1 1 H-children (take 12 H-first ++ (pos 7 ∷ drop 13 H-first))) (0 ∷ 0 ∷ 0 ∷ 3 ∷ 12 ∷ 2 ∷ []) ∷
    [])
unfolding nearest of_whole plus times over minus links fan refined cage moved new_positions limits finer levels positions shape_refusal range_refusal list_refusal fan_refusal size_refusal refusal outcome needs held station_outcome
claims-hold = refl
