-- The cases P (docs/RULES.md, Examples): one table, and one statement, over the definitions of specs/Cases.antt.
use Rattle.std.specs.Prelude.{refl, [], ◌∷◌, pos, negsuc}
use Rattle.whole.specs.Whole.{nearest}
use Rattle.rules.specs.Mesh.{links, fan, refined, cage}
use Rattle.rules.specs.Position.{whole}
use Rattle.rules.specs.Levels.{last, levels, finer, new_positions, limits, moved, positions}
use Rattle.rules.specs.Refusals.{refusal, shape_refusal, range_refusal, list_refusal, fan_refusal, size_refusal}
use Rattle.rules.specs.Answers.{outcome}
use Rattle.rules.specs.Cases.{zs, T-faces, T-points, H-faces, H-points, anywhere, numbers, limits_of, faces_of, vertex, case, Hold}

pub all_hold : Hold (
    -- the empty cage
    case (numbers 0 [] []) (zs (0 ∷ 0 ∷ 0 ∷ 0 ∷ 0 ∷ [])) ∷
    -- "T at level 0 becomes (1,1,0), (5,1,0), (1,5,0)"
    case (limits_of 0 T-faces T-points) (zs (1 ∷ 1 ∷ 0 ∷ 5 ∷ 1 ∷ 0 ∷ 1 ∷ 5 ∷ 0 ∷ [])) ∷
    -- H at level 0, and level 1 before the limit
    case (vertex 0 (limits_of 0 H-faces H-points)) (zs (3 ∷ 3 ∷ 3 ∷ [])) ∷
    case (vertex 1 (limits_of 0 H-faces H-points)) (zs (6 ∷ 3 ∷ 3 ∷ [])) ∷
    case (vertex 0 (last whole 1 H-faces H-points).points) (zs (3 ∷ 3 ∷ 3 ∷ [])) ∷
    case (vertex 1 (last whole 1 H-faces H-points).points) (zs (7 ∷ 3 ∷ 3 ∷ [])) ∷
    case (vertex 4 (last whole 1 H-faces H-points).points) (zs (6 ∷ 2 ∷ 2 ∷ [])) ∷
    -- H counts
    case (numbers 1 H-faces H-points) (zs (0 ∷ 0 ∷ 10 ∷ 16 ∷ 0 ∷ [])) ∷
    case (numbers 2 H-faces H-points) (zs (0 ∷ 0 ∷ 34 ∷ 64 ∷ 0 ∷ [])) ∷
    -- rim edges: the edge of -1 and 0 becomes -1; 0 and 1 stays 1
    case (whole.halves (pos 0) (pos 1) ∷ []) (pos 1 ∷ []) ∷
    case (whole.halves (negsuc 0) (pos 0) ∷ []) (negsuc 0 ∷ []) ∷
    -- refusals
    case (numbers 0 (0 ∷ 1 ∷ 2 ∷ 0 ∷ 2 ∷ 1 ∷ []) (anywhere 3)) (zs (8 ∷ 1 ∷ 0 ∷ 0 ∷ 0 ∷ [])) ∷
    case (numbers 0 (0 ∷ 1 ∷ 2 ∷ 1 ∷ 2 ∷ 3 ∷ []) (anywhere 4)) (zs (7 ∷ 3 ∷ 0 ∷ 0 ∷ 0 ∷ [])) ∷
    case (numbers 0 (0 ∷ 1 ∷ 2 ∷ 0 ∷ 3 ∷ 4 ∷ []) (anywhere 5)) (zs (10 ∷ 0 ∷ 0 ∷ 0 ∷ 0 ∷ [])) ∷
    case (numbers 0 T-faces (anywhere 4)) (zs (9 ∷ 3 ∷ 0 ∷ 0 ∷ 0 ∷ [])) ∷
    -- T at level 1, "worked out again from the rule"
    case (numbers 1 T-faces T-points) (zs (0 ∷ 0 ∷ 6 ∷ 4 ∷ 6 ∷ [])) ∷
    case (limits_of 1 T-faces T-points) (zs (1 ∷ 1 ∷ 0 ∷ 5 ∷ 1 ∷ 0 ∷ 1 ∷ 5 ∷ 0 ∷ 4 ∷ 0 ∷ 0 ∷ 4 ∷ 4 ∷ 0 ∷ 0 ∷ 4 ∷ 0 ∷ [])) ∷
    case (faces_of 1 T-faces T-points) (zs (0 ∷ 3 ∷ 5 ∷ 3 ∷ 1 ∷ 4 ∷ 5 ∷ 4 ∷ 2 ∷ 3 ∷ 4 ∷ 5 ∷ [])) ∷
    [])
unfolding nearest links fan refined cage moved new_positions limits finer levels positions shape_refusal range_refusal list_refusal fan_refusal size_refusal refusal outcome
all_hold = refl
