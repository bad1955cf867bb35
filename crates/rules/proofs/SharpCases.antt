-- The cases of request 6, worked out by hand: one table, and one statement, over the definitions of specs/SharpCases.antt.
use Rattle.std.specs.Prelude.{refl, ◌+◌, ◌%◌, [], ◌∷◌}
use Rattle.lists.specs.Lists.{count, gather}
use Rattle.whole.specs.Whole.{nearest}
use Rattle.rules.specs.Mesh.{links, fan, refined, cage}
use Rattle.rules.specs.Refusals.{shape_refusal, range_refusal, list_refusal, fan_refusal, size_refusal}
use Rattle.rules.specs.Cases.{zs, T-faces, T-points, H-faces, H-points, anywhere, vertex, case, Hold, limits_of}
use Rattle.rules.specs.Levels.{levels, finer, new_positions, limits, moved, positions}
use Rattle.rules.specs.Sharp.{sharp_outcome, sharp_refusal, sharp_positions, sharp_levels, sharp_finer, sharp_limits, sharp_new, sharp_moved, marks_of, finer_marks}
use Rattle.rules.specs.SharpCases.{plate, plate-points, octahedron, octahedron-points, sharp_numbers, sharp_limits_of}

pub all_hold : Hold (
    -- two faces, their edge sharp: both its ends have three and stay, and its middle has two
    case (sharp_limits_of 0 (2 ∷ []) plate plate-points) (zs (0 ∷ 0 ∷ 0 ∷ 7 ∷ 1 ∷ 0 ∷ 8 ∷ 8 ∷ 0 ∷ 1 ∷ 7 ∷ 3 ∷ [])) ∷
    case (sharp_limits_of 1 (2 ∷ []) plate plate-points) (zs (0 ∷ 0 ∷ 0 ∷ 7 ∷ 1 ∷ 0 ∷ 8 ∷ 8 ∷ 0 ∷ 1 ∷ 7 ∷ 3 ∷ 4 ∷ 0 ∷ 0 ∷ 8 ∷ 4 ∷ 0 ∷ 4 ∷ 4 ∷ 0 ∷ 4 ∷ 8 ∷ 2 ∷ 0 ∷ 4 ∷ 2 ∷ [])) ∷
    -- the other side of that edge, both, one twice: the same
    case (sharp_limits_of 0 (3 ∷ []) plate plate-points) (sharp_limits_of 0 (2 ∷ []) plate plate-points) ∷
    case (sharp_limits_of 1 (3 ∷ 2 ∷ 3 ∷ []) plate plate-points) (sharp_limits_of 1 (2 ∷ []) plate plate-points) ∷
    -- H: one sharp edge at a vertex, two, three
    case (sharp_limits_of 0 (0 ∷ []) H-faces H-points) (zs (3 ∷ 3 ∷ 3 ∷ 6 ∷ 3 ∷ 3 ∷ 3 ∷ 6 ∷ 3 ∷ 3 ∷ 3 ∷ 6 ∷ [])) ∷
    case (sharp_limits_of 0 (0 ∷ 1 ∷ []) H-faces H-points) (zs (3 ∷ 3 ∷ 3 ∷ 11 ∷ 3 ∷ 0 ∷ 3 ∷ 6 ∷ 3 ∷ 3 ∷ 3 ∷ 6 ∷ [])) ∷
    case (sharp_limits_of 1 (0 ∷ 1 ∷ []) H-faces H-points) (zs (4 ∷ 3 ∷ 3 ∷ 11 ∷ 3 ∷ 0 ∷ 4 ∷ 7 ∷ 3 ∷ 3 ∷ 3 ∷ 6 ∷ 8 ∷ 1 ∷ 1 ∷ 8 ∷ 7 ∷ 1 ∷ 3 ∷ 5 ∷ 3 ∷ 3 ∷ 5 ∷ 5 ∷ 3 ∷ 3 ∷ 5 ∷ 6 ∷ 3 ∷ 5 ∷ [])) ∷
    case (sharp_limits_of 1 (0 ∷ 3 ∷ 6 ∷ []) H-faces H-points) (zs (0 ∷ 0 ∷ 0 ∷ 7 ∷ 3 ∷ 3 ∷ 3 ∷ 7 ∷ 3 ∷ 3 ∷ 3 ∷ 7 ∷ 7 ∷ 1 ∷ 1 ∷ 5 ∷ 5 ∷ 3 ∷ 1 ∷ 7 ∷ 1 ∷ 3 ∷ 5 ∷ 5 ∷ 1 ∷ 1 ∷ 7 ∷ 5 ∷ 3 ∷ 5 ∷ [])) ∷
    -- octahedron: two sharp edges at vertex 2, three; the middle of an edge of a sharp equator
    case (vertex 2 (sharp_limits_of 0 (1 ∷ 4 ∷ []) octahedron octahedron-points)) (zs (0 ∷ 8 ∷ 0 ∷ [])) ∷
    case (vertex 2 (sharp_limits_of 0 (1 ∷ 4 ∷ 1 ∷ 12 ∷ []) octahedron octahedron-points)) (zs (0 ∷ 12 ∷ 0 ∷ [])) ∷
    case (vertex 7 (sharp_limits_of 1 (1 ∷ 4 ∷ 7 ∷ 10 ∷ []) octahedron octahedron-points)) (zs (6 ∷ 6 ∷ 0 ∷ [])) ∷
    -- no marks: as before
    case (sharp_limits_of 1 [] H-faces H-points) (limits_of 1 H-faces H-points) ∷
    -- 18: on the rim, not below 3F; the lowest index; a cage with no faces
    case (sharp_numbers 0 (0 ∷ []) T-faces T-points) (zs (18 ∷ 0 ∷ 0 ∷ 0 ∷ 0 ∷ [])) ∷
    case (sharp_numbers 1 (2 ∷ 6 ∷ 0 ∷ []) plate plate-points) (zs (18 ∷ 1 ∷ 0 ∷ 0 ∷ 0 ∷ [])) ∷
    case (sharp_numbers 0 (4 ∷ 2 ∷ []) plate plate-points) (zs (18 ∷ 0 ∷ 0 ∷ 0 ∷ 0 ∷ [])) ∷
    case (sharp_numbers 1 (2 ∷ 4294967295 ∷ []) plate plate-points) (zs (18 ∷ 1 ∷ 0 ∷ 0 ∷ 0 ∷ [])) ∷
    case (sharp_numbers 0 (0 ∷ []) [] []) (zs (18 ∷ 0 ∷ 0 ∷ 0 ∷ 0 ∷ [])) ∷
    case (sharp_numbers 1 (2 ∷ 2 ∷ []) plate plate-points) (zs (0 ∷ 0 ∷ 9 ∷ 8 ∷ 8 ∷ [])) ∷
    -- 1 and 12 before it, 13 after it
    case (sharp_numbers 8 (9 ∷ []) plate plate-points) (zs (1 ∷ 0 ∷ 0 ∷ 0 ∷ 0 ∷ [])) ∷
    case (sharp_numbers 0 (999 ∷ []) (gather (λ i. 0 ∷ (1 + i) ∷ (1 + (i + 1) % 25) ∷ []) (count 0 25)) (anywhere 26)) (zs (12 ∷ 0 ∷ 0 ∷ 0 ∷ 0 ∷ [])) ∷
    case (sharp_numbers 7 (0 ∷ []) (count 0 9) (anywhere 9)) (zs (18 ∷ 0 ∷ 0 ∷ 0 ∷ 0 ∷ [])) ∷
    case (sharp_numbers 7 [] (count 0 9) (anywhere 9)) (zs (13 ∷ 0 ∷ 0 ∷ 0 ∷ 0 ∷ [])) ∷
    [])
unfolding nearest links fan refined cage shape_refusal range_refusal list_refusal fan_refusal size_refusal sharp_refusal sharp_outcome sharp_moved sharp_new sharp_limits sharp_finer sharp_levels sharp_positions marks_of finer_marks moved new_positions limits finer levels positions
all_hold = refl
