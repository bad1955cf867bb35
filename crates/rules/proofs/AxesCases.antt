-- Turns on one vertex, and on plates: T exchanged, mirrored and turned by a quarter; a plate moved sideways, which is not promised, and not so.
use Rattle.std.specs.Prelude.{refl, [], ◌∷◌, pos, negsuc}
use Rattle.whole.specs.Whole.{nearest}
use Rattle.rules.specs.Mesh.{links, fan, refined, cage}
use Rattle.rules.specs.Levels.{levels, finer, new_positions, limits, moved, positions}
use Rattle.rules.specs.Cases.{zs, T-faces, T-points, limits_of, vertex, case, Hold}
use Rattle.rules.specs.Sharp.{sharp_positions, sharp_levels, sharp_finer, sharp_limits, sharp_new, sharp_moved, marks_of, finer_marks}
use Rattle.rules.specs.SharpCases.{plate, plate-points, sharp_limits_of}
use Rattle.rules.specs.Axes.{x_axis, z_axis, Turn, turned, negating, exchanging, then, inverse}

abbrev quarter : Turn
quarter = then (exchanging z_axis) (negating x_axis)

pub turns-hold : Hold (
    case (turned (exchanging z_axis) (zs (1 ∷ 2 ∷ 3 ∷ []))) (zs (2 ∷ 1 ∷ 3 ∷ [])) ∷
    case (turned (negating x_axis) (zs (1 ∷ 2 ∷ 3 ∷ []))) (negsuc 0 ∷ pos 2 ∷ pos 3 ∷ []) ∷
    case (turned quarter (zs (1 ∷ 2 ∷ 3 ∷ []))) (negsuc 1 ∷ pos 1 ∷ pos 3 ∷ []) ∷
    case (turned (inverse quarter) (zs (1 ∷ 2 ∷ 3 ∷ []))) (pos 2 ∷ negsuc 0 ∷ pos 3 ∷ []) ∷
    -- T at level 1, and two faces with a sharp edge between them
    case (limits_of 1 T-faces (turned (exchanging z_axis) T-points)) (turned (exchanging z_axis) (limits_of 1 T-faces T-points)) ∷
    case (limits_of 1 T-faces (turned (negating x_axis) T-points)) (turned (negating x_axis) (limits_of 1 T-faces T-points)) ∷
    case (limits_of 1 T-faces (turned quarter T-points)) (turned quarter (limits_of 1 T-faces T-points)) ∷
    case (sharp_limits_of 1 (2 ∷ []) plate (turned quarter plate-points)) (turned quarter (sharp_limits_of 1 (2 ∷ []) plate plate-points)) ∷
    -- (0,0,0), (1,0,0), (0,1,0) at level 1, and moved by -2 along x: vertex 3 is at 1, and at -2
    case (vertex 3 (limits_of 1 T-faces (zs (0 ∷ 0 ∷ 0 ∷ 1 ∷ 0 ∷ 0 ∷ 0 ∷ 1 ∷ 0 ∷ [])))) (zs (1 ∷ 0 ∷ 0 ∷ [])) ∷
    case (vertex 3 (limits_of 1 T-faces (negsuc 1 ∷ pos 0 ∷ pos 0 ∷ negsuc 0 ∷ pos 0 ∷ pos 0 ∷ negsuc 1 ∷ pos 1 ∷ pos 0 ∷ []))) (negsuc 1 ∷ pos 0 ∷ pos 0 ∷ []) ∷
    [])
unfolding nearest links fan refined cage moved new_positions limits finer levels positions sharp_moved sharp_new sharp_limits sharp_finer sharp_levels sharp_positions marks_of finer_marks turned negating exchanging then inverse
turns-hold = refl
