-- What the P cases do not show, in one table and one statement, over the definitions of specs/Orders.antt.
use Rattle.std.specs.Prelude.{refl, [], ◌∷◌}
use Rattle.std.specs.Float.Ieee.{add, sub, mul, div, neg, of_int, of_bits, to_bits}
use Rattle.vectors.specs.Vectors.{origin}
use Rattle.vectors.specs.Narrow.{narrowed}
use Rattle.turns.specs.Turns.{cos_number, sin_number, half_cosine, half_sine, cosine, sine}
use Rattle.rules.specs.Mesh.{links, fan, cage, refined}
use Rattle.rules.specs.Levels.{levels, finer, new_positions, limits, moved, positions}
use Rattle.rules.specs.Tangents.{inner_tangents, rim_tangents, normals, normal_at}
use Rattle.rules.specs.Cases.{T-faces, T-points, H-faces, H-points}
use Rattle.rules.specs.Orders.{plate-faces, fringe-faces, fringe-points, cap-faces, cap-points, around, one_level, normal_bits, position_bits, tangent_bits, signed-ring, full-ring, case, Hold}

pub all_hold : Hold (
    -- the triangle: every vertex on the rim
    case (around (cage 3 T-faces)) (
    (0 ∷ 2 ∷ 1 ∷ 2 ∷ [])
    ∷ (0 ∷ 2 ∷ 2 ∷ 0 ∷ [])
    ∷ (0 ∷ 2 ∷ 0 ∷ 1 ∷ [])
    ∷ []) ∷
    case (around (one_level 3 T-faces)) (
    (0 ∷ 2 ∷ 3 ∷ 5 ∷ [])
    ∷ (1 ∷ 2 ∷ 4 ∷ 3 ∷ [])
    ∷ (2 ∷ 2 ∷ 5 ∷ 4 ∷ [])
    ∷ (3 ∷ 4 ∷ 1 ∷ 4 ∷ 5 ∷ 0 ∷ [])
    ∷ (3 ∷ 4 ∷ 2 ∷ 5 ∷ 3 ∷ 1 ∷ [])
    ∷ (3 ∷ 4 ∷ 0 ∷ 3 ∷ 4 ∷ 2 ∷ [])
    ∷ []) ∷
    -- H: every vertex inner, and the ring turns the other way
    case (around (cage 4 H-faces)) (
    (2 ∷ 3 ∷ 3 ∷ 2 ∷ 1 ∷ [])
    ∷ (3 ∷ 3 ∷ 3 ∷ 0 ∷ 2 ∷ [])
    ∷ (3 ∷ 3 ∷ 1 ∷ 0 ∷ 3 ∷ [])
    ∷ (3 ∷ 3 ∷ 2 ∷ 0 ∷ 1 ∷ [])
    ∷ []) ∷
    case (around (one_level 4 H-faces)) (
    (8 ∷ 3 ∷ 8 ∷ 6 ∷ 4 ∷ [])
    ∷ (12 ∷ 3 ∷ 9 ∷ 4 ∷ 5 ∷ [])
    ∷ (14 ∷ 3 ∷ 5 ∷ 6 ∷ 7 ∷ [])
    ∷ (13 ∷ 3 ∷ 7 ∷ 8 ∷ 9 ∷ [])
    ∷ (3 ∷ 6 ∷ 5 ∷ 1 ∷ 9 ∷ 8 ∷ 0 ∷ 6 ∷ [])
    ∷ (3 ∷ 6 ∷ 6 ∷ 2 ∷ 7 ∷ 9 ∷ 1 ∷ 4 ∷ [])
    ∷ (3 ∷ 6 ∷ 4 ∷ 0 ∷ 8 ∷ 7 ∷ 2 ∷ 5 ∷ [])
    ∷ (7 ∷ 6 ∷ 8 ∷ 3 ∷ 9 ∷ 5 ∷ 2 ∷ 6 ∷ [])
    ∷ (7 ∷ 6 ∷ 6 ∷ 0 ∷ 4 ∷ 9 ∷ 3 ∷ 7 ∷ [])
    ∷ (11 ∷ 6 ∷ 4 ∷ 1 ∷ 5 ∷ 7 ∷ 3 ∷ 8 ∷ [])
    ∷ []) ∷
    -- two faces: at level 1 both kinds
    case (around (cage 4 plate-faces)) (
    (1 ∷ 3 ∷ 1 ∷ 2 ∷ 3 ∷ [])
    ∷ (0 ∷ 2 ∷ 2 ∷ 0 ∷ [])
    ∷ (1 ∷ 3 ∷ 3 ∷ 0 ∷ 1 ∷ [])
    ∷ (1 ∷ 2 ∷ 0 ∷ 2 ∷ [])
    ∷ []) ∷
    case (around (one_level 4 plate-faces)) (
    (4 ∷ 3 ∷ 4 ∷ 6 ∷ 8 ∷ [])
    ∷ (1 ∷ 2 ∷ 5 ∷ 4 ∷ [])
    ∷ (5 ∷ 3 ∷ 7 ∷ 6 ∷ 5 ∷ [])
    ∷ (6 ∷ 2 ∷ 8 ∷ 7 ∷ [])
    ∷ (3 ∷ 4 ∷ 1 ∷ 5 ∷ 6 ∷ 0 ∷ [])
    ∷ (3 ∷ 4 ∷ 2 ∷ 6 ∷ 4 ∷ 1 ∷ [])
    ∷ (3 ∷ 6 ∷ 4 ∷ 0 ∷ 8 ∷ 7 ∷ 2 ∷ 5 ∷ [])
    ∷ (7 ∷ 4 ∷ 3 ∷ 8 ∷ 6 ∷ 2 ∷ [])
    ∷ (7 ∷ 4 ∷ 0 ∷ 6 ∷ 7 ∷ 3 ∷ [])
    ∷ []) ∷
    -- normals: on the rim at valence 2; inside; on the rim at valence 2, 3, 4 and 5
    case (normal_bits 0 T-faces T-points) (
    (0x00000000 ∷ 0x00000000 ∷ 0xC1A3D70B ∷ [])
    ∷ (0x80000000 ∷ 0x80000000 ∷ 0xC1A3D70C ∷ [])
    ∷ (0x00000000 ∷ 0x00000000 ∷ 0xC1A3D70C ∷ [])
    ∷ []) ∷
    case (normal_bits 0 H-faces H-points) (
    (0xC10DE3BB ∷ 0xC10DE3BB ∷ 0xC10DE3BA ∷ [])
    ∷ (0x410DE3BB ∷ 0x00000000 ∷ 0x00000000 ∷ [])
    ∷ (0x00000000 ∷ 0x410DE3BB ∷ 0x00000000 ∷ [])
    ∷ (0x00000000 ∷ 0x00000000 ∷ 0x410DE3BB ∷ [])
    ∷ []) ∷
    case (normal_bits 0 fringe-faces fringe-points) (
    (0xC1337369 ∷ 0xC034E7B5 ∷ 0xC2BA78D5 ∷ [])
    ∷ (0xC0A51EB9 ∷ 0xC0547AE2 ∷ 0xC25D70A5 ∷ [])
    ∷ (0xC22A8F5E ∷ 0x4028F5CA ∷ 0xC365C291 ∷ [])
    ∷ (0xC1300000 ∷ 0x40D5C292 ∷ 0xC2A33334 ∷ [])
    ∷ (0xC0F1EB84 ∷ 0x3FA8F5CA ∷ 0xC279999A ∷ [])
    ∷ (0xC1170A3D ∷ 0xC07FFFFD ∷ 0xC235C290 ∷ [])
    ∷ (0xC0D70A3F ∷ 0xC03851ED ∷ 0xC20A3D73 ∷ [])
    ∷ []) ∷
    -- tangents inside begin at +0, not at -0
    case (tangent_bits (inner_tangents signed-ring)) (
    (0x00000000 ∷ 0x00000000 ∷ 0xC0000000 ∷ [])
    ∷ (0x00000000 ∷ 0x40000000 ∷ 0xC0400000 ∷ [])
    ∷ []) ∷
    -- on the rim from valence 5 on the two ends are added before they are scaled by sin theta, and (2 cos theta - 2) sin(k theta) is worked before a point is scaled by it
    case (tangent_bits (rim_tangents origin full-ring)) (
    (0x4B7D59DB ∷ 0x4AB8A53A ∷ 0xCB2A9A0D ∷ [])
    ∷ (0x4A5B9C4F ∷ 0xC88A4DD0 ∷ 0xCBC36FF4 ∷ [])
    ∷ []) ∷
    -- positions that change with the order of additions
    case (position_bits 1 cap-faces cap-points) (
    (0xCA44FCBE ∷ 0x49E2498B ∷ 0xCA4CAB96 ∷ [])
    ∷ (0x47DBC49A ∷ 0x4AA8DD69 ∷ 0xCB265001 ∷ [])
    ∷ (0x47DBBF9D ∷ 0x49E45778 ∷ 0xCA3315F8 ∷ [])
    ∷ (0x48CC1132 ∷ 0x49E3A2FB ∷ 0xCA330383 ∷ [])
    ∷ (0xCA0BF287 ∷ 0x4A44B407 ∷ 0xCABD3A78 ∷ [])
    ∷ (0x46FB208C ∷ 0x4A7F756F ∷ 0xCAF313F5 ∷ [])
    ∷ (0xCA0BF29A ∷ 0x49CF1B7C ∷ 0xCA2FE368 ∷ [])
    ∷ (0x48951F8E ∷ 0x495C77B4 ∷ 0xC94C68C0 ∷ [])
    ∷ (0xCA042E33 ∷ 0x49CED049 ∷ 0xCA2FDBB6 ∷ [])
    ∷ (0x489520AB ∷ 0x4A7F24B0 ∷ 0xCAF30BB3 ∷ [])
    ∷ []) ∷
    [])
unfolding links fan refined cage moved new_positions limits finer levels positions normal_at normals add sub mul div neg of_int of_bits to_bits narrowed cos_number sin_number half_cosine half_sine cosine sine
all_hold = refl
