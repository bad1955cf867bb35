-- The refusals on both sides of each limit and at each place: one table, and one statement, so that a limit, a place or a needed length that is changed in definition and code alike
-- breaks a row. 7, 8, 9 and 10 stand with the cases P (rules/Cases), more of 18 with request [6] (rules/SharpCases), 17 in writer/Cases, 19 in alphabet/Cases, 22 to 25 in obj/Cases.
use Rattle.std.specs.Prelude.{refl, ℕ, ◌+◌, ◌*◌, ◌%◌, List, [], ◌∷◌, ◌++◌, map, take, drop, replicate, ℤ, pos, negsuc}
use Rattle.std.proofs.Math.Option.{Option, none, some}
use Rattle.std.specs.Float.{binary32}
use Rattle.std.specs.Float.Ieee.{of_int, of_bits, neg, le}
use Rattle.lists.specs.Lists.{count, gather, rows}
use Rattle.whole.specs.Whole.{nearest}
use Rattle.rules.specs.Mesh.{links, fan, refined, cage}
use Rattle.rules.specs.Position.{whole, single}
use Rattle.rules.specs.Levels.{finer, levels, moved, new_positions}
use Rattle.rules.specs.Refusals.{check, when, too_large, shape_refusal, range_refusal, list_refusal, fan_refusal, size_refusal, refusal, short_of}
use Rattle.rules.specs.Answers.{answer, outcome, whole_rooms, single_rooms}
use Rattle.rules.specs.Sharp.{sharp_refusal}
use Rattle.rules.specs.Sheets.{bytes_of, unsigned, sheet_bytes, vertex_block, face_block, sheet_outcome, cut_rooms, cut_outcome}
use Rattle.rules.specs.Cases.{zs, T-faces, T-points, H-faces, H-points, anywhere, ample, numbers, case, Hold}
use Rattle.rules.specs.declared.Refusal.{Refusal}
use Rattle.outlines.specs.Loops.{around, outlines, outline_outcome}
use Rattle.station.specs.Acceptance.{station_outcome}

-- number and place; 0 and 0 where a check lets it pass
abbrev told : Option Refusal → List ℤ
told none = zs (0 ∷ 0 ∷ [])
told (some r) = zs (r.number ∷ r.place ∷ [])

abbrev refused : ℕ → ℕ → List ℤ
refused n p = zs (n ∷ p ∷ 0 ∷ 0 ∷ 0 ∷ [])

-- T as it is, with no refusal
abbrev done : List ℤ
done = zs (0 ∷ 0 ∷ 3 ∷ 1 ∷ 3 ∷ [])

-- T with its coordinate i at x; T in f32 with its coordinate i of these bits
abbrev far : ℕ → ℤ → List ℤ
far i x = numbers 0 T-faces (take i T-points ++ (x ∷ drop (i + 1) T-points))

abbrev far_bits : ℕ → ℕ → List ℤ
far_bits i w = told (range_refusal single (map (of_int binary32) (take i T-points) ++ (of_bits binary32 w ∷ map (of_int binary32) (drop (i + 1) T-points))))

-- a hub 0 and n faces round it, closed; and n faces in a row
abbrev closed : ℕ → List ℤ
closed n = told (refusal whole 0 (gather (λ i. 0 ∷ (1 + i) ∷ (1 + (i + 1) % n) ∷ []) (count 0 n)) (anywhere (n + 1)))

abbrev half : ℕ → List ℤ
half n = told (refusal whole 0 (gather (λ i. 0 ∷ (1 + i) ∷ (2 + i) ∷ []) (count 0 n)) (anywhere (n + 2)))

-- n faces apart from one another, after l levels; a mesh of v vertices and f faces
abbrev apart : ℕ → ℕ → List ℤ
apart l n = told (refusal whole l (count 0 (3 * n)) (anywhere (3 * n)))

abbrev sized : ℕ → ℕ → List ℤ
sized v f = told (check 13 (when (too_large (record { verts = v; faces = f; edges = 0 }))))

-- T after l levels with room for so many positions, indices, words and work coordinates; in f32, with normals after the positions
abbrev lent : ℕ → ℕ → ℕ → ℕ → ℕ → List ℤ
lent l ps is ws cs = zs (answer (outcome whole (whole_rooms ps is ws cs) l T-faces T-points))

abbrev lent_single : ℕ → ℕ → ℕ → ℕ → ℕ → List ℤ
lent_single ps ns is ws cs = zs (answer (outcome single (single_rooms ps ns is ws cs) 0 T-faces (map (of_int binary32) T-points)))

-- the blocks of T, and a trailer
abbrev sheet : List ℕ → List ℕ
sheet trailer = gather bytes_of (map unsigned T-points) ++ (gather bytes_of T-faces ++ gather bytes_of trailer)

abbrev read : List ℕ → List ℤ
read b = zs (answer (sheet_outcome ample b))

-- what is short of the room that `platecut` lends, for a mesh of v vertices and f faces
abbrev cut_short : ℕ → ℕ → List ℤ
cut_short v f = told (check 14 (short_of (cut_rooms (record { vertices = v; faces = f; rims = 0 }))))

-- T with a list of n entries for its loops; T at tolerance t after l levels
abbrev listed : ℕ → List ℤ
listed n = zs (answer (outline_outcome ample n 0 T-faces T-points))

abbrev claimed : ℕ → ℕ → List ℤ
claimed t l = zs (answer (station_outcome ample t l T-faces T-points))

pub all_hold : Hold (
    -- 1: levels over 7; before 2
    case (numbers 7 [] []) (refused 0 0) ∷
    case (numbers 8 [] []) (refused 1 0) ∷
    case (numbers 8 (0 ∷ []) (pos 0 ∷ [])) (refused 1 0) ∷
    -- 2: a length that is not a multiple of 3: indices, then coordinates; before 3
    case (numbers 0 (take 2 T-faces) T-points) (refused 2 0) ∷
    case (numbers 0 (take 1 T-faces) T-points) (refused 2 0) ∷
    case (numbers 0 T-faces (take 8 T-points)) (refused 2 1) ∷
    case (numbers 0 T-faces (take 7 T-points)) (refused 2 1) ∷
    case (numbers 0 (take 2 T-faces) (take 8 T-points)) (refused 2 0) ∷
    case (told (shape_refusal 0 12292 0)) (zs (2 ∷ 0 ∷ [])) ∷
    -- 3: 4,096 faces go, and 4,096 vertices, as far as the next check; 4,097 do not; faces first
    case (numbers 0 (replicate 12288 0) []) (refused 5 0) ∷
    case (numbers 0 (replicate 12291 0) []) (refused 3 0) ∷
    case (numbers 0 [] (anywhere 4096)) (refused 9 0) ∷
    case (numbers 0 [] (anywhere 4097)) (refused 3 1) ∷
    case (numbers 0 (replicate 12291 0) (anywhere 4097)) (refused 3 0) ∷
    -- 4: a size of 1,000,000,000 goes, and no more; the lowest index; before 5
    case (far 5 (pos 1000000000)) done ∷
    case (far 5 (pos 1000000001)) (refused 4 5) ∷
    case (far 0 (negsuc 999999999)) done ∷
    case (far 0 (negsuc 1000000000)) (refused 4 0) ∷
    case (numbers 0 (0 ∷ 1 ∷ 9 ∷ []) (take 7 T-points ++ (pos 1000000001 ∷ negsuc 1000000000 ∷ []))) (refused 4 7) ∷
    -- and in f32 2^40, the number after it, an infinity, a NaN
    case (far_bits 8 0x53800000) (zs (0 ∷ 0 ∷ [])) ∷
    case (far_bits 8 0x53800001) (zs (4 ∷ 8 ∷ [])) ∷
    case (far_bits 0 0xD3800000) (zs (0 ∷ 0 ∷ [])) ∷
    case (far_bits 0 0xD3800001) (zs (4 ∷ 0 ∷ [])) ∷
    case (far_bits 3 0x7F800000) (zs (4 ∷ 3 ∷ [])) ∷
    case (far_bits 3 0x7FC00000) (zs (4 ∷ 3 ∷ [])) ∷
    -- 5: a vertex number that is V, at its index; the lowest; before 6
    case (numbers 0 (2 ∷ 0 ∷ 1 ∷ []) T-points) done ∷
    case (numbers 0 (3 ∷ 0 ∷ 1 ∷ []) T-points) (refused 5 0) ∷
    case (numbers 0 (0 ∷ 1 ∷ 3 ∷ []) T-points) (refused 5 2) ∷
    case (numbers 0 (0 ∷ 0 ∷ 1 ∷ 0 ∷ 9 ∷ 3 ∷ []) T-points) (refused 5 4) ∷
    -- 6: any two of three corners, at their face; the lowest; before 7
    case (numbers 0 (0 ∷ 0 ∷ 1 ∷ []) T-points) (refused 6 0) ∷
    case (numbers 0 (0 ∷ 1 ∷ 1 ∷ []) T-points) (refused 6 0) ∷
    case (numbers 0 (0 ∷ 1 ∷ 0 ∷ []) T-points) (refused 6 0) ∷
    case (numbers 0 (0 ∷ 1 ∷ 2 ∷ 0 ∷ 1 ∷ 2 ∷ 2 ∷ 1 ∷ 1 ∷ 0 ∷ 0 ∷ 0 ∷ []) T-points) (refused 6 2) ∷
    -- 12, of request [14]: a closed fan of 24 faces goes and an open one of 23
    case (closed 24) (zs (0 ∷ 0 ∷ [])) ∷
    case (closed 25) (zs (12 ∷ 0 ∷ [])) ∷
    case (half 23) (zs (0 ∷ 0 ∷ [])) ∷
    case (half 24) (zs (12 ∷ 0 ∷ [])) ∷
    -- 13: 32,768 faces go, by 7 levels or by 6; and so many vertices
    case (apart 7 2) (zs (0 ∷ 0 ∷ [])) ∷
    case (apart 7 3) (zs (13 ∷ 0 ∷ [])) ∷
    case (apart 6 8) (zs (0 ∷ 0 ∷ [])) ∷
    case (apart 6 9) (zs (13 ∷ 0 ∷ [])) ∷
    case (sized 32768 32768) (zs (0 ∷ 0 ∷ [])) ∷
    case (sized 32769 0) (zs (13 ∷ 0 ∷ [])) ∷
    case (sized 0 32769) (zs (13 ∷ 0 ∷ [])) ∷
    -- 14: exactly full goes, one entry less in each buffer; the lowest place; after 1
    case (lent 0 9 3 40 18) done ∷
    case (lent 0 8 3 40 18) (refused 14 0) ∷
    case (lent 0 9 2 40 18) (refused 14 2) ∷
    case (lent 0 9 3 39 18) (refused 14 3) ∷
    case (lent 0 9 3 40 17) (refused 14 4) ∷
    case (lent 0 9 2 39 17) (refused 14 2) ∷
    case (lent 1 18 12 112 36) (zs (0 ∷ 0 ∷ 6 ∷ 4 ∷ 6 ∷ [])) ∷
    case (lent 1 17 12 112 36) (refused 14 0) ∷
    case (lent 1 18 11 112 36) (refused 14 2) ∷
    case (lent 1 18 12 111 36) (refused 14 3) ∷
    case (lent 1 18 12 112 35) (refused 14 4) ∷
    case (lent 8 0 0 0 0) (refused 1 0) ∷
    case (lent_single 9 9 3 40 18) done ∷
    case (lent_single 8 8 3 40 18) (refused 14 0) ∷
    case (lent_single 9 8 2 40 18) (refused 14 1) ∷
    case (lent_single 9 9 2 40 18) (refused 14 2) ∷
    case (lent_single 9 9 3 39 17) (refused 14 3) ∷
    case (lent_single 9 9 3 40 17) (refused 14 4) ∷
    -- 15: 20 bytes go and 19 do not; the vertex offset, the face offset, the length; what would wrap in 32 bits; before 1
    case (read (replicate 20 0)) (refused 0 0) ∷
    case (read (replicate 19 0)) (refused 15 0) ∷
    case (read []) (refused 15 0) ∷
    case (read (sheet (0 ∷ 3 ∷ 36 ∷ 1 ∷ 0 ∷ []))) done ∷
    case (read (sheet (1 ∷ 3 ∷ 36 ∷ 1 ∷ 0 ∷ []))) (refused 15 0) ∷
    case (read (sheet (16777216 ∷ 3 ∷ 36 ∷ 1 ∷ 0 ∷ []))) (refused 15 0) ∷
    case (read (sheet (0 ∷ 3 ∷ 35 ∷ 1 ∷ 0 ∷ []))) (refused 15 0) ∷
    case (read (sheet (0 ∷ 3 ∷ 37 ∷ 1 ∷ 0 ∷ []))) (refused 15 0) ∷
    case (read (sheet (0 ∷ 3 ∷ 36 ∷ 2 ∷ 0 ∷ []))) (refused 15 0) ∷
    case (read (drop 1 (sheet (0 ∷ 3 ∷ 36 ∷ 1 ∷ 0 ∷ [])))) (refused 15 0) ∷
    case (read (0 ∷ sheet (0 ∷ 3 ∷ 36 ∷ 1 ∷ 0 ∷ []))) (refused 15 0) ∷
    case (read (replicate 8 0 ++ gather bytes_of (0 ∷ 357913942 ∷ 8 ∷ 0 ∷ 0 ∷ []))) (refused 15 0) ∷
    case (read (sheet (0 ∷ 3 ∷ 36 ∷ 1 ∷ 8 ∷ []))) (refused 1 0) ∷
    case (read (sheet (1 ∷ 3 ∷ 36 ∷ 1 ∷ 8 ∷ []))) (refused 15 0) ∷
    -- a coordinate is read as signed, a vertex number as unsigned
    case (read (sheet_bytes 0 T-faces (negsuc 0 ∷ negsuc 999999999 ∷ pos 1000000000 ∷ drop 3 T-points))) done ∷
    case (read (sheet_bytes 0 T-faces (negsuc 2147483647 ∷ drop 1 T-points))) (refused 4 0) ∷
    case (read (sheet_bytes 0 (0 ∷ 4294967295 ∷ 2 ∷ []) T-points)) (refused 5 1) ∷
    -- 16: 32,768 bytes go as far as 15; and the room for 512 faces and 512 vertices
    case (zs (answer (cut_outcome (replicate 32768 0)))) (refused 15 0) ∷
    case (zs (answer (cut_outcome (replicate 32769 0)))) (refused 16 0) ∷
    case (cut_short 512 512) (zs (0 ∷ 0 ∷ [])) ∷
    case (cut_short 513 512) (zs (14 ∷ 0 ∷ [])) ∷
    case (cut_short 512 513) (zs (14 ∷ 2 ∷ [])) ∷
    -- 18: the last side of H, and the one after it
    case (told (sharp_refusal whole 0 (11 ∷ []) H-faces H-points)) (zs (0 ∷ 0 ∷ [])) ∷
    case (told (sharp_refusal whole 0 (11 ∷ 12 ∷ []) H-faces H-points)) (zs (18 ∷ 1 ∷ [])) ∷
    -- 20: a loop of three and its length
    case (listed 4) done ∷
    case (listed 3) (refused 20 0) ∷
    -- 21: tolerances to 1,000 and levels to 1; after 1
    case (claimed 1000 0) done ∷
    case (claimed 1001 0) (refused 21 0) ∷
    case (claimed 0 1) (zs (0 ∷ 0 ∷ 6 ∷ 4 ∷ 6 ∷ [])) ∷
    case (claimed 0 2) (refused 21 0) ∷
    case (claimed 1001 8) (refused 1 0) ∷
    [])
unfolding rows nearest links fan refined cage moved new_positions finer levels shape_refusal range_refusal list_refusal fan_refusal size_refusal refusal sharp_refusal outcome sheet_bytes vertex_block face_block sheet_outcome cut_outcome around outlines outline_outcome station_outcome of_int of_bits neg le
all_hold = refl
