-- docs/RULES.md, Sheets: a sheet is the vertex block, the face block, and a trailer of five numbers; little endian throughout. And what `platecut`
-- answers.
use Rattle.std.specs.Prelude.{ℕ, ◌+◌, ◌-◌, ◌*◌, ◌/◌, ◌%◌, Bool, not, ◌||◌, List, [], ◌∷◌, ◌++◌, map, ℤ, pos, negsuc, length, get_or, take, ltb, eqb}
use Rattle.lists.specs.Lists.{pick, gather, rows, part}
use Rattle.rules.specs.Position.{whole}
use Rattle.rules.specs.Refusals.{check, when, Room}
use Rattle.rules.specs.Answers.{whole_rooms, unless, outcome}
use Rattle.rules.specs.declared.Counts.{Counts}
use Rattle.rules.specs.Outcome.{Outcome}

-- the unsigned number at byte i, and the same read as a signed one
abbrev pub word_at : List ℕ → ℕ → ℕ
word_at b i = get_or b i 0 + 256 * get_or b (i + 1) 0 + 65536 * get_or b (i + 2) 0 + 16777216 * get_or b (i + 3) 0

abbrev pub signed : ℕ → ℤ
signed w = pick (ltb w 2147483648) (pos w) (negsuc (4294967295 - w))

-- and back: an unsigned number in four bytes, and the one whose bits a signed one has
abbrev pub bytes_of : ℕ → List ℕ
bytes_of w = (w % 256) ∷ (w / 256 % 256) ∷ (w / 65536 % 256) ∷ (w / 16777216 % 256) ∷ []

abbrev pub unsigned : ℤ → ℕ
unsigned (pos n) = n
unsigned (negsuc n) = 4294967295 - n

-- n numbers from byte 0 on
abbrev pub words_of : List ℕ → ℕ → List ℕ
words_of b n = rows (λ k. word_at b (4 * k) ∷ []) n

abbrev pub coords_of : List ℕ → ℕ → List ℤ
coords_of b n = rows (λ k. signed (word_at b (4 * k)) ∷ []) n

-- ---- the trailer: vertex offset, V, face offset, F, levels

abbrev pub trailer : List ℕ → ℕ → ℕ
trailer b i = word_at b (length b - 20 + i)

abbrev pub sheet_verts : List ℕ → ℕ
sheet_verts b = trailer b 4

abbrev pub sheet_faces : List ℕ → ℕ
sheet_faces b = trailer b 12

abbrev pub sheet_levels : List ℕ → ℕ
sheet_levels b = trailer b 16

-- 15, without wrap
abbrev pub bad_sheet : List ℕ → Bool
bad_sheet b =
    ltb (length b) 20 || not (eqb (trailer b 0) 0) || not (eqb (trailer b 8) (12 * sheet_verts b))
    || not (eqb (length b) (12 * sheet_verts b + 12 * sheet_faces b + 20))

-- ---- the blocks, each "as that stretch of the file's own bytes"; of a refused sheet an empty part

unfoldable pub vertex_block : List ℕ → List ℕ
vertex_block b = pick (bad_sheet b) [] (take (12 * sheet_verts b) b)

unfoldable pub face_block : List ℕ → List ℕ
face_block b = pick (bad_sheet b) [] (part (12 * sheet_verts b) (12 * sheet_faces b) b)

abbrev pub sheet_coords : List ℕ → List ℤ
sheet_coords b = coords_of (vertex_block b) (3 * sheet_verts b)

abbrev pub sheet_indices : List ℕ → List ℕ
sheet_indices b = words_of (face_block b) (3 * sheet_faces b)

-- ---- request [1]: the sheet of levels, face list and coordinates

unfoldable pub sheet_bytes : ℕ → List ℕ → List ℤ → List ℕ
sheet_bytes l fs xs =
    let v = length xs / 3 in let f = length fs / 3 in
    gather bytes_of (map unsigned xs) ++ (gather bytes_of fs ++ gather bytes_of (0 ∷ v ∷ 12 * v ∷ f ∷ l ∷ []))

-- ---- the whole engine on a sheet

unfoldable pub sheet_outcome : (Counts → List Room) → List ℕ → Outcome
sheet_outcome rooms b =
    let o = outcome whole rooms (sheet_levels b) (sheet_indices b) (sheet_coords b) in
    unless (check 15 (when (bad_sheet b))) o

-- "lending room for 512 faces and 512 vertices"
abbrev pub cut_rooms : Counts → List Room
cut_rooms = whole_rooms (3 * 512) (3 * 512) (16 * 512 + 8 * 512) (6 * 512)

abbrev pub most_input : ℕ
most_input = 32768

unfoldable pub cut_outcome : List ℕ → Outcome
cut_outcome b =
    let o = sheet_outcome cut_rooms b in
    unless (check 16 (when (ltb most_input (length b)))) o
