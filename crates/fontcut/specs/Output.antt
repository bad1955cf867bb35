-- What `fontcut` reads, and what it writes for it.
use Rattle.std.specs.Prelude.{ℕ, zero, suc, ◌+◌, ◌*◌, Bool, ◌||◌, List, [], ◌∷◌, ◌++◌, ltb, eqb, ℤ, pos, length, get_or, take, drop, replicate}
use Rattle.lists.specs.Lists.{pick}
use Rattle.rules.specs.Position.{whole}
use Rattle.rules.specs.Levels.{positions as positions_of}
use Rattle.rules.specs.Answers.{answer}
use Rattle.rules.specs.Sheets.{word_at, words_of}
use Rattle.rules.specs.Calls.{Buffers, sheet_last}
use Rattle.alphabet.specs.Sheets.{four, Done, nothing, answered, next, cut, most_sheets, wrong}
use Rattle.listing.specs.Text.{mesh_text, refused_text}

-- ---- the input: how many sheets, the length of each in bytes, then the sheets end to end; numbers in four bytes, little endian

abbrev pub lengths_of : List ℕ → List ℕ
lengths_of b = words_of (drop 4 b) (word_at b 0)

abbrev pub sheets_of : List ℕ → List ℕ
sheets_of b = drop (4 + 4 * word_at b 0) b

-- it ends before its lengths do, or counts over 64
abbrev pub bad_head : List ℕ → Bool
bad_head b = ltb (length b) 4 || ltb most_sheets (word_at b 0) || ltb (length b) (4 + 4 * word_at b 0)

-- ---- the output: the text of each sheet in turn, as `platecut` has it

-- of an answer's five numbers: the plate where the first is 0, else the refusal
unfoldable pub slot_text : List ℕ → List ℤ → List ℕ → List ℕ
slot_text s ps is =
    let mesh = mesh_text (record { vertices = get_or s 2 0; faces = get_or s 3 0; rims = get_or s 4 0 }) ps is in
    pick (eqb (get_or s 0 0) 0) mesh (refused_text (record { number = get_or s 0 0; place = get_or s 1 0 }))

-- of each sheet by itself with the room still free
unfoldable pub texts : Done → List (List ℕ) → List ℕ
texts d [] = []
texts d (b ∷ bs) = slot_text (answer (answered d b)) (positions_of whole (sheet_last b)) (sheet_last b).mesh.faces ++ texts (next d b) bs

-- room for 4,096 vertices and 4,096 faces in all, and 64 slots
unfoldable pub room_lent : Buffers ℤ
room_lent = four (replicate 12288 (pos 0)) (replicate 12288 0) (replicate 98304 0) (replicate 24576 (pos 0))

abbrev pub entries : ℕ
entries = 320

abbrev pub refused_by : ℕ → List ℕ
refused_by n = refused_text (record { number = n; place = 0 })

-- of sheets end to end and their lengths
unfoldable pub batch_text : List ℕ → List ℕ → List ℕ
batch_text b ns = let all = texts (nothing room_lent) (cut ns b) in pick (wrong (length b) ns entries) (refused_by 19) all

-- of a whole input
abbrev pub most_input : ℕ
most_input = 262144

unfoldable pub font_text : List ℕ → List ℕ
font_text b =
    let batch = batch_text (sheets_of b) (lengths_of b) in
    pick (ltb most_input (length b)) (refused_by 16) (pick (bad_head b) (refused_by 19) batch)

-- ---- slot by slot: n slots from the front of s, over what their sheets left in positions and indices

unfoldable pub slot_texts : ℕ → List ℕ → List ℤ → List ℕ → List ℕ
slot_texts zero s ps is = []
slot_texts (suc n) s ps is =
    slot_text s (take (3 * get_or s 2 0) ps) (take (3 * get_or s 3 0) is) ++ slot_texts n (drop 5 s) (drop (3 * get_or s 2 0) ps) (drop (3 * get_or s 3 0) is)

-- three times entry j of each slot: the positions that they take with j = 2, the indices with 3
unfoldable pub sums : ℕ → ℕ → List ℕ → ℕ
sums j zero s = 0
sums j (suc n) s = 3 * get_or s j 0 + sums j n (drop 5 s)
