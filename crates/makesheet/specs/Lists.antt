-- What `makesheet` reads: levels, the number of coordinates, the number of corners, then the coordinates and the corners, little endian.
use Rattle.std.specs.Prelude.{ℕ, ◌+◌, ◌*◌, ◌≡◌, Bool, not, ◌||◌, List, ltb, eqb, ℤ, length, drop, Result, Err}
use Rattle.lists.specs.Lists.{pick}
use Rattle.rules.specs.Sheets.{word_at, words_of, coords_of, sheet_bytes}
use Rattle.rules.specs.Calls.{Lent}
use Rattle.rules.specs.declared.Refusal.{Refusal}
use Rattle.writer.specs.Writing.{written_of, bytes_left}

-- 12 bytes, and two lists of 12,288 numbers
abbrev pub most_lists : ℕ
most_lists = 98316

abbrev pub coord_list : List ℕ → List ℤ
coord_list b = coords_of (drop 12 b) (word_at b 4)

abbrev pub corner_list : List ℕ → List ℕ
corner_list b = words_of (drop (12 + 4 * word_at b 4) b) (word_at b 8)

-- 15: it is not so long as its counts say
abbrev pub bad_lists : List ℕ → Bool
bad_lists b = ltb (length b) 12 || not (eqb (length b) (12 + 4 * word_at b 4 + 4 * word_at b 8))

abbrev pub refused_by : ℕ → Result ℕ Refusal
refused_by k = Err (record { number = k; place = 0 })

-- 16, 15, then what the writer answers of the lists
unfoldable pub made : ℕ → List ℕ → Result ℕ Refusal
made room b =
    let w = written_of room (word_at b 0) (corner_list b) (coord_list b) in
    pick (ltb most_lists (length b)) (refused_by 16) (pick (bad_lists b) (refused_by 15) w)

-- the input, the lent bytes, the answer
pub record MakeCall (b : List ℕ) (out : Lent (List ℕ)) (r : Result ℕ Refusal) : Type 0 where
  pub answer : r ≡ made (length out.old) b
  pub bytes : out.new ≡ bytes_left r (sheet_bytes (word_at b 0) (corner_list b) (coord_list b)) out.old
