-- What `objsheet` makes of a number of levels and an OBJ text.
use Rattle.std.specs.Prelude.{ℕ, ◌-◌, ◌≡◌, List, [], ◌∷◌, ltb, length, Option, Some, None, Result, Err}
use Rattle.lists.specs.Lists.{pick}
use Rattle.rules.specs.Sheets.{sheet_bytes}
use Rattle.rules.specs.Calls.{Lent}
use Rattle.rules.specs.declared.Refusal.{Refusal}
use Rattle.writer.specs.Writing.{written_of, bytes_left}
use Rattle.spots.specs.Spots.{is_digit}
use Rattle.obj.specs.Reading.{Reading, lists, wrong, read_obj}
use Rattle.obj.specs.Calls.{coords_of, corners_of}

-- the word that gives the levels is one digit; 8 and 9 are the writer's to refuse
abbrev pub levels_of : List ℕ → Option ℕ
levels_of [] = None
levels_of (c ∷ []) = pick (is_digit c) (Some (c - 48)) None
levels_of (c ∷ d ∷ w) = None

-- as long as the longest text
abbrev pub most_text : ℕ
most_text = 1900544

abbrev pub refused_by : ℕ → ℕ → Result ℕ Refusal
refused_by n p = Err (record { number = n; place = p })

-- 23, then what the writer answers of the lists
abbrev pub made_of : ℕ → ℕ → Reading → Result ℕ Refusal
made_of room l (wrong n) = refused_by 23 n
made_of room l (lists xs fs) = written_of room l fs xs

-- 16 before all
unfoldable pub made : ℕ → ℕ → List ℕ → Result ℕ Refusal
made room l b = let w = made_of room l (read_obj b) in pick (ltb most_text (length b)) (refused_by 16 0) w

-- levels, the text, the lent bytes, the answer
pub record ObjSheetCall (l : ℕ) (b : List ℕ) (out : Lent (List ℕ)) (r : Result ℕ Refusal) : Type 0 where
  pub answer : r ≡ made (length out.old) l b
  pub bytes : out.new ≡ bytes_left r (sheet_bytes l (corners_of (read_obj b)) (coords_of (read_obj b))) out.old
