-- Request [13], reading: one byte after the other, from what has been read so far; "the first byte where no allowed text can go on".
use Rattle.std.specs.Prelude.{ℕ, zero, suc, ◌+◌, ◌-◌, List, [], ◌∷◌, ◌++◌, ℤ, pos, negsuc, length}
use Rattle.lists.specs.Lists.{pick}
use Rattle.spots.specs.Spots.{is_digit, turn, is_stuck, is_line}
use Rattle.spots.specs.declared.Spot.{Spot}
use Rattle.spots.specs.declared.Spot.TheVariants.{Line, AfterV, Coord, Minus, Above, Under, AfterF, Corner, Number, Stuck}

-- the number that the byte c ends, if it ends one
abbrev pub minus : ℕ → ℤ
minus zero = pos 0
minus (suc n) = negsuc n

abbrev pub coord_by : Spot → ℕ → List ℤ
coord_by Line c = []
coord_by AfterV c = []
coord_by Coord c = []
coord_by Minus c = []
coord_by (Above n) c = pick (is_digit c) [] (pos n ∷ [])
coord_by (Under n) c = pick (is_digit c) [] (minus n ∷ [])
coord_by AfterF c = []
coord_by Corner c = []
coord_by (Number n) c = []
coord_by Stuck c = []

-- vertex numbers from 0
abbrev pub corner_by : Spot → ℕ → List ℕ
corner_by Line c = []
corner_by AfterV c = []
corner_by Coord c = []
corner_by Minus c = []
corner_by (Above n) c = []
corner_by (Under n) c = []
corner_by AfterF c = []
corner_by Corner c = []
corner_by (Number n) c = pick (is_digit c) [] ((n - 1) ∷ [])
corner_by Stuck c = []

-- what has been read: the numbers that have ended, and where the next byte stands
pub record Read : Type 0 where
  pub coords : List ℤ
  pub corners : List ℕ
  pub spot : Spot

abbrev pub begin : Read
begin = record { coords = []; corners = []; spot = Line }

unfoldable pub next : Read → ℕ → Read
next s c =
    record {
      coords = s.coords ++ coord_by s.spot c;
      corners = s.corners ++ corner_by s.spot c;
      spot = turn (length s.coords) (length s.corners) s.spot c;
    }

-- the lists, or the place of 23
pub data Reading : Type 0 where
  lists : List ℤ → List ℕ → Reading
  wrong : ℕ → Reading

unfoldable pub read_from : ℕ → Read → List ℕ → Reading
read_from at s [] = pick (is_line s.spot) (lists s.coords s.corners) (wrong at)
read_from at s (c ∷ b) = let more = read_from (at + 1) (next s c) b in pick (is_stuck (next s c).spot) (wrong at) more

unfoldable pub read_obj : List ℕ → Reading
read_obj b = read_from 0 begin b
