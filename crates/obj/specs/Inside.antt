-- The reader and the writer from inside: the number that a byte ends, digits that carry one on, what a passage over the text sees.
use Rattle.std.specs.Prelude.{ℕ, ◌+◌, ◌-◌, ◌*◌, ◌<◌, ◌≡◌, Bool, true, false, List, [], ◌∷◌, ltb, leb, ℤ, pos, length, get_or, Option, Some, None, Result, Ok, Err}
use Rattle.lists.specs.Lists.{pick}
use Rattle.whole.specs.Whole.{reach}
use Rattle.rules.specs.declared.Refusal.{Refusal}
use Rattle.spots.specs.Spots.{is_digit, grows}
use Rattle.obj.specs.Reading.{Reading, lists, wrong, minus}
use Rattle.spots.specs.declared.Spot.{Spot}
use Rattle.spots.specs.declared.Spot.TheVariants.{Line, AfterV, Coord, Minus, Above, Under, AfterF, Corner, Number, Stuck}
use Rattle.obj.specs.declared.Held.{Held}
use Rattle.obj.specs.declared.Held.TheVariants.{Plus, Less, Corner as CornerOf}
use Rattle.obj.specs.declared.Counted.{Counted}

-- ---- the number that a byte ends

-- the number at a spot, and what it is where it ends
abbrev pub held_at : Spot → Option Held
held_at Line = None
held_at AfterV = None
held_at Coord = None
held_at Minus = None
held_at (Above n) = Some (Plus n)
held_at (Under n) = Some (Less n)
held_at AfterF = None
held_at Corner = None
held_at (Number n) = Some (CornerOf n)
held_at Stuck = None

-- the number that the byte c ends
abbrev pub ended_by : Spot → ℕ → Option Held
ended_by p c = pick (is_digit c) None (held_at p)

abbrev pub coords_held : Option Held → List ℤ
coords_held None = []
coords_held (Some (Plus n)) = pos n ∷ []
coords_held (Some (Less n)) = minus n ∷ []
coords_held (Some (CornerOf n)) = []

abbrev pub corners_held : Option Held → List ℕ
corners_held None = []
corners_held (Some (Plus n)) = []
corners_held (Some (Less n)) = []
corners_held (Some (CornerOf n)) = (n - 1) ∷ []

-- a number that the code can hold
abbrev pub fits : Option Held → Bool
fits None = true
fits (Some (Plus n)) = leb n reach
fits (Some (Less n)) = leb n reach
fits (Some (CornerOf n)) = ltb 0 n

-- ---- what a passage over the text sees

abbrev pub seen_of : Reading → Result Counted Refusal
seen_of (lists xs fs) = Ok (record { coords = length xs; corners = length fs })
seen_of (wrong n) = Err (record { number = 23; place = n })

abbrev pub is_whole : Reading → Bool
is_whole (lists xs fs) = true
is_whole (wrong n) = false

-- ---- digits that carry a number on: from n₀ at byte k₀ to n at byte k of b, none past the most

pub data Run (b : List ℕ) (most n₀ k₀ : ℕ) : ℕ → ℕ → Type 0 where
  no_digit : Run b most n₀ k₀ n₀ k₀
  one_more : (n k : ℕ) → Run b most n₀ k₀ n k → k < length b → grows n (get_or b k 0) most ≡ true → Run b most n₀ k₀ (10 * n + (get_or b k 0 - 48)) (k + 1)

-- from a spot at byte k₀, v vertices being read
pub data Onward (b : List ℕ) (v k₀ : ℕ) : Spot → Spot → ℕ → Type 0 where
  stays : (p : Spot) → Onward b v k₀ p p k₀
  above : (n₀ n k : ℕ) → Run b reach n₀ k₀ n k → Onward b v k₀ (Above n₀) (Above n) k
  under : (n₀ n k : ℕ) → Run b reach n₀ k₀ n k → Onward b v k₀ (Under n₀) (Under n) k
  corner : (n₀ n k : ℕ) → Run b v n₀ k₀ n k → Onward b v k₀ (Number n₀) (Number n) k

-- ---- the writer: corners that can be counted from 1

pub record Small (fs : List ℕ) : Type 0 where
  pub each : (j : ℕ) → j < length fs → get_or fs j 0 < 32768
