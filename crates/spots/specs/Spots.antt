-- Request [13], reading: where in a line the next byte stands, and where it leads.
use Rattle.std.specs.Prelude.{ℕ, ◌+◌, ◌-◌, ◌*◌, ◌/◌, ◌%◌, Bool, true, false, ◌&&◌, eqb, ltb, leb}
use Rattle.lists.specs.Lists.{pick}
use Rattle.whole.specs.Whole.{reach}
use Rattle.rules.specs.Refusals.{most_in_mesh}
use Rattle.spots.specs.declared.Spot.{Spot}
use Rattle.spots.specs.declared.Spot.TheVariants.{Line, AfterV, Coord, Minus, Above, Under, AfterF, Corner, Number, Stuck}

abbrev pub is_digit : ℕ → Bool
is_digit c = leb 48 c && leb c 57

-- a digit after n: not after a zero, and not past the most
abbrev pub grows : ℕ → ℕ → ℕ → Bool
grows n c most = is_digit c && ltb 0 n && leb (10 * n + (c - 48)) most

-- after i numbers, the next is the last of its line where i is 2 mod 3: what ends it, and what stands after
abbrev pub ends : ℕ → ℕ
ends i = pick (eqb (i % 3) 2) 10 32

abbrev pub after_number : ℕ → Spot → Spot
after_number i more = pick (eqb (i % 3) 2) Line more

-- where the byte c leads, after i coordinates and j corners
unfoldable pub turn : ℕ → ℕ → Spot → ℕ → Spot
turn i j Line c = pick (eqb c 118 && eqb j 0 && ltb i (3 * most_in_mesh)) AfterV (pick (eqb c 102 && ltb 0 i && ltb j (3 * most_in_mesh)) AfterF Stuck)
turn i j AfterV c = pick (eqb c 32) Coord Stuck
turn i j Coord c = pick (eqb c 45) Minus (pick (is_digit c) (Above (c - 48)) Stuck)
turn i j Minus c = pick (is_digit c && ltb 48 c) (Under (c - 48)) Stuck
turn i j (Above n) c = pick (eqb c (ends i)) (after_number i Coord) (pick (grows n c reach) (Above (10 * n + (c - 48))) Stuck)
turn i j (Under n) c = pick (eqb c (ends i)) (after_number i Coord) (pick (grows n c reach) (Under (10 * n + (c - 48))) Stuck)
turn i j AfterF c = pick (eqb c 32) Corner Stuck
turn i j Corner c = pick (is_digit c && ltb 48 c && leb (c - 48) (i / 3)) (Number (c - 48)) Stuck
turn i j (Number n) c = pick (eqb c (ends j)) (after_number j Corner) (pick (grows n c (i / 3)) (Number (10 * n + (c - 48))) Stuck)
turn i j Stuck c = Stuck

abbrev pub is_stuck : Spot → Bool
is_stuck Line = false
is_stuck AfterV = false
is_stuck Coord = false
is_stuck Minus = false
is_stuck (Above n) = false
is_stuck (Under n) = false
is_stuck AfterF = false
is_stuck Corner = false
is_stuck (Number n) = false
is_stuck Stuck = true

abbrev pub is_line : Spot → Bool
is_line Line = true
is_line AfterV = false
is_line Coord = false
is_line Minus = false
is_line (Above n) = false
is_line (Under n) = false
is_line AfterF = false
is_line Corner = false
is_line (Number n) = false
is_line Stuck = false
