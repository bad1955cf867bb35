-- What the walks round a vertex answer, of the walks, fans and rings of crate `rules`.
use Rattle.std.specs.Prelude.{ℕ, zero, suc, ◌+◌, ◌*◌, ◌≤◌, ◌<◌, ◌≡◌, ◌≢◌, Bool, true, false, List, [], ◌∷◌, map, length, get_or}
use Rattle.std.proofs.Math.Option.{none, some}
use Rattle.lists.specs.Lists.{last_of}
use Rattle.turns.specs.Turns.{most_valence}
use Rattle.rules.specs.Mesh as mesh
use Rattle.rules.specs.Mesh.{onward, backward, corner, Walk, walk, passed, stop_of, Stop, Fan, inner, rim, endless, fan, valence, ring}
use Rattle.faces.specs.Words.{link_of, links_in}
use Rattle.faces.specs.declared.sides.VertNo.{VertNo}
use Rattle.faces.specs.declared.walks.Step.{Step}
use Rattle.faces.specs.declared.walks.Step.TheVariants as step
use Rattle.faces.specs.declared.walks.Trip.{Trip}
use Rattle.faces.specs.declared.walks.Trip.TheVariants as trip
use Rattle.faces.specs.declared.walks.Turn.{Turn}
use Rattle.faces.specs.declared.walks.Turn.TheVariants as turn
use Rattle.faces.specs.declared.rings.Ring.{Ring}

-- what a walk asks, and no more than bounds: the link words of n faces from `at` on lead to no side past them, and corner s is one of theirs
pub record Walkable (w : List ℕ) (at n s : ℕ) : Type 0 where
  pub room : at + 3 * n ≤ length w
  pub start : s < 3 * n
  pub linked : (i : ℕ) → i < 3 * n → get_or w (at + i) 0 ≤ 3 * n

-- a side across starts where the side ends
pub record Mated (w : List ℕ) (corners links n : ℕ) : Type 0 where
  pub from : (i t : ℕ) → i < 3 * n → link_of (get_or w (links + i) 0) ≡ some t → get_or w (corners + t) 0 ≡ get_or w (corners + onward i) 0

-- and what a ring asks: the corners of n faces stand from `corners` on, links lead back, the walks end, and the ring fits
pub record Ringable (w : List ℕ) (corners links n s : ℕ) : Type 0 where
  pub walkable : Walkable w links n s
  pub room : corners + 3 * n ≤ length w
  pub mated : Mated w corners links n
  pub leads : (i t : ℕ) → get_or (links_in w links (3 * n)) i none ≡ some t → get_or (links_in w links (3 * n)) t none ≡ some i
  pub turns : fan (links_in w links (3 * n)) s ≢ endless
  pub few : valence (fan (links_in w links (3 * n)) s) ≤ most_valence

-- what the walk of a ring asks: it ends, and within so many corners
pub record Ends (next : ℕ → mesh.Step) (n s most : ℕ) : Type 0 where
  pub stops : stop_of (walk next n (mesh.here s)) ≢ mesh.long
  pub few : length (passed (walk next n (mesh.here s))) ≤ most

-- what a walk asks of its step where there are n faces: it may be asked at each of their corners, and leads to no other
pub record Steps (pre : ℕ → Type 0) (post : ℕ → Step → Type 0) (n : ℕ) : Type 0 where
  pub asks : (x : ℕ) → x < 3 * n → pre x
  pub stays : (x t : ℕ) → x < 3 * n → post x (step.Here t) → t < 3 * n

abbrev pub step_of : mesh.Step → Step
step_of mesh.home = step.Home
step_of mesh.off = step.Off
step_of (mesh.here s) = step.Here s

-- a step answers at each corner of n faces what `next` does
pub record Follows (post : ℕ → Step → Type 0) (n : ℕ) (next : ℕ → mesh.Step) : Type 0 where
  pub each : (x : ℕ) (r : Step) → x < 3 * n → post x r → r ≡ step_of (next x)

-- why a walk stopped, with the corners passed and the last of them
abbrev pub trip_by : Stop → ℕ → ℕ → Trip
trip_by mesh.closed n e = trip.Closed n
trip_by mesh.ended n e = trip.Ended n e
trip_by mesh.long n e = trip.Long

abbrev pub trip_of : Walk → Trip
trip_of w = trip_by (stop_of w) (length (passed w)) (last_of 0 (passed w))

abbrev pub turn_of : Fan → Turn
turn_of (inner cs) = turn.Inner (length cs)
turn_of (rim cs) = turn.Rim (length cs) (get_or cs 0 0)
turn_of endless = turn.Endless

-- what is left of it after the walk back from the end corner
abbrev pub rim_turn : Trip → ℕ → Turn
rim_turn (trip.Closed n) e = turn.Endless
rim_turn (trip.Ended n d) e = turn.Rim n e
rim_turn trip.Long e = turn.Endless

-- the same valence
abbrev pub valence_of : Turn → ℕ
valence_of (turn.Inner n) = n
valence_of (turn.Rim n e) = suc n
valence_of turn.Endless = 0

abbrev pub is_rim : Fan → Bool
is_rim (inner cs) = false
is_rim (rim cs) = true
is_rim endless = false

abbrev pub vert : ℕ → VertNo
vert v = record { 0 = v }

-- the ring of 01, over the corners of an inner vertex; and over those of a rim vertex, from its end corner e
abbrev pub inners : List ℕ → List ℕ → List ℕ
inners fs cs = map (λ s. corner fs (onward s)) cs

abbrev pub backs : List ℕ → List ℕ → List ℕ
backs fs cs = map (λ s. corner fs (backward s)) cs

-- the entries j, j - 1, .., 0
abbrev pub down_from : List ℕ → ℕ → List ℕ
down_from cs zero = get_or cs 0 0 ∷ []
down_from cs (suc j) = get_or cs (suc j) 0 ∷ down_from cs j

-- how many are in a ring, and of which kind
abbrev pub ring_of : List ℕ → Fan → Ring
ring_of fs f = record { n = length (ring fs f); rim = is_rim f }
