-- What a walk finds, as its loop goes; and the turn round a vertex of its two walks.
use mathlib.Core.Path.{◌≡◌, refl, ap}
use Prim.Native.Nat.{ℕ, zero, suc, ◌+◌, ◌-◌, ◌/◌, ◌<◌}
use native.Mathlib.Nat.{not-suc-le-zero}
use native.Mathlib.Omega.{arith}
use mathlib.Core.List.{List}
use mathlib.Core.Option.{Option}
use lib.ListN.{length, get_or}
use Rattle.lists.specs.Lists.{last_of}
use Rattle.rules.specs.Mesh as mesh
use Rattle.rules.specs.Mesh.{Walk, stop, past, closed, ended, long, walk, passed, stop_of, Stop, home, off, here, next_corner, prev_corner, rim_fan, fan_of, fan}
use Rattle.faces.specs.Rings.{step_of, trip_by, trip_of, rim_turn, turn_of}
use Rattle.faces.specs.declared.walks.Step.{Step}
use Rattle.faces.specs.declared.walks.Step.TheVariants as step
use Rattle.faces.specs.declared.walks.Trip.{Trip}
use Rattle.faces.specs.declared.walks.Trip.TheVariants as trip
use Rattle.faces.specs.declared.walks.Turn.{Turn}
use Rattle.faces.specs.declared.walks.Turn.TheVariants as turn

-- a walk with n corners before it, the last of them e
abbrev pub trip_from : ℕ → ℕ → Walk → Trip
trip_from n e (stop closed) = trip.Closed n
trip_from n e (stop ended) = trip.Ended n e
trip_from n e (stop long) = trip.Long
trip_from n e (past s w) = trip_from (n + 1) s w

-- after n corners, the last of them e, by the next step
abbrev pub trip_on : (ℕ → Trip) → ℕ → ℕ → Step → Trip
trip_on go n e step.Home = trip.Closed n
trip_on go n e step.Off = trip.Ended n e
trip_on go n e (step.Here t) = go t

trip-is : (n e : ℕ) (w : Walk) → trip_by (stop_of w) (n + length (passed w)) (last_of e (passed w)) ≡ trip_from n e w
trip-is n e (stop closed) = ap trip.Closed (omega arith)
trip-is n e (stop ended) = ap (λ (k : ℕ). trip.Ended k e) (omega arith)
trip-is n e (stop long) = refl
trip-is n e (past s w) =
    let q : n + suc (length (passed w)) ≡ n + 1 + length (passed w) = omega arith in
    rw q (trip-is (n + 1) s w)

module _ (next : ℕ → mesh.Step) where
  -- the whole walk
  pub trip-starts : (n s : ℕ) → trip_of (walk next n (here s)) ≡ trip_from 0 0 (walk next (n - 0) (here s))
  trip-starts n s =
      let w = walk next n (here s) in
      let q : n - 0 ≡ n = omega arith in
      let z : 0 + length (passed w) ≡ length (passed w) = omega arith in
      rw q (rw z at (trip-is 0 0 w))

  trip-on : (k n e : ℕ) (st : mesh.Step) → trip_from n e (walk next k st) ≡ trip_on (λ t. trip_from n 0 (walk next k (here t))) n e (step_of st)
  trip-on zero n e home = refl
  trip-on zero n e off = refl
  trip-on zero n e (here t) = refl
  trip-on (suc k) n e home = refl
  trip-on (suc k) n e off = refl
  trip-on (suc k) n e (here t) = refl

  -- one corner more
  pub trip-turn : (m n x : ℕ) → n < m →
      trip_from n 0 (walk next (m - n) (here x)) ≡ trip_on (λ t. trip_from (n + 1) 0 (walk next (m - (n + 1)) (here t))) (n + 1) x (step_of (next x))
  trip-turn m n x h =
      let e : m - n ≡ suc (m - (n + 1)) = omega arith in
      rw e (trip-on (m - (n + 1)) (n + 1) x (next x))

-- ---- the turn, of the walk on and of the walk back from its end

abbrev pub turn_by : (ℕ → Trip) → Trip → Turn
turn_by back (trip.Closed n) = turn.Inner n
turn_by back (trip.Ended n e) = rim_turn (back e) e
turn_by back trip.Long = turn.Endless

pub first-passed : (next : ℕ → mesh.Step) (n s : ℕ) → 0 < n → get_or (passed (walk next n (here s))) 0 0 ≡ s
first-passed next zero s h = absurd (not-suc-le-zero h)
first-passed next (suc n) s h = refl

module _ (ls : List (Option ℕ)) (n : ℕ) (filled : 0 < n) where
  abbrev back_from : ℕ → Trip
  back_from e = trip_of (walk (prev_corner ls e) n (here e))

  turn-back : (e : ℕ) (st : Stop) → turn_of (rim_fan (passed (walk (prev_corner ls e) n (here e))) st) ≡
      rim_turn (trip_by st (length (passed (walk (prev_corner ls e) n (here e)))) (last_of 0 (passed (walk (prev_corner ls e) n (here e))))) e
  turn-back e closed = refl
  turn-back e ended = ap (turn.Rim (length (passed (walk (prev_corner ls e) n (here e))))) (first-passed (prev_corner ls e) n e filled)
  turn-back e long = refl

  turn_on : (cs : List ℕ) (st : Stop) → turn_of (fan_of ls n cs st) ≡ turn_by back_from (trip_by st (length cs) (last_of 0 cs))
  turn_on cs closed = refl
  turn_on cs ended = turn-back (last_of 0 cs) (stop_of (walk (prev_corner ls (last_of 0 cs)) n (here (last_of 0 cs))))
  turn_on cs long = refl

  pub turn_is : (s : ℕ) → length ls / 3 ≡ n → turn_of (fan ls s) ≡ turn_by (λ e. trip_of (walk (prev_corner ls e) n (here e))) (trip_of (walk (next_corner ls s) n (here s)))
  unfolding fan
  turn_is s size = rw size (turn_on (passed (walk (next_corner ls s) n (here s))) (stop_of (walk (next_corner ls s) n (here s))))
