-- The corners that a walk over link words passes: where they lie, what follows each, and what they say of the fan.
use mathlib.Core.Path.{◌≡◌, refl, sym, ap, ◌∙◌, subst}
use mathlib.Core.Logic.{◌≢◌}
use Prim.Native.Nat.{ℕ, zero, suc, ◌-◌, ◌*◌, ◌/◌, ◌≤◌, ◌<◌}
use native.Mathlib.Nat.{not-suc-le-zero}
use native.Mathlib.Decide.{dec_lt}
use native.Mathlib.Omega.{arith}
use mathlib.Core.List.{List}
use mathlib.Core.Option.{Option}
use lib.ListN.{length, get_or}
use Rattle.lists.specs.Lists.{last_of}
use Rattle.lists.proofs.Places.{last-at}
use Rattle.rules.specs.Mesh as mesh
use Rattle.rules.specs.Mesh.{closed, ended, long, walk, passed, stop_of, Stop, home, off, here, next_corner, prev_corner, Fan, inner, rim, endless, rim_fan, fan_of, fan, valence}
use Rattle.rules.proofs.Walks.{trail, chain, last-stop, Stopped, all_of}
use Rattle.faces.specs.Words.{links_in}
use Rattle.faces.specs.Rings.{Walkable, Ends, step_of, trip_by, trip_of}
use Rattle.faces.specs.declared.walks.Step.TheVariants as step
use Rattle.faces.specs.declared.walks.Trip.TheVariants as trip
use Rattle.faces.proofs.Links.{next-below, length-links_in}

pub some-passed : (next : ℕ → mesh.Step) (n s : ℕ) → 0 < n → 0 < length (trail next n (here s))
some-passed next zero s h = absurd (not-suc-le-zero h)
some-passed next (suc n) s h = omega arith

pub ended_is : (st : Stop) (a b m e : ℕ) → trip_by st a b ≡ trip.Ended m e → b ≡ e
ended_is closed a b m e q = absurd (let z : ◌≡◌ {A = ℕ} 0 1 = cc in omega arith)
ended_is ended a b m e q = cc
ended_is long a b m e q = absurd (let z : ◌≡◌ {A = ℕ} 0 1 = cc in omega arith)

-- ---- over link words that keep their bounds

module _ (w : List ℕ) (at n s : ℕ) (p : Walkable w at n s) where
  pub faces-in : length (links_in w at (3 * n)) / 3 ≡ n
  faces-in = omega (arith, length-links_in w at (3 * n) p.room)

  pub filled : 0 < n
  filled = omega (arith, p.start)

  pub from-corner : (x : ℕ) → x < 3 * n → Walkable w at n x
  from-corner x h = record { room = p.room; start = h; linked = p.linked }

  pub next-trail : (k : ℕ) → k < length (trail (next_corner (links_in w at (3 * n)) s) n (here s)) → get_or (trail (next_corner (links_in w at (3 * n)) s) n (here s)) k 0 < 3 * n
  next-trail k h = all_of (next_corner (links_in w at (3 * n)) s) (λ x. x < 3 * n) (λ x t b e. next-below w at n s p s x t b (ap step_of e)) n s k p.start h

  pub last-below : last_of 0 (trail (next_corner (links_in w at (3 * n)) s) n (here s)) < 3 * n
  last-below =
      let cs = trail (next_corner (links_in w at (3 * n)) s) n (here s) in
      let h : 0 < length cs = some-passed (next_corner (links_in w at (3 * n)) s) n s filled in
      rw (last-at 0 cs h) (next-trail (length cs - 1) (omega arith))

  pub end_below : (m e : ℕ) → trip_of (walk (next_corner (links_in w at (3 * n)) s) n (here s)) ≡ trip.Ended m e → e < 3 * n
  end_below m e q =
      let v = walk (next_corner (links_in w at (3 * n)) s) n (here s) in
      rw (← ended_is (stop_of v) (length (passed v)) (last_of 0 (passed v)) m e q) last-below

-- ---- what follows the kth corner of a walk that ends

module _ (next : ℕ → mesh.Step) (n s : ℕ) where
  data Goes (k : ℕ) : mesh.Step → Type 0 where
    more : suc k < length (trail next n (here s)) → Goes k (here (get_or (trail next n (here s)) (suc k) 0))
    back : suc k ≡ length (trail next n (here s)) → Goes k home
    over : suc k ≡ length (trail next n (here s)) → Goes k off

  goes : stop_of (walk next n (here s)) ≢ long → (k : ℕ) → k < length (trail next n (here s)) → Goes k (next (get_or (trail next n (here s)) k 0))
  goes f k h = go (dec_lt (suc k) (length (trail next n (here s))))
    where
      at_last : suc k ≡ length (trail next n (here s)) → (st : Stop) → st ≢ long → Stopped next (get_or (trail next n (here s)) k 0) st → Goes k (next (get_or (trail next n (here s)) k 0))
      at_last q closed f e = rw e (back q)
      at_last q ended f e = rw e (over q)
      at_last q long f e = absurd (f refl)

      go : Dec (suc k < length (trail next n (here s))) → Goes k (next (get_or (trail next n (here s)) k 0))
      go (yes l) = rw (chain next n (here s) k l) (more l)
      go (no l) =
          let q : suc k ≡ length (trail next n (here s)) = omega arith in
          let r : length (trail next n (here s)) - 1 ≡ k = omega arith in
          let e : last_of 0 (trail next n (here s)) ≡ get_or (trail next n (here s)) k 0 = last-at 0 (trail next n (here s)) (omega arith) ∙ ap (λ (z : ℕ). get_or (trail next n (here s)) z 0) r in
          at_last q (stop_of (walk next n (here s))) f (rw e at (last-stop next n s 0))

  goes-here : (k t : ℕ) (st : mesh.Step) → Goes k st → step_of st ≡ step.Here t → (suc k < length (trail next n (here s))) × (t ≡ get_or (trail next n (here s)) (suc k) 0)
  goes-here k t _ (more l) e = (l, (let r : get_or (trail next n (here s)) (suc k) 0 ≡ t = cc in sym r))
  goes-here k t _ (back q) e = absurd (let z : ◌≡◌ {A = ℕ} 0 1 = cc in omega arith)
  goes-here k t _ (over q) e = absurd (let z : ◌≡◌ {A = ℕ} 0 1 = cc in omega arith)

  goes-home : (k : ℕ) (st : mesh.Step) → Goes k st → step_of st ≡ step.Home → suc k ≡ length (trail next n (here s))
  goes-home k _ (more l) e = absurd (let z : ◌≡◌ {A = ℕ} 0 1 = cc in omega arith)
  goes-home k _ (back q) e = q
  goes-home k _ (over q) e = q

  goes-off : (k : ℕ) (st : mesh.Step) → Goes k st → step_of st ≡ step.Off → suc k ≡ length (trail next n (here s))
  goes-off k _ (more l) e = absurd (let z : ◌≡◌ {A = ℕ} 0 1 = cc in omega arith)
  goes-off k _ (back q) e = q
  goes-off k _ (over q) e = q

  module _ (f : stop_of (walk next n (here s)) ≢ long) (k x : ℕ) (h : k < length (trail next n (here s))) (e : x ≡ get_or (trail next n (here s)) k 0) where
    pub then-here : (t : ℕ) → step_of (next x) ≡ step.Here t → (suc k < length (trail next n (here s))) × (t ≡ get_or (trail next n (here s)) (suc k) 0)
    then-here t q = goes-here k t (next x) (rw e (goes f k h)) q

    pub then-home : step_of (next x) ≡ step.Home → suc k ≡ length (trail next n (here s))
    then-home q = goes-home k (next x) (rw e (goes f k h)) q

    pub then-off : step_of (next x) ≡ step.Off → suc k ≡ length (trail next n (here s))
    then-off q = goes-off k (next x) (rw e (goes f k h)) q

-- ---- the fan of a turn

pub record IsInner (ls : List (Option ℕ)) (n s : ℕ) : Type 0 where
  pub is : fan ls s ≡ inner (trail (next_corner ls s) n (here s))
  pub closes : stop_of (walk (next_corner ls s) n (here s)) ≡ closed

pub record IsRim (ls : List (Option ℕ)) (n s e : ℕ) : Type 0 where
  pub is : fan ls s ≡ rim (trail (prev_corner ls e) n (here e))
  pub stops : stop_of (walk (prev_corner ls e) n (here e)) ≢ long
  pub end : last_of 0 (trail (next_corner ls s) n (here s)) ≡ e

closed-long : {st : Stop} → st ≡ closed → st ≢ long
closed-long e q = let z : ◌≡◌ {A = ℕ} 0 1 = cc in omega arith

ended-long : {st : Stop} → st ≡ ended → st ≢ long
ended-long e q = let z : ◌≡◌ {A = ℕ} 0 1 = cc in omega arith

module _ (ls : List (Option ℕ)) (n s : ℕ) (size : length ls / 3 ≡ n) where
  fan-as : fan ls s ≡ fan_of ls n (trail (next_corner ls s) n (here s)) (stop_of (walk (next_corner ls s) n (here s)))
  unfolding fan
  fan-as = rw size

  -- by what the walk on found
  pub inner-is : (m : ℕ) → trip_of (walk (next_corner ls s) n (here s)) ≡ trip.Closed m → IsInner ls n s
  inner-is m q = go (stop_of (walk (next_corner ls s) n (here s))) refl fan-as q
    where
      go : (st : Stop) → stop_of (walk (next_corner ls s) n (here s)) ≡ st → fan ls s ≡ fan_of ls n (trail (next_corner ls s) n (here s)) st → trip_by st (length (trail (next_corner ls s) n (here s))) (last_of 0 (trail (next_corner ls s) n (here s))) ≡ trip.Closed m → IsInner ls n s
      go closed e f y = record { is = f; closes = e }
      go ended e f y = absurd (let z : ◌≡◌ {A = ℕ} 0 1 = cc in omega arith)
      go long e f y = absurd (let z : ◌≡◌ {A = ℕ} 0 1 = cc in omega arith)

  pub rim-is : fan ls s ≢ endless → (m e : ℕ) → trip_of (walk (next_corner ls s) n (here s)) ≡ trip.Ended m e → IsRim ls n s e
  rim-is turns m e q = go (stop_of (walk (next_corner ls s) n (here s))) fan-as q
    where
      back : (l : ℕ) → last_of 0 (trail (next_corner ls s) n (here s)) ≡ l → (st : Stop) → stop_of (walk (prev_corner ls l) n (here l)) ≡ st
          → fan ls s ≡ rim_fan (trail (prev_corner ls l) n (here l)) st → IsRim ls n s l
      back l a closed d f = absurd (turns f)
      back l a ended d f = record { is = f; stops = ended-long d; end = a }
      back l a long d f = absurd (turns f)

      go : (st : Stop) → fan ls s ≡ fan_of ls n (trail (next_corner ls s) n (here s)) st → trip_by st (length (trail (next_corner ls s) n (here s))) (last_of 0 (trail (next_corner ls s) n (here s))) ≡ trip.Ended m e → IsRim ls n s e
      go closed f y = absurd (let z : ◌≡◌ {A = ℕ} 0 1 = cc in omega arith)
      go ended f y =
          let l = last_of 0 (trail (next_corner ls s) n (here s)) in
          let z : l ≡ e = cc in
          subst (IsRim ls n s) z (back l refl (stop_of (walk (prev_corner ls l) n (here l))) refl f)
      go long f y = absurd (let z : ◌≡◌ {A = ℕ} 0 1 = cc in omega arith)

  pub long-is : trip_of (walk (next_corner ls s) n (here s)) ≡ trip.Long → fan ls s ≡ endless
  long-is q = go (stop_of (walk (next_corner ls s) n (here s))) fan-as q
    where
      go : (st : Stop) → fan ls s ≡ fan_of ls n (trail (next_corner ls s) n (here s)) st → trip_by st (length (trail (next_corner ls s) n (here s))) (last_of 0 (trail (next_corner ls s) n (here s))) ≡ trip.Long → fan ls s ≡ endless
      go closed f y = absurd (let z : ◌≡◌ {A = ℕ} 0 1 = cc in omega arith)
      go ended f y = absurd (let z : ◌≡◌ {A = ℕ} 0 1 = cc in omega arith)
      go long f y = f

-- what the walk of a ring asks, where the valence is in bounds
pub inner-ends : (ls : List (Option ℕ)) (n s m : ℕ) → IsInner ls n s → valence (fan ls s) ≤ m → Ends (next_corner ls s) n s m
inner-ends ls n s m i h = record { stops = closed-long i.closes; few = rw i.is at h }
