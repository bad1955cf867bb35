-- The fan of an old vertex in the refined mesh is its old fan, corner for corner.
use mathlib.Core.Path.{◌≡◌, refl, sym, ap}
use Prim.Native.Nat.{ℕ, zero, suc, ◌+◌, ◌*◌, ◌/◌, ◌<◌}
use native.Mathlib.Nat.{suc-add}
use native.Mathlib.Omega.{arith}
use mathlib.Core.Bool.{Bool, true, false}
use mathlib.Core.List.{List, [], ◌∷◌, map}
use mathlib.Core.Option.{Option, none, some}
use lib.Dec.{T, eqb, eqb→eq}
use lib.Ieee.Fits.{eq→eqb}
use lib.ListN.{length, get_or, length-map}
use Rattle.lists.specs.Lists.{pick, last_of}
use Rattle.rules.specs.Mesh.{onward, backward, links, through, restart, Step, home, off, here, Stop, closed, ended, long, Walk, stop, past, walk, passed, stop_of, step_to, next_corner, prev_corner, Fan, inner, rim, endless, rim_fan, fan_of, fan, valence}
use Rattle.rules.proofs.Sides.{on-back, on_below, twin-some, length-links}
use Rattle.rules.proofs.Refine.{Good, finer_of, length-finer, inside, outside, back_below}
use Rattle.rules.proofs.Links.{half2, link-half1, link-half2}

abbrev pub map_step : (ℕ → ℕ) → Step → Step
map_step r home = home
map_step r off = off
map_step r (here s) = here (r s)

abbrev pub map_walk : (ℕ → ℕ) → Walk → Walk
map_walk r (stop e) = stop e
map_walk r (past s w) = past (r s) (map_walk r w)

abbrev pub map_fan : (ℕ → ℕ) → Fan → Fan
map_fan r (inner cs) = inner (map r cs)
map_fan r (rim cs) = rim (map r cs)
map_fan r endless = endless

-- ---- a walk that ends is the same walk with more room, and under another name of each corner

abbrev Within : ℕ → Step → Type 0
Within n home = Unit {0}
Within n off = Unit {0}
Within n (here s) = s < n

pub walk-home : (next : ℕ → Step) (k : ℕ) → walk next k home ≡ stop closed
walk-home next zero = refl
walk-home next (suc k) = refl

pub walk-rim : (next : ℕ → Step) (k : ℕ) → walk next k off ≡ stop ended
walk-rim next zero = refl
walk-rim next (suc k) = refl

module _ (n : ℕ) (r : ℕ → ℕ) (next next' : ℕ → Step)
    (like : (s : ℕ) → s < n → next' (r s) ≡ map_step r (next s))
    (stay : (s : ℕ) → s < n → Within n (next s)) where
  pub walk-as : (k m : ℕ) (st : Step) → Within n st → (stop_of (walk next k st) ≡ long → ⊥) → walk next' (k + m) (map_step r st) ≡ map_walk r (walk next k st)
  walk-as zero m home h l = walk-home next' (0 + m)
  walk-as zero m off h l = walk-rim next' (0 + m)
  walk-as zero m (here s) h l = absurd (l refl)
  walk-as (suc k) m home h l = walk-home next' (suc k + m)
  walk-as (suc k) m off h l = walk-rim next' (suc k + m)
  walk-as (suc k) m (here s) h l = rw (suc-add k m, like s h) (ap (past (r s)) (walk-as k m (next s) (stay s h) l))

module _ (n : ℕ) (next : ℕ → Step) (stay : (s : ℕ) → s < n → Within n (next s)) where
  pub walk-last : (k : ℕ) (st : Step) (d : ℕ) → d < n → Within n st → last_of d (passed (walk next k st)) < n
  walk-last zero home d h i = h
  walk-last zero off d h i = h
  walk-last zero (here s) d h i = h
  walk-last (suc k) home d h i = h
  walk-last (suc k) off d h i = h
  walk-last (suc k) (here s) d h i = walk-last k (next s) s i (stay s i)

pub passed-as : (r : ℕ → ℕ) (w : Walk) → passed (map_walk r w) ≡ map r (passed w)
passed-as r (stop e) = refl
passed-as r (past s w) = ap {B = List ℕ} (λ l. r s ∷ l) (passed-as r w)

pub stop-as : (r : ℕ → ℕ) (w : Walk) → stop_of (map_walk r w) ≡ stop_of w
stop-as r (stop e) = refl
stop-as r (past s w) = stop-as r w

last_as : (r : ℕ → ℕ) (d : ℕ) (l : List ℕ) → last_of (r d) (map r l) ≡ r (last_of d l)
last_as r d [] = refl
last_as r d (x ∷ xs) = last_as r x xs

-- ---- one step

restart-inj : (a b : ℕ) → restart a ≡ restart b → a ≡ b
restart-inj a b e = omega arith

pub T_true : (b : Bool) → T b → b ≡ true
T_true true t = refl
T_true false t = absurd t

pub eqb-false : (a b : ℕ) → (a ≡ b → ⊥) → eqb a b ≡ false
eqb-false a b f = go (eqb a b) refl
  where
    go : (c : Bool) → eqb a b ≡ c → c ≡ false
    go true e = absurd (f (eqb→eq a b (rw e tt)))
    go false e = refl

eqb-restart : (a h : ℕ) → eqb (restart a) (restart h) ≡ eqb a h
eqb-restart a h = go (eqb a h) refl
  where
    go : (c : Bool) → eqb a h ≡ c → eqb (restart a) (restart h) ≡ c
    go true e = T_true (eqb (restart a) (restart h)) (eq→eqb (ap restart (eqb→eq a h (rw e tt))))
    go false e = eqb-false (restart a) (restart h) (λ q. rw e at (eq→eqb {a = a} {b = h} (restart-inj a h q)))

step_to-restart : (h : ℕ) (o : Option ℕ) → step_to (restart h) (through restart o) ≡ map_step restart (step_to h o)
step_to-restart h none = refl
step_to-restart h (some a) = rw (eqb-restart a h) (go (eqb a h))
  where
    go : (c : Bool) → pick c home (here (restart a)) ≡ map_step restart (pick c home (here a))
    go true = refl
    go false = refl

through-through : (o : Option ℕ) → through onward (through half2 o) ≡ through restart (through onward o)
through-through none = refl
through-through (some t) = ap some (on-back (restart (onward t)))

module _ (v n : ℕ) (fs : List ℕ) (g : Good v n fs) where
  pub next-finer : (h s : ℕ) → s < 3 * n → next_corner (links (finer_of v n fs)) (restart h) (restart s) ≡ map_step restart (next_corner (links fs) h s)
  next-finer h s k = rw (link-half1 v n fs g s k, through-through (get_or (links fs) s none)) (step_to-restart h (through onward (get_or (links fs) s none)))

  pub prev-finer : (h s : ℕ) → s < 3 * n → prev_corner (links (finer_of v n fs)) (restart h) (restart s) ≡ map_step restart (prev_corner (links fs) h s)
  prev-finer h s k =
      let e : backward (restart s) ≡ half2 (backward s) = ap (λ (z : ℕ). backward (restart z)) (sym (on-back s)) in
      rw (e, link-half2 v n fs g (backward s) (back_below s n k)) (step_to-restart h (get_or (links fs) (backward s) none))

  pick-within : (c : Bool) (t : ℕ) → t < 3 * n → Within (3 * n) (pick c home (here t))
  pick-within true t h = tt
  pick-within false t h = h

  step-within : (h : ℕ) (o : Option ℕ) → ((t : ℕ) → o ≡ some t → t < 3 * n) → Within (3 * n) (step_to h o)
  step-within h none b = tt
  step-within h (some t) b = pick-within (eqb t h) t (b t refl)

  link-below : (s t : ℕ) → s < 3 * n → get_or (links fs) s none ≡ some t → t < 3 * n
  link-below s t h e = outside v n fs g (twin-some fs s t (inside v n fs g h) e).below

  next-within : (h s : ℕ) → s < 3 * n → Within (3 * n) (next_corner (links fs) h s)
  next-within h s k = go (get_or (links fs) s none) refl
    where
      go : (o : Option ℕ) → get_or (links fs) s none ≡ o → Within (3 * n) (step_to h (through onward o))
      go none e = tt
      go (some t) e = pick-within (eqb (onward t) h) (onward t) (on_below t n (link-below s t k e))

  prev-within : (h s : ℕ) → s < 3 * n → Within (3 * n) (prev_corner (links fs) h s)
  prev-within h s k = step-within h (get_or (links fs) (backward s) none) (λ t e. link-below (backward s) t (back_below s n k) e)

  rim_fan-finer : (cs : List ℕ) (e : Stop) → (rim_fan cs e ≡ endless → ⊥) → rim_fan (map restart cs) e ≡ map_fan restart (rim_fan cs e)
  rim_fan-finer cs closed f = refl
  rim_fan-finer cs ended f = refl
  rim_fan-finer cs long f = refl

  rim-long : (cs : List ℕ) (e : Stop) → (rim_fan cs e ≡ endless → ⊥) → e ≡ long → ⊥
  rim-long cs closed f q = f refl
  rim-long cs ended f q = absurd (let z : ◌≡◌ {A = ℕ} 0 1 = cc in omega arith)
  rim-long cs long f q = f refl

  fan_of-finer : (cs : List ℕ) (e : Stop) → last_of 0 cs < 3 * n → (fan_of (links fs) n cs e ≡ endless → ⊥)
      → fan_of (links (finer_of v n fs)) (n + 3 * n) (map restart cs) e ≡ map_fan restart (fan_of (links fs) n cs e)
  fan_of-finer cs closed h f = refl
  fan_of-finer cs ended h f =
      let c = last_of 0 cs in
      let w = walk (prev_corner (links fs) c) n (here c) in
      let q : walk (prev_corner (links (finer_of v n fs)) (restart c)) (n + 3 * n) (here (restart c)) ≡ map_walk restart w =
      walk-as (3 * n) restart (prev_corner (links fs) c) (prev_corner (links (finer_of v n fs)) (restart c)) (λ s k. prev-finer c s k) (λ s k. prev-within c s k) n (3 * n) (here c) h (rim-long (passed w) (stop_of w) f) in
      rw (last_as restart 0 cs, q, passed-as restart w, stop-as restart w) (rim_fan-finer (passed w) (stop_of w) f)
  fan_of-finer cs long h f = refl

  fan_of-long : (cs : List ℕ) (e : Stop) → (fan_of (links fs) n cs e ≡ endless → ⊥) → e ≡ long → ⊥
  fan_of-long cs closed f q = absurd (let z : ◌≡◌ {A = ℕ} 0 1 = cc in omega arith)
  fan_of-long cs ended f q = absurd (let z : ◌≡◌ {A = ℕ} 0 1 = cc in omega arith)
  fan_of-long cs long f q = f refl

  pub fan-finer : (s : ℕ) → s < 3 * n → (fan (links fs) s ≡ endless → ⊥) → fan (links (finer_of v n fs)) (restart s) ≡ map_fan restart (fan (links fs) s)
  unfolding fan
  fan-finer s h f =
      let a : length (links fs) / 3 ≡ n = omega (arith, length-links fs, g.size) in
      let b : length (links (finer_of v n fs)) / 3 ≡ n + 3 * n = omega (arith, length-links (finer_of v n fs), length-finer v n fs g) in
      let w = walk (next_corner (links fs) s) n (here s) in
      let f' : fan_of (links fs) n (passed w) (stop_of w) ≡ endless → ⊥ = rw a at f in
      let q : walk (next_corner (links (finer_of v n fs)) (restart s)) (n + 3 * n) (here (restart s)) ≡ map_walk restart w =
      walk-as (3 * n) restart (next_corner (links fs) s) (next_corner (links (finer_of v n fs)) (restart s)) (λ t k. next-finer s t k) (λ t k. next-within s t k) n (3 * n) (here s) h (fan_of-long (passed w) (stop_of w) f') in
      let l : last_of 0 (passed w) < 3 * n = walk-last (3 * n) (next_corner (links fs) s) (λ t k. next-within s t k) n (here s) 0 (omega arith) h in
      rw (a, b, q, passed-as restart w, stop-as restart w) (fan_of-finer (passed w) (stop_of w) l f')

pub valence-as : (r : ℕ → ℕ) (f : Fan) → valence (map_fan r f) ≡ valence f
valence-as r (inner cs) = length-map cs r
valence-as r (rim cs) = omega (arith, length-map cs r)
valence-as r endless = refl
