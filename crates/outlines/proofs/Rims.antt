-- In a sound mesh one rim side at most leaves a vertex and one at most comes to it, and where one comes one leaves; so the rim falls into loops.
use mathlib.Core.Path.{◌≡◌, refl, sym, ap, ◌∙◌}
use mathlib.Core.Logic.{◌≢◌}
use Prim.Native.Nat.{ℕ, zero, suc, ◌-◌, ◌*◌, ◌<◌, ◌≤◌, zero-le, suc-le-suc}
use native.Mathlib.Nat.{not-suc-le-zero}
use native.Mathlib.Omega.{arith}
use native.Mathlib.Decide.{dec_lt}
use mathlib.Core.Bool.{Bool, true, not, ◌&&◌}
use mathlib.Core.List.{List}
use mathlib.Core.Option.{Option, none, some}
use lib.Dec.{T, T_not, eqb, eqb→eq, eqb_refl}
use lib.Ieee.Fits.{and_i, and_l, and_r}
use lib.ListN.{length, get_or}
use Rattle.lists.specs.Lists.{count, found, last_of}
use Rattle.lists.proofs.Places.{last-at, length-count, get_or-count, find_none, find-some}
use Rattle.lists.proofs.Counting.{at_most, all_pass}
use Rattle.rules.specs.Mesh.{onward, backward, corner, links, through, Step, off, here, Stop, closed, ended, long, walk, stop_of, step_to, Fan, fan, corners, Mesh}
use Rattle.rules.proofs.Sides.{back_on, on_below}
use Rattle.rules.proofs.Walks.{trail, all_of, once, not-long, last-stop}
use Rattle.rules.proofs.Turns.{after, before, after-before, before-after, step-some, step-rim, Round, Half, Turned, round, fringe, turned, last-in}
use Rattle.rules.proofs.Sound.{Sound, In}
use Rattle.outlines.specs.Loops.{is_rim, leaving, next_rim}

none-some : {X : Type 0} {i : ℕ} → none ≡ some i → X
none-some e = absurd (let z : ◌≡◌ {A = ℕ} 0 1 = cc in omega arith)

through-none : (f : ℕ → ℕ) (o : Option ℕ) → through f o ≡ none → o ≡ none
through-none f none e = refl
through-none f (some t) e = none-some (sym e)

module _ (n : ℕ) (m : Mesh) (w : Sound n m) where
  abbrev fs : List ℕ
  fs = m.faces

  -- s is a rim side
  pub record Rim (s : ℕ) : Type 0 where
    pub below : s < 3 * n
    pub lone : get_or (links fs) s none ≡ none

  -- what the fan of a vertex is where a rim side leaves it: from that side on; and where one comes to it: up to that side
  data Leaves (c s : ℕ) : Fan → Type 0 where
    from : (cs : List ℕ) → Half n fs c cs → s ≡ get_or cs 0 0 → Leaves c s (Fan.rim cs)

  data Comes (c s : ℕ) : Fan → Type 0 where
    to : (cs : List ℕ) → Half n fs c cs → onward s ≡ last_of 0 cs → Comes c s (Fan.rim cs)

  -- the place k is the last one, or there is one after it
  at_last : (cs : List ℕ) (k : ℕ) → k < length cs → ¬ (suc k < length cs) → get_or cs k 0 ≡ last_of 0 cs
  at_last cs k h l = let e : k ≡ length cs - 1 = omega arith in ap (λ (z : ℕ). get_or cs z 0) e ∙ sym (last-at 0 cs (omega arith))

  -- no rim side leaves an inner vertex, and none comes to one
  inner-on : (c : ℕ) (cs : List ℕ) → Round n fs c cs → (k : ℕ) → k < length cs → after fs (get_or cs k 0) ≢ none
  inner-on c cs r k h = go (dec_lt (suc k) (length cs))
    where
      go : Dec (suc k < length cs) → after fs (get_or cs k 0) ≢ none
      go (yes l) e = none-some (sym e ∙ r.next k l)
      go (no l) e = none-some (sym e ∙ ap (after fs) (at_last cs k h l) ∙ r.closes)

  inner_back : (c : ℕ) (cs : List ℕ) → Round n fs c cs → (k : ℕ) → k < length cs → before fs (get_or cs k 0) ≢ none
  inner_back c cs r zero h e =
      let l = last-in m.verts n fs w.good c cs r.filled r.corners in
      none-some (sym e ∙ after-before m.verts n fs w.good (last_of 0 cs) (get_or cs 0 0) l.0 r.closes)
  inner_back c cs r (suc k) h e =
      none-some (sym e ∙ after-before m.verts n fs w.good (get_or cs k 0) (get_or cs (suc k) 0) (r.corners.below k (omega arith)) (r.next k h))

  leaves : (c s : ℕ) (f : Fan) → Turned n fs c f → get_or (links fs) s none ≡ none → In (corners f) s → Leaves c s f
  leaves c s _ (round cs r) e i = absurd (inner-on c cs r i.place i.below (ap (after fs) i.is ∙ ap (through onward) e))
  leaves c s _ (fringe cs r) e i = from cs r (go i.place i.below i.is)
    where
      go : (k : ℕ) → k < length cs → get_or cs k 0 ≡ s → s ≡ get_or cs 0 0
      go zero h q = sym q
      go (suc k) h q =
          let b = before-after m.verts n fs w.good (get_or cs k 0) (get_or cs (suc k) 0) (r.corners.below k (omega arith)) (r.next k h) in
          none-some (sym (ap (after fs) q ∙ ap (through onward) e) ∙ b)

  comes : (c s : ℕ) (f : Fan) → Turned n fs c f → get_or (links fs) s none ≡ none → In (corners f) (onward s) → Comes c s f
  comes c s _ (round cs r) e i = absurd (inner_back c cs r i.place i.below (ap (before fs) i.is ∙ ap (λ (z : ℕ). get_or (links fs) z none) (back_on s) ∙ e))
  comes c s _ (fringe cs r) e i = to cs r (go (dec_lt (suc i.place) (length cs)))
    where
      go : Dec (suc i.place < length cs) → onward s ≡ last_of 0 cs
      go (yes l) = none-some (sym (ap (before fs) i.is ∙ ap (λ (z : ℕ). get_or (links fs) z none) (back_on s) ∙ e) ∙ r.next i.place l)
      go (no l) = sym i.is ∙ at_last cs i.place i.below l

  -- the fan of vertex u, and that it has every corner of u
  abbrev fan_at : ℕ → Fan
  fan_at u = fan (links fs) (get_or m.starts u 0)

  turn : (u : ℕ) → u < m.verts → Turned n fs (get_or m.starts u 0) (fan_at u)
  turn u h = turned m.verts n fs w.good (get_or m.starts u 0) (w.below u h)

  leaves_at_lem : (s : ℕ) → Rim s → Leaves (get_or m.starts (corner fs s) 0) s (fan_at (corner fs s))
  leaves_at_lem s r =
      let h = w.good.below s r.below in
      leaves _ s _ (turn (corner fs s) h) r.lone (w.whole (corner fs s) s h r.below refl)

  comes-at : (s : ℕ) → Rim s → Comes (get_or m.starts (corner fs (onward s)) 0) s (fan_at (corner fs (onward s)))
  comes-at s r =
      let o = on_below s n r.below in
      let h = w.good.below (onward s) o in
      comes _ s _ (turn (corner fs (onward s)) h) r.lone (w.whole (corner fs (onward s)) (onward s) h o refl)

  one_from : (c d s t : ℕ) (f g : Fan) → f ≡ g → Leaves c s f → Leaves d t g → s ≡ t
  one_from c d s t _ _ e (from cs r p) (from ds q k) = let z : cs ≡ ds = cc in p ∙ ap (λ (l : List ℕ). get_or l 0 0) z ∙ sym k

  one-to : (c d s t : ℕ) (f g : Fan) → f ≡ g → Comes c s f → Comes d t g → onward s ≡ onward t
  one-to c d s t _ _ e (to cs r p) (to ds q k) = let z : cs ≡ ds = cc in p ∙ ap (λ (l : List ℕ). last_of 0 l) z ∙ sym k

  -- one rim side at most leaves a vertex
  pub leave-one : (s t : ℕ) → Rim s → Rim t → corner fs s ≡ corner fs t → s ≡ t
  leave-one s t p q e = one_from _ _ s t _ _ (ap fan_at e) (leaves_at_lem s p) (leaves_at_lem t q)

  -- and one at most comes to it
  pub come-one : (s t : ℕ) → Rim s → Rim t → corner fs (onward s) ≡ corner fs (onward t) → s ≡ t
  come-one s t p q e = sym (back_on s) ∙ ap backward (one-to _ _ s t _ _ (ap fan_at e) (comes-at s p) (comes-at t q)) ∙ back_on t

  -- where one comes, one leaves
  first_out : (c s : ℕ) (f : Fan) → Comes c s f → (t : ℕ) × Rim t × (corner fs t ≡ corner fs c)
  first_out c s _ (to cs r p) =
      (get_or cs 0 0, record { below = r.corners.below 0 r.filled; lone = through-none onward _ r.first }, r.corners.at 0 r.filled)

  pub goes_on : (s : ℕ) → Rim s → (t : ℕ) × Rim t × (corner fs t ≡ corner fs (onward s))
  goes_on s r =
      let h = w.good.below (onward s) (on_below s n r.below) in
      let x = first_out _ s _ (comes-at s r) in
      (x.0, x.1, x.2 ∙ w.starts (corner fs (onward s)) h)

  -- ---- the rim side that leaves a vertex, found by search

  pub rim-test : (s : ℕ) → s < 3 * n → T (is_rim fs (links fs) s) → Rim s
  rim-test s h t = record { below = h; lone = go (get_or (links fs) s none) t }
    where
      go : (o : Option ℕ) → T (not (found o)) → o ≡ none
      go none k = refl
      go (some x) k = absurd k

  pub test-rim : (s : ℕ) → Rim s → T (is_rim fs (links fs) s)
  test-rim s r = rw r.lone tt

  abbrev leaves? : ℕ → ℕ → Bool
  leaves? v s = is_rim fs (links fs) s && eqb (corner fs s) v

  count_at : (i : ℕ) → i < 3 * n → get_or (count 0 (length fs)) i 0 ≡ i
  count_at i h = get_or-count 0 (length fs) i 0 (omega (arith, w.good.size)) ∙ omega arith

  pub leaving-some : (v s : ℕ) → leaving fs (links fs) v ≡ some s → Rim s × (corner fs s ≡ v)
  leaving-some v s e =
      let f = find-some (leaves? v) 0 (count 0 (length fs)) s e in
      let h : s < 3 * n = omega (arith, f.below, length-count 0 (length fs), w.good.size) in
      let p = rw (count_at s h) at f.passes in
      (rim-test s h (and_l (is_rim fs (links fs) s) (eqb (corner fs s) v) p), eqb→eq (corner fs s) v (and_r (is_rim fs (links fs) s) (eqb (corner fs s) v) p))

  pub leaving-is : (s : ℕ) → Rim s → leaving fs (links fs) (corner fs s) ≡ some s
  leaving-is s r = go (leaving fs (links fs) (corner fs s)) refl
    where
      go : (o : Option ℕ) → leaving fs (links fs) (corner fs s) ≡ o → o ≡ some s
      go none e =
          let k : s < length (count 0 (length fs)) = omega (arith, r.below, length-count 0 (length fs), w.good.size) in
          let p = rw (count_at s r.below) at (find_none (leaves? (corner fs s)) 0 (count 0 (length fs)) e s k) in
          absurd (T_not (leaves? (corner fs s) s) p (and_i (is_rim fs (links fs) s) (eqb (corner fs s) (corner fs s)) (test-rim s r) (eqb_refl (corner fs s))))
      go (some t) e = let x = leaving-some (corner fs s) t e in ap some (leave-one t s x.0 r x.1)

  pub next-is : (s : ℕ) → Rim s → (t : ℕ) × Rim t × (next_rim fs (links fs) s ≡ some t) × (corner fs t ≡ corner fs (onward s))
  next-is s r =
      let x = goes_on s r in
      (x.0, x.1, ap (leaving fs (links fs)) (sym x.2) ∙ leaving-is x.0 x.1, x.2)

  -- ---- along the rim until it is back: no side twice, and never off

  module _ (s : ℕ) (r : Rim s) where
    abbrev pub step : ℕ → Step
    step t = step_to s (next_rim fs (links fs) t)

    pub stay : (a b : ℕ) → Rim a → step a ≡ here b → Rim b
    stay a b p e = (leaving-some _ b (step-some s b (next_rim fs (links fs) a) e).0).0

    one : (a b t : ℕ) → Rim a → Rim b → step a ≡ here t → step b ≡ here t → a ≡ b
    one a b t p q d e =
        let x = (leaving-some _ t (step-some s t (next_rim fs (links fs) a) d).0).1 in
        let y = (leaving-some _ t (step-some s t (next_rim fs (links fs) b) e).0).1 in
        come-one a b p q (sym x ∙ y)

    pub rim-of : (k j : ℕ) → j < length (trail step k (here s)) → Rim (get_or (trail step k (here s)) j 0)
    rim-of k j h = all_of step Rim stay k s j r h

    pub no-twice : (k i j : ℕ) → i < j → j < length (trail step k (here s)) → get_or (trail step k (here s)) i 0 ≢ get_or (trail step k (here s)) j 0
    no-twice = once step Rim stay s r (λ t p e. (step-some s s (next_rim fs (links fs) t) e).1 refl) one

    pub few : (k : ℕ) → length (trail step k (here s)) ≤ 3 * n
    few k = rw (all_pass (3 * n)) at (at_most (λ i. get_or (trail step k (here s)) i 0) (length (trail step k (here s))) (λ x. true) (3 * n)
        (record { below = λ i h. (rim-of k i h).below; passes = λ i h. tt; apart = no-twice k }))

    -- the loop of a rim side closes
    pub closes : stop_of (walk step (3 * n) (here s)) ≡ closed
    closes = go (stop_of (walk step (3 * n) (here s))) refl
      where
        go : (st : Stop) → stop_of (walk step (3 * n) (here s)) ≡ st → st ≡ closed
        go closed e = refl
        go long e = absurd (not-long step (3 * n) (here s) few e)
        go ended e = absurd (
            let p = filled (3 * n) (omega (arith, r.below)) in
            let z : step (last_of 0 (trail step (3 * n) (here s))) ≡ off = rw e at (last-stop step (3 * n) s 0) in
            let l = rw (sym (last-at 0 (trail step (3 * n) (here s)) p)) at (rim-of (3 * n) (length (trail step (3 * n) (here s)) - 1) (omega arith)) in
            let x = next-is (last_of 0 (trail step (3 * n) (here s))) l in
            none-some (sym (step-rim s _ z) ∙ x.2))
          where
            filled : (k : ℕ) → 0 < k → 0 < length (trail step k (here s))
            filled zero h = absurd (not-suc-le-zero h)
            filled (suc k) h = suc-le-suc zero-le
