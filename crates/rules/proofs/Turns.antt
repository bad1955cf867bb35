-- Every walk round a vertex ends within the faces at that vertex, and a fan holds each of its corners once.
use mathlib.Core.Path.{◌≡◌, refl, sym, ap, ◌∙◌}
use mathlib.Core.Logic.{◌≢◌}
use Prim.Native.Nat.{ℕ, zero, suc, ◌-◌, ◌*◌, ◌/◌, ◌<◌, ◌≤◌, zero-le, suc-le-suc}
use native.Mathlib.Nat.{not-suc-le-zero}
use native.Mathlib.Omega.{arith}
use mathlib.Core.Bool.{Bool, true, false}
use mathlib.Core.List.{List}
use mathlib.Core.Option.{Option, none, some}
use lib.Dec.{eqb, eqb→eq}
use lib.Ieee.Fits.{eq→eqb}
use lib.ListN.{length, get_or}
use Rattle.lists.proofs.Places.{last-at}
use Rattle.lists.specs.Lists.{pick, count, tally, last_of}
use Rattle.rules.specs.Mesh.{onward, backward, corner, links, through, Step, home, off, here, Stop, closed, ended, long, walk, stop_of, step_to, next_corner, prev_corner, Fan, inner, rim, endless, rim_fan, fan_of, fan, corners}
use Rattle.rules.proofs.Sides.{back_on, on-back, on_below, length-links}
use Rattle.rules.proofs.Refine.{Good, back_below}
use Rattle.rules.proofs.Faces.{one-corner, link-link, link-below, link-twins}
use Rattle.lists.proofs.Counting.{at_most, At, each-is, all_pass}
use Rattle.rules.proofs.Walks.{trail, chain, not-long, last-stop, all_of, once}

-- ---- steps

none-some : {X : Type 0} {i : ℕ} → none ≡ some i → X
none-some e = absurd (let z : ◌≡◌ {A = ℕ} 0 1 = cc in omega arith)

pub step-some : (h t : ℕ) (o : Option ℕ) → step_to h o ≡ here t → (o ≡ some t) × (t ≢ h)
step-some h t none e = absurd (let z : ◌≡◌ {A = ℕ} 0 1 = cc in omega arith)
step-some h t (some x) e = go (eqb x h) refl e
  where
    go : (b : Bool) → eqb x h ≡ b → pick b home (here x) ≡ here t → (some x ≡ some t) × (t ≢ h)
    go true q p = absurd (let z : ◌≡◌ {A = ℕ} 0 1 = cc in omega arith)
    go false q p = let r : x ≡ t = cc in (ap some r, λ k. rw q at (eq→eqb {a = x} {b = h} (r ∙ k)))

pub step-home : (h : ℕ) (o : Option ℕ) → step_to h o ≡ home → o ≡ some h
step-home h none e = absurd (let z : ◌≡◌ {A = ℕ} 0 1 = cc in omega arith)
step-home h (some x) e = go (eqb x h) refl e
  where
    go : (b : Bool) → eqb x h ≡ b → pick b home (here x) ≡ home → some x ≡ some h
    go true q p = ap some (eqb→eq x h (rw q tt))
    go false q p = absurd (let z : ◌≡◌ {A = ℕ} 0 1 = cc in omega arith)

pub step-rim : (h : ℕ) (o : Option ℕ) → step_to h o ≡ off → o ≡ none
step-rim h none e = refl
step-rim h (some x) e = go (eqb x h) e
  where
    go : (b : Bool) → pick b home (here x) ≡ off → some x ≡ none
    go true p = absurd (let z : ◌≡◌ {A = ℕ} 0 1 = cc in omega arith)
    go false p = absurd (let z : ◌≡◌ {A = ℕ} 0 1 = cc in omega arith)

through-some : (f : ℕ → ℕ) (o : Option ℕ) (t : ℕ) → through f o ≡ some t → (x : ℕ) × (o ≡ some x) × (f x ≡ t)
through-some f none t e = none-some e
through-some f (some x) t e = (x, refl, (let q : f x ≡ t = cc in q))

-- the corner after s by `next_face`, and the one before it by `prev_face`
abbrev pub after : List ℕ → ℕ → Option ℕ
after fs s = through onward (get_or (links fs) s none)

abbrev pub before : List ℕ → ℕ → Option ℕ
before fs s = get_or (links fs) (backward s) none

-- ---- a list of corners of one vertex, all different

pub record Corners (n : ℕ) (fs : List ℕ) (s : ℕ) (cs : List ℕ) : Type 0 where
  pub below : (k : ℕ) → k < length cs → get_or cs k 0 < 3 * n
  pub at : (k : ℕ) → k < length cs → corner fs (get_or cs k 0) ≡ corner fs s
  pub apart : (i j : ℕ) → i < j → j < length cs → get_or cs i 0 ≢ get_or cs j 0

-- how many corners a vertex has
abbrev pub corners_at : ℕ → List ℕ → ℕ → ℕ
corners_at n fs v = tally (λ x. eqb v (corner fs x)) (count 0 (3 * n))

-- one fan: next by `next_face` round to the first, or by `prev_face` from rim to rim
pub record Round (n : ℕ) (fs : List ℕ) (s : ℕ) (cs : List ℕ) : Type 0 where
  pub corners : Corners n fs s cs
  pub filled : 0 < length cs
  pub first : get_or cs 0 0 ≡ s
  pub next : (k : ℕ) → suc k < length cs → after fs (get_or cs k 0) ≡ some (get_or cs (suc k) 0)
  pub closes : after fs (last_of 0 cs) ≡ some (get_or cs 0 0)

pub record Half (n : ℕ) (fs : List ℕ) (s : ℕ) (cs : List ℕ) : Type 0 where
  pub corners : Corners n fs s cs
  pub filled : 0 < length cs
  pub first : after fs (get_or cs 0 0) ≡ none
  pub next : (k : ℕ) → suc k < length cs → before fs (get_or cs k 0) ≡ some (get_or cs (suc k) 0)
  pub last : before fs (last_of 0 cs) ≡ none

pub data Turned (n : ℕ) (fs : List ℕ) (s : ℕ) : Fan → Type 0 where
  round : (cs : List ℕ) → Round n fs s cs → Turned n fs s (inner cs)
  fringe : (cs : List ℕ) → Half n fs s cs → Turned n fs s (rim cs)

module _ (v n : ℕ) (fs : List ℕ) (g : Good v n fs) where
  after-below : (s t : ℕ) → s < 3 * n → after fs s ≡ some t → t < 3 * n
  after-below s t h e =
      let x = through-some onward (get_or (links fs) s none) t e in
      rw (← x.2) (on_below x.0 n (link-below v n fs g s x.0 h x.1))

  after-corner : (s t : ℕ) → s < 3 * n → after fs s ≡ some t → corner fs t ≡ corner fs s
  after-corner s t h e =
      let x = through-some onward (get_or (links fs) s none) t e in
      ap (corner fs) (sym x.2) ∙ (link-twins v n fs g s x.0 h x.1).to

  pub after-before : (s t : ℕ) → s < 3 * n → after fs s ≡ some t → before fs t ≡ some s
  after-before s t h e =
      let x = through-some onward (get_or (links fs) s none) t e in
      ap (λ (z : ℕ). get_or (links fs) (backward z) none) (sym x.2) ∙ ap (λ (z : ℕ). get_or (links fs) z none) (back_on x.0) ∙ link-link v n fs g s x.0 h x.1

  pub before-after : (s t : ℕ) → s < 3 * n → before fs s ≡ some t → after fs t ≡ some s
  before-after s t h e =
      ap (through onward) (link-link v n fs g (backward s) t (back_below s n h) e) ∙ ap some (on-back s)

  before-below : (s t : ℕ) → s < 3 * n → before fs s ≡ some t → t < 3 * n
  before-below s t h e = link-below v n fs g (backward s) t (back_below s n h) e

  before-corner : (s t : ℕ) → s < 3 * n → before fs s ≡ some t → corner fs t ≡ corner fs s
  before-corner s t h e = (link-twins v n fs g (backward s) t (back_below s n h) e).from ∙ ap (corner fs) (on-back s)

  some_inj : {a b : ℕ} → some a ≡ some b → a ≡ b
  some_inj e = cc

  -- a corner of the vertex of s
  pub record Beside (s t : ℕ) : Type 0 where
    pub below : t < 3 * n
    pub at : corner fs t ≡ corner fs s

  module _ (s : ℕ) (h : s < 3 * n) where
    start : Beside s s
    start = record { below = h; at = refl }

    go_on : (a b : ℕ) → Beside s a → next_corner (links fs) s a ≡ here b → Beside s b
    go_on a b p e =
        let q = (step-some s b (after fs a) e).0 in
        record { below = after-below a b p.below q; at = after-corner a b p.below q ∙ p.at }

    go-back : (a b : ℕ) → Beside s a → prev_corner (links fs) s a ≡ here b → Beside s b
    go-back a b p e =
        let q = (step-some s b (before fs a) e).0 in
        record { below = before-below a b p.below q; at = before-corner a b p.below q ∙ p.at }

    on_one : (a b t : ℕ) → Beside s a → Beside s b → next_corner (links fs) s a ≡ here t → next_corner (links fs) s b ≡ here t → a ≡ b
    on_one a b t p q d e = some_inj (sym (after-before a t p.below (step-some s t (after fs a) d).0) ∙ after-before b t q.below (step-some s t (after fs b) e).0)

    back_one : (a b t : ℕ) → Beside s a → Beside s b → prev_corner (links fs) s a ≡ here t → prev_corner (links fs) s b ≡ here t → a ≡ b
    back_one a b t p q d e = some_inj (sym (before-after a t p.below (step-some s t (before fs a) d).0) ∙ before-after b t q.below (step-some s t (before fs b) e).0)

    -- the corners that a walk passes
    pub on-corners : (m : ℕ) → Corners n fs s (trail (next_corner (links fs) s) m (here s))
    on-corners m = record {
      below = λ k q. (all_of (next_corner (links fs) s) (Beside s) go_on m s k start q).below;
      at = λ k q. (all_of (next_corner (links fs) s) (Beside s) go_on m s k start q).at;
      apart = once (next_corner (links fs) s) (Beside s) go_on s start (λ t p e. (step-some s s (after fs t) e).1 refl) on_one m;
    }

    pub back-corners : (m : ℕ) → Corners n fs s (trail (prev_corner (links fs) s) m (here s))
    back-corners m = record {
      below = λ k q. (all_of (prev_corner (links fs) s) (Beside s) go-back m s k start q).below;
      at = λ k q. (all_of (prev_corner (links fs) s) (Beside s) go-back m s k start q).at;
      apart = once (prev_corner (links fs) s) (Beside s) go-back s start (λ t p e. (step-some s s (before fs t) e).1 refl) back_one m;
    }

    -- as many as the vertex has at most, and as the mesh has faces
    pub few : (cs : List ℕ) → Corners n fs s cs → length cs ≤ corners_at n fs (corner fs s)
    few cs c = at_most (λ i. get_or cs i 0) (length cs) (λ x. eqb (corner fs s) (corner fs x)) (3 * n)
        (record { below = c.below; passes = λ i k. eq→eqb (sym (c.at i k)); apart = c.apart })

    pub few-faces : (cs : List ℕ) → Corners n fs s cs → length cs ≤ n
    few-faces cs c = rw (all_pass n) at (at_most (λ i. get_or cs i 0 / 3) (length cs) (λ x. true) n
        (record {
          below = λ i k. let b = c.below i k in omega arith;
          passes = λ i k. tt;
          apart = λ i j k l e. c.apart i j k l (one-corner v n fs g (get_or cs i 0) (get_or cs j 0) (c.below i (omega arith)) (sym e) (c.at i (omega arith) ∙ sym (c.at j l)));
        }))

    -- a walk ends within the corners of its vertex
    pub walk_ends : stop_of (walk (next_corner (links fs) s) (corners_at n fs (corner fs s)) (here s)) ≢ long
    walk_ends = not-long (next_corner (links fs) s) (corners_at n fs (corner fs s)) (here s) (λ m. few _ (on-corners m))

    pub back-ends : stop_of (walk (prev_corner (links fs) s) (corners_at n fs (corner fs s)) (here s)) ≢ long
    back-ends = not-long (prev_corner (links fs) s) (corners_at n fs (corner fs s)) (here s) (λ m. few _ (back-corners m))

    walk-ends-n : stop_of (walk (next_corner (links fs) s) n (here s)) ≢ long
    walk-ends-n = not-long (next_corner (links fs) s) n (here s) (λ m. few-faces _ (on-corners m))

    back-ends-n : stop_of (walk (prev_corner (links fs) s) n (here s)) ≢ long
    back-ends-n = not-long (prev_corner (links fs) s) n (here s) (λ m. few-faces _ (back-corners m))

trail-starts : (next : ℕ → Step) (n s : ℕ) → 0 < n → (0 < length (trail next n (here s))) × (get_or (trail next n (here s)) 0 0 ≡ s)
trail-starts next zero s h = absurd (not-suc-le-zero h)
trail-starts next (suc n) s h = (suc-le-suc zero-le, refl)

module _ (v n : ℕ) (fs : List ℕ) (g : Good v n fs) where
  corners-as : (s t : ℕ) (cs : List ℕ) → corner fs t ≡ corner fs s → Corners n fs t cs → Corners n fs s cs
  corners-as s t cs e c = record { below = c.below; at = λ k h. c.at k h ∙ e; apart = c.apart }

  pub last-in : (s : ℕ) (cs : List ℕ) → 0 < length cs → Corners n fs s cs → (last_of 0 cs < 3 * n) × (corner fs (last_of 0 cs) ≡ corner fs s)
  last-in s cs h c = rw (last-at 0 cs h) (c.below (length cs - 1) (omega arith), c.at (length cs - 1) (omega arith))

  module _ (s : ℕ) (h : s < 3 * n) where
    go-rim : (e : ℕ) → e < 3 * n → corner fs e ≡ corner fs s → after fs e ≡ none → (st : Stop) → stop_of (walk (prev_corner (links fs) e) n (here e)) ≡ st → Turned n fs s (rim_fan (trail (prev_corner (links fs) e) n (here e)) st)
    go-rim e he at none_after closed q =
        let w = trail (prev_corner (links fs) e) n (here e) in
        let st = trail-starts (prev_corner (links fs) e) n e (omega arith) in
        let c = back-corners v n fs g e he n in
        let l = last-in e w st.0 c in
        let z : prev_corner (links fs) e (last_of 0 w) ≡ home = rw q at (last-stop (prev_corner (links fs) e) n e 0) in
        absurd (none-some (sym none_after ∙ before-after v n fs g (last_of 0 w) e l.0 (step-home e (before fs (last_of 0 w)) z)))
    go-rim e he at none_after ended q =
        let w = trail (prev_corner (links fs) e) n (here e) in
        let st = trail-starts (prev_corner (links fs) e) n e (omega arith) in
        let z : prev_corner (links fs) e (last_of 0 w) ≡ off = rw q at (last-stop (prev_corner (links fs) e) n e 0) in
        fringe w (record {
          corners = corners-as s e w at (back-corners v n fs g e he n);
          filled = st.0;
          first = ap (after fs) st.1 ∙ none_after;
          next = λ k l. (step-some e _ (before fs (get_or w k 0)) (chain (prev_corner (links fs) e) n (here e) k l)).0;
          last = step-rim e (before fs (last_of 0 w)) z;
        })
    go-rim e he at none_after long q = absurd (back-ends-n v n fs g e he q)

    to_end : (st : Stop) → stop_of (walk (next_corner (links fs) s) n (here s)) ≡ st → Turned n fs s (fan_of (links fs) n (trail (next_corner (links fs) s) n (here s)) st)
    to_end closed q =
        let w = trail (next_corner (links fs) s) n (here s) in
        let st = trail-starts (next_corner (links fs) s) n s (omega arith) in
        let z : next_corner (links fs) s (last_of 0 w) ≡ home = rw q at (last-stop (next_corner (links fs) s) n s 0) in
        round w (record {
          corners = on-corners v n fs g s h n;
          filled = st.0;
          first = st.1;
          next = λ k l. (step-some s _ (after fs (get_or w k 0)) (chain (next_corner (links fs) s) n (here s) k l)).0;
          closes = step-home s (after fs (last_of 0 w)) z ∙ ap some (sym st.1);
        })
    to_end ended q =
        let w = trail (next_corner (links fs) s) n (here s) in
        let st = trail-starts (next_corner (links fs) s) n s (omega arith) in
        let l = last-in s w st.0 (on-corners v n fs g s h n) in
        let z : next_corner (links fs) s (last_of 0 w) ≡ off = rw q at (last-stop (next_corner (links fs) s) n s 0) in
        go-rim (last_of 0 w) l.0 l.1 (step-rim s (after fs (last_of 0 w)) z) (stop_of (walk (prev_corner (links fs) (last_of 0 w)) n (here (last_of 0 w)))) refl
    to_end long q = absurd (walk-ends-n v n fs g s h q)

    -- every fan ends, round or from rim to rim
    pub turned : Turned n fs s (fan (links fs) s)
    unfolding fan
    turned =
        let a : length (links fs) / 3 ≡ n = omega (arith, length-links fs, g.size) in
        rw a (to_end (stop_of (walk (next_corner (links fs) s) n (here s))) refl)

    -- check 10: where the fan has as many corners as the vertex, it has each of them; by `apart` once
    corners-of : (f : Fan) → Turned n fs s f → Corners n fs s (corners f)
    corners-of _ (round cs r) = r.corners
    corners-of _ (fringe cs r) = r.corners

    pub fan-corners : Corners n fs s (corners (fan (links fs) s))
    fan-corners = corners-of (fan (links fs) s) turned

    pub covers : corners_at n fs (corner fs s) ≤ length (corners (fan (links fs) s)) → (x : ℕ) → x < 3 * n → corner fs x ≡ corner fs s
        → At (λ i. get_or (corners (fan (links fs) s)) i 0) (length (corners (fan (links fs) s))) x
    covers l x k e =
        let c = fan-corners in
        each-is (λ i. get_or (corners (fan (links fs) s)) i 0) (length (corners (fan (links fs) s))) (λ x. eqb (corner fs s) (corner fs x)) (3 * n)
        (record { below = c.below; passes = λ i k. eq→eqb (sym (c.at i k)); apart = c.apart }) l x k (eq→eqb (sym e))

    not-endless : (f : Fan) → Turned n fs s f → f ≢ endless
    not-endless _ (round cs r) e = absurd (let z : ◌≡◌ {A = ℕ} 0 1 = cc in omega arith)
    not-endless _ (fringe cs r) e = absurd (let z : ◌≡◌ {A = ℕ} 0 1 = cc in omega arith)

    -- no fan of such a list is endless
    pub fan-ends : fan (links fs) s ≢ endless
    fan-ends = not-endless (fan (links fs) s) turned
