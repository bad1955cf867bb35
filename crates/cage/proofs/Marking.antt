-- Laws of the marks: what a vertex finds by them is what a search of all sides finds.
use mathlib.Core.Path.{◌≡◌, refl, sym, ap, ◌∙◌}
use mathlib.Core.Logic.{◌≢◌, inl, inr}
use Prim.Native.Nat.{ℕ, zero, suc, ◌+◌, ◌-◌, ◌*◌, ◌/◌, ◌≤◌, ◌<◌}
use native.Mathlib.Omega.{arith}
use mathlib.Core.Bool.{Bool, true, false, ◌&&◌}
use mathlib.Core.List.{List, map}
use mathlib.Core.Option.{none}
use lib.Dec.{T, eqb, ltb, eqb→eq}
use lib.Ieee.Fits.{and_i, and_l, and_r, eq→eqb}
use lib.ListN.{length, get_or, set, length-set, replicate}
use lib.Seq.{sets, length-sets, get_or-set_same, get_or-set_other, ext_get_or}
use borrow.Author.Tests.{eqb-true, eqb-false, eq-eqb, ne_eqb, lt-ltb, ltb-true, ltb-false}
use Rattle.lists.specs.Lists.{pick, lowest}
use Rattle.lists.proofs.Places.{lowest-is, lowest-all}
use Rattle.lists.proofs.Stores.{get_or-outside, get_or-within}
use Rattle.rules.specs.Mesh.{onward, backward, corner, sides, links}
use Rattle.rules.specs.Refusals.{used_before}
use Rattle.rules.proofs.Sides.{on-back, back_on, on_below}
use Rattle.rules.proofs.Refine.{back_below}
use Rattle.faces.specs.Words.{coded}
use Rattle.cage.specs.Chains.{last_below, leaves, Faces, Once, fresh_mark, lower_of, Marked, Met, Repeat, Least, Coming, runs}
use Rattle.std.specs.Prelude.{Some, None}
use Rattle.cage.specs.Fans.{place_of}
use Rattle.limits.proofs.Search.{passed, failed}
use Rattle.cage.proofs.Chains.{last-le, last-is, last-after, last-at, last-nowhere, used-is}
use Rattle.cage.proofs.Across.{true_of, false_of, link-word, length-words, coded-at}

-- ---- a mark, fresh or stale; the lower of two sides

pub fresh-none : (fs : List ℕ) (u m : ℕ) → m ≡ 0 → fresh_mark fs u m ≡ 0
fresh-none fs u m e = rw e refl

pub fresh-own : (fs : List ℕ) (u m : ℕ) → 0 < m → corner fs (m - 1) ≡ u → fresh_mark fs u m ≡ m
fresh-own fs u m h e = rw (lt-ltb 0 m h, eq-eqb (corner fs (m - 1)) u e) refl

pub fresh-stale : (fs : List ℕ) (u m : ℕ) → corner fs (m - 1) ≢ u → fresh_mark fs u m ≡ 0
fresh-stale fs u m n = go (ltb 0 m)
  where
    go : (b : Bool) → pick (b && leaves fs u (m - 1)) m 0 ≡ 0
    go true = rw (ne_eqb (corner fs (m - 1)) u n) refl
    go false = refl

-- what a fresh mark says
pub record Own (fs : List ℕ) (u m : ℕ) : Type 0 where
  pub is : fresh_mark fs u m ≡ m
  pub leaves : corner fs (m - 1) ≡ u

pub own_of : (fs : List ℕ) (u m : ℕ) → 0 < fresh_mark fs u m → Own fs u m
own_of fs u m h = go (eqb m 0) refl (eqb (corner fs (m - 1)) u) refl
  where
    go : (a : Bool) → eqb m 0 ≡ a → (b : Bool) → eqb (corner fs (m - 1)) u ≡ b → Own fs u m
    go true e b q = absurd (omega (arith, fresh-none fs u m (eqb-true m 0 e)))
    go false e true q =
        let c = eqb-true (corner fs (m - 1)) u q in
        let z = eqb-false m 0 e in
        record { is = fresh-own fs u m (omega arith) c; leaves = c }
    go false e false q = absurd (omega (arith, fresh-stale fs u m (eqb-false (corner fs (m - 1)) u q)))

pub lower-le : (low m h : ℕ) → lower_of low m h ≤ low
lower-le low m h = go (ltb h m) (ltb (m - 1) low) refl
  where
    go : (a b : Bool) → ltb (m - 1) low ≡ b → pick (a && b) (m - 1) low ≤ low
    go true true e = let q = ltb-true (m - 1) low e in omega arith
    go true false e = omega arith
    go false b e = omega arith

pub lower-mark : (low m h : ℕ) → h < m → lower_of low m h ≤ m - 1
lower-mark low m h l = rw (lt-ltb h m l) (go (ltb (m - 1) low) refl)
  where
    go : (b : Bool) → ltb (m - 1) low ≡ b → pick (true && b) (m - 1) low ≤ m - 1
    go true e = omega arith
    go false e = let q = ltb-false (m - 1) low e in omega arith

-- ---- corners and places

cancel : (at a b : ℕ) → at + a ≡ at + b → a ≡ b
cancel at a b e = omega arith

back-same : (at a b : ℕ) → at + backward a ≡ at + backward b → a ≡ b
back-same at a b e = sym (on-back a) ∙ ap onward (cancel at (backward a) (backward b) e) ∙ on-back b

pub thirds : (fs : List ℕ) → Faces fs → length fs ≡ 3 * (length fs / 3)
thirds fs f = omega (arith, f.thirds)

pub third_back : (fs : List ℕ) → Faces fs → (k : ℕ) → k < length fs → backward k < length fs
third_back fs f k h = rw (thirds fs f) (back_below k (length fs / 3) (rw (thirds fs f) at h))

pub third-on : (fs : List ℕ) → Faces fs → (k : ℕ) → k < length fs → onward k < length fs
third-on fs f k h = rw (thirds fs f) (on_below k (length fs / 3) (rw (thirds fs f) at h))

zeros : (n b : ℕ) → ◌≡◌ {A = ℕ} (get_or (replicate n 0) b 0) 0
zeros zero b = refl
zeros (suc n) zero = refl
zeros (suc n) (suc b) = zeros n b

-- ---- sides that run alike

module _ (fs : List ℕ) where
  run_of : (a b s : ℕ) → corner fs s ≡ a → corner fs (onward s) ≡ b → runs fs a b s ≡ true
  run_of a b s p q = true_of _ (and_i (eqb a (corner fs s)) (eqb b (corner fs (onward s))) (eq→eqb (sym p)) (eq→eqb (sym q)))

  run-from : (a b s : ℕ) → T (runs fs a b s) → corner fs s ≡ a
  run-from a b s r = sym (eqb→eq _ _ (and_l (eqb a (corner fs s)) (eqb b (corner fs (onward s))) r))

  run-to : (a b s : ℕ) → T (runs fs a b s) → corner fs (onward s) ≡ b
  run-to a b s r = sym (eqb→eq _ _ (and_r (eqb a (corner fs s)) (eqb b (corner fs (onward s))) r))

  used-again : (p t : ℕ) → p < t → t < length fs → corner fs p ≡ corner fs t → corner fs (onward p) ≡ corner fs (onward t) → used_before (sides fs) t ≡ true
  used-again p t l h a b = used-is fs t h ∙ lt-ltb 0 (last_below r t) (some (eqb (last_below r t) 0) refl)
    where
      r : ℕ → Bool
      r = runs fs (corner fs t) (corner fs (onward t))

      some : (x : Bool) → eqb (last_below r t) 0 ≡ x → 0 < last_below r t
      some true e =
          let z = eqb-true (last_below r t) 0 e in
          let y : ◌≡◌ {A = Bool} true false = sym (run_of (corner fs t) (corner fs (onward t)) p a b) ∙ last-after r t p (omega arith) l in
          absurd (let x : ◌≡◌ {A = ℕ} 0 1 = cc in omega arith)
      some false e = let z = eqb-false (last_below r t) 0 e in omega arith

  -- a side that is used before has an earlier one that runs alike
  record Earlier (t : ℕ) : Type 0 where
    at : ℕ
    below : at < t
    from : corner fs at ≡ corner fs t
    to : corner fs (onward at) ≡ corner fs (onward t)

  earlier : (t : ℕ) → t < length fs → used_before (sides fs) t ≡ true → Earlier t
  earlier t h e =
      let r = runs fs (corner fs t) (corner fs (onward t)) in
      let n = ltb-true 0 (last_below r t) (sym (used-is fs t h) ∙ e) in
      let w = passed _ (last-is r t n) in
      record {
        at = last_below r t - 1;
        below = omega (arith, last-le r t);
        from = run-from (corner fs t) (corner fs (onward t)) _ w;
        to = run-to (corner fs t) (corner fs (onward t)) _ w;
      }

  -- ---- one side of the chain of u: h - 1, and after it m

  on_chain : (u h m k : ℕ) → m ≡ last_below (leaves fs u) (h - 1) → m ≤ k → corner fs k ≡ u → h - 1 ≤ k
  on_chain u h m k e l c =
      let n : ¬ (k < h - 1) = λ q. eqb-false (corner fs k) u (last-after (leaves fs u) (h - 1) k (rw e at l) q) c in
      omega arith

  pub chain-le : (u h m : ℕ) → m ≡ last_below (leaves fs u) (h - 1) → m ≤ h - 1
  chain-le u h m e = rw e (last-le (leaves fs u) (h - 1))

  pub chain-leaves : (u n m : ℕ) → m ≡ last_below (leaves fs u) n → 0 < m → corner fs (m - 1) ≡ u
  chain-leaves u n m e h = rw e (eqb-true _ u (last-is (leaves fs u) n (rw e at h)))

  -- before the first: no side from the head of the chain on leaves u
  none-on : (u h k : ℕ) → h ≡ last_below (leaves fs u) (length fs) → h ≤ k → k < length fs → corner fs k ≡ u → ⊥
  none-on u h k e l b c = eqb-false (corner fs k) u (last-after (leaves fs u) (length fs) k (rw e at l) b) c

  pub met-none : (u h : ℕ) (marks : List ℕ) → h ≡ last_below (leaves fs u) (length fs) → Met fs u h marks
  met-none u h marks e = record {
    late = λ k l b c. absurd (none-on u h k e l b c);
    early = λ k l b c. absurd (none-on u h k e l b c);
    leaves = λ k l b c. absurd (none-on u h k e l b c);
  }

  pub least-none : (u h low : ℕ) → h ≡ last_below (leaves fs u) (length fs) → Least fs u h low
  least-none u h low e = record { each = λ p t l q b c d i. absurd (none-on u h p e l (omega arith) c) }

  pub coming-none : (at u h : ℕ) (ws : List ℕ) → h ≡ last_below (leaves fs u) (length fs) → Coming fs at u h ws ws
  coming-none at u h ws e = record { size = refl; here = λ o k l b c. absurd (none-on u h k e l b c); rest = λ i n. refl }

  pub marked-none : (n : ℕ) → Marked fs (replicate n 0)
  marked-none n = record { below = λ b. omega (arith, zeros n b); ends = λ b h. absurd (omega (arith, zeros n b)) }

  module _ (marks : List ℕ) (b h : ℕ) (room : b < length marks) (some : 0 < h) (few : h ≤ length fs) (ends : corner fs (onward (h - 1)) ≡ b) where
    pub marked_more : Marked fs marks → Marked fs (set marks b h)
    marked_more m = record { below = λ i. small (eqb i b) i refl; ends = λ i. end (eqb i b) i refl }
      where
        small : (x : Bool) (i : ℕ) → eqb i b ≡ x → get_or (set marks b h) i 0 ≤ length fs
        small true i e = rw (eqb-true i b e, get_or-set_same marks b h 0 room) few
        small false i e = rw (get_or-set_other marks b i h 0 (eqb-false i b e)) (m.below i)

        end : (x : Bool) (i : ℕ) → eqb i b ≡ x → 0 < get_or (set marks b h) i 0 → corner fs (onward (get_or (set marks b h) i 0 - 1)) ≡ i
        end true i e l = rw (eqb-true i b e, get_or-set_same marks b h 0 room) ends
        end false i e l = let q = get_or-set_other marks b i h 0 (eqb-false i b e) in rw q (m.ends i (rw q at l))

    module _ (u m : ℕ) (on : corner fs (h - 1) ≡ u) (next : m ≡ last_below (leaves fs u) (h - 1)) where
      pub met-more : Met fs u h marks → Met fs u m (set marks b h)
      met-more w = record {
        late = λ k l q c. late (eqb (corner fs (onward k)) b) k refl l q c;
        early = λ k l q c. early (eqb (corner fs (onward k)) b) k refl l q c;
        leaves = λ k l q c. own (eqb (corner fs (onward k)) b) k refl l q c;
      }
        where
          here : (k : ℕ) → eqb (corner fs (onward k)) b ≡ true → get_or (set marks b h) (corner fs (onward k)) 0 ≡ h
          here k e = ap (λ (i : ℕ). get_or (set marks b h) i 0) (eqb-true (corner fs (onward k)) b e) ∙ get_or-set_same marks b h 0 room

          there : (k : ℕ) → eqb (corner fs (onward k)) b ≡ false → get_or (set marks b h) (corner fs (onward k)) 0 ≡ get_or marks (corner fs (onward k)) 0
          there k e = get_or-set_other marks b (corner fs (onward k)) h 0 (eqb-false (corner fs (onward k)) b e)

          -- a side that ends elsewhere is a later one
          later : (k : ℕ) → eqb (corner fs (onward k)) b ≡ false → m ≤ k → corner fs k ≡ u → h ≤ k
          later k e l c =
              let d : k ≢ h - 1 = λ z. eqb-false (corner fs (onward k)) b e (ap (λ (i : ℕ). corner fs (onward i)) z ∙ ends) in
              omega (arith, on_chain u h m k next l c)

          late : (x : Bool) (k : ℕ) → eqb (corner fs (onward k)) b ≡ x → m ≤ k → k < length fs → corner fs k ≡ u → m < get_or (set marks b h) (corner fs (onward k)) 0
          late true k e l q c = rw (here k e) (omega (arith, chain-le u h m next))
          late false k e l q c = rw (there k e) (omega (arith, chain-le u h m next, w.late k (later k e l c) q c))

          early : (x : Bool) (k : ℕ) → eqb (corner fs (onward k)) b ≡ x → m ≤ k → k < length fs → corner fs k ≡ u → get_or (set marks b h) (corner fs (onward k)) 0 ≤ k + 1
          early true k e l q c = rw (here k e) (omega (arith, on_chain u h m k next l c))
          early false k e l q c = rw (there k e) (w.early k (later k e l c) q c)

          own : (x : Bool) (k : ℕ) → eqb (corner fs (onward k)) b ≡ x → m ≤ k → k < length fs → corner fs k ≡ u → corner fs (get_or (set marks b h) (corner fs (onward k)) 0 - 1) ≡ u
          own true k e l q c = rw (here k e) on
          own false k e l q c = rw (there k e) (w.leaves k (later k e l c) q c)

      pub least_more : (low : ℕ) → Met fs u h marks → Least fs u h low → Least fs u m (lower_of low (fresh_mark fs u (get_or marks b 0)) h)
      least_more low w l = record { each = λ p t a c d i j e. go (eqb p (h - 1)) p t refl a c d i j e }
        where
          go : (x : Bool) (p t : ℕ) → eqb p (h - 1) ≡ x → m ≤ p → p < t → t < length fs → corner fs p ≡ u → corner fs t ≡ u → corner fs (onward p) ≡ corner fs (onward t)
              → lower_of low (fresh_mark fs u (get_or marks b 0)) h ≤ t
          go true p t z a c d i j e =
              let y : p ≡ h - 1 = eqb-true p (h - 1) z in
              let k : h ≤ t = omega arith in
              let q : corner fs (onward t) ≡ b = sym e ∙ ap (λ (n : ℕ). corner fs (onward n)) y ∙ ends in
              let late : h < get_or marks b 0 = rw q at (w.late t k d j) in
              let early : get_or marks b 0 ≤ t + 1 = rw q at (w.early t k d j) in
              let own : corner fs (get_or marks b 0 - 1) ≡ u = rw q at (w.leaves t k d j) in
              rw (fresh-own fs u (get_or marks b 0) (omega arith) own) (omega (arith, lower-mark low (get_or marks b 0) h late))
          go false p t z a c d i j e =
              let y = eqb-false p (h - 1) z in
              let k : h ≤ p = omega (arith, on_chain u h m p next a i) in
              omega (arith, lower-le low (fresh_mark fs u (get_or marks b 0)) h, l.each p t k c d i j e)

    pub repeat-more : (u low : ℕ) → corner fs (h - 1) ≡ u → Marked fs marks → Repeat fs low → Repeat fs (lower_of low (fresh_mark fs u (get_or marks b 0)) h)
    repeat-more u low on w r = go (ltb h (fresh_mark fs u (get_or marks b 0))) refl (ltb (fresh_mark fs u (get_or marks b 0) - 1) low) refl
      where
        m : ℕ
        m = fresh_mark fs u (get_or marks b 0)

        go : (x : Bool) → ltb h m ≡ x → (y : Bool) → ltb (m - 1) low ≡ y → Repeat fs (lower_of low m h)
        go true e true q =
            let l : h < m = ltb-true h m e in
            let g : m - 1 < low = ltb-true (m - 1) low q in
            let o = own_of fs u (get_or marks b 0) (omega arith) in
            let z : m ≡ get_or marks b 0 = o.is in
            let to : corner fs (onward (m - 1)) ≡ b = rw z (w.ends b (omega arith)) in
            let from : corner fs (m - 1) ≡ u = rw z o.leaves in
            rw (e, q) (record { most = omega (arith, r.most); used = λ k. used-again (h - 1) (m - 1) (omega arith) k (on ∙ sym from) (ends ∙ sym to) })
        go true e false q = rw (e, q) r
        go false e y q = rw e r

  -- one word more
  pub coming-more : (at u h m x : ℕ) (ws₀ ws : List ℕ) → 0 < h → h ≤ length fs → corner fs (h - 1) ≡ u → m ≡ last_below (leaves fs u) (h - 1)
      → at + backward (h - 1) < length ws → (Once fs → x ≡ coded (get_or (links fs) (backward (h - 1)) none)) → Coming fs at u h ws₀ ws
      → Coming fs at u m ws₀ (set ws (at + backward (h - 1)) x)
  coming-more at u h m x ws₀ ws some few on next room is w = record {
    size = length-set ws (at + backward (h - 1)) x ∙ w.size;
    here = λ o k l b c. here (eqb k (h - 1)) o k refl l b c;
    rest = λ i n.
        get_or-set_other ws (at + backward (h - 1)) i x 0 (n (h - 1) (chain-le u h m next) (omega arith) on)
        ∙ w.rest i (λ k l b c. n k (omega (arith, chain-le u h m next)) b c);
  }
    where
      here : (y : Bool) → Once fs → (k : ℕ) → eqb k (h - 1) ≡ y → m ≤ k → k < length fs → corner fs k ≡ u
          → get_or (set ws (at + backward (h - 1)) x) (at + backward k) 0 ≡ coded (get_or (links fs) (backward k) none)
      here true o k e l b c = rw (eqb-true k (h - 1) e) (get_or-set_same ws (at + backward (h - 1)) x 0 room ∙ is o)
      here false o k e l b c =
          let d = eqb-false k (h - 1) e in
          get_or-set_other ws (at + backward (h - 1)) (at + backward k) x 0 (λ z. d (back-same at k (h - 1) z))
          ∙ w.here o k (omega (arith, on_chain u h m k next l c)) b c

  -- the mark where a side that comes to u starts is that of the side across
  pub fresh-link : (marks : List ℕ) (u : ℕ) → Faces fs → Once fs → Marked fs marks → Met fs u 0 marks → (k : ℕ) → k < length fs → corner fs k ≡ u
      → fresh_mark fs u (get_or marks (corner fs (backward k)) 0) ≡ coded (get_or (links fs) (backward k) none)
  fresh-link marks u f o m w k h c =
      go (eqb (fresh_mark fs u x) 0) refl ∙ sym (link-word fs o.each t below ∙ ap (λ (y : ℕ). last_below (runs fs y a) (length fs)) (ap (corner fs) (on-back k) ∙ c))
    where
      t : ℕ
      t = backward k

      a : ℕ
      a = corner fs t

      x : ℕ
      x = get_or marks a 0

      below : t < length fs
      below = third_back fs f k h

      go : (y : Bool) → eqb (fresh_mark fs u x) 0 ≡ y → fresh_mark fs u x ≡ last_below (runs fs u a) (length fs)
      go true e =
          let z = eqb-true (fresh_mark fs u x) 0 e in
          z ∙ sym (last-nowhere (runs fs u a) (length fs) (λ j l. false_of _ (λ r.
          let from = run-from u a j r in
          let to = run-to u a j r in
          let late : 0 < x = rw to at (w.late j (omega arith) l from) in
          let own : corner fs (x - 1) ≡ u = rw to at (w.leaves j (omega arith) l from) in
          omega (arith, fresh-own fs u x late own))))
      go false e =
          let z = eqb-false (fresh_mark fs u x) 0 e in
          let v = own_of fs u x (omega arith) in
          let some : 0 < x = omega (arith, v.is) in
          let few = m.below a in
          let to = m.ends a some in
          v.is ∙ (let y : suc (x - 1) ≡ x = omega arith in sym y)
          ∙ sym (last-at (runs fs u a) (length fs) (x - 1) (omega arith) (run_of u a (x - 1) v.leaves to) (λ j l b. false_of _ (λ r.
          let q = o.each j (x - 1) b (omega arith) (run-from u a j r ∙ sym v.leaves) (run-to u a j r ∙ sym to) in
          omega arith)))

-- ---- vertex by vertex, each at the first side that leaves it

-- the links of the sides that come to a vertex which one of the first s sides leaves
pub record Joined (fs : List ℕ) (at s : ℕ) (ws₀ ws : List ℕ) : Type 0 where
  pub size : length ws ≡ length ws₀
  pub here : Once fs → (j k : ℕ) → j < s → k < length fs → corner fs j ≡ corner fs k → get_or ws (at + backward k) 0 ≡ coded (get_or (links fs) (backward k) none)
  pub rest : (i : ℕ) → ((k : ℕ) → k < length fs → i ≢ at + backward k) → get_or ws i 0 ≡ get_or ws₀ i 0

-- no side below low that leaves such a vertex is used before
pub record Cleared (fs : List ℕ) (s low : ℕ) : Type 0 where
  pub each : (j : ℕ) → j < s → Least fs (corner fs j) 0 low

module _ (fs : List ℕ) where
  -- a vertex that is met for the first time
  pub joined-more : (at s : ℕ) (ws₀ ws ws' : List ℕ) → Joined fs at s ws₀ ws → Coming fs at (corner fs s) 0 ws ws' → Joined fs at (s + 1) ws₀ ws'
  joined-more at s ws₀ ws ws' w n = record {
    size = n.size ∙ w.size;
    here = λ o j k l b c. here (eqb (corner fs k) (corner fs s)) o j k refl l b c;
    rest = λ i d. n.rest i (λ k l b c. d k b) ∙ w.rest i d;
  }
    where
      here : (x : Bool) → Once fs → (j k : ℕ) → eqb (corner fs k) (corner fs s) ≡ x → j < s + 1 → k < length fs → corner fs j ≡ corner fs k
          → get_or ws' (at + backward k) 0 ≡ coded (get_or (links fs) (backward k) none)
      here true o j k e l b c = n.here o k (omega arith) b (eqb-true (corner fs k) (corner fs s) e)
      here false o j k e l b c =
          let d = eqb-false (corner fs k) (corner fs s) e in
          let q : j ≢ s = λ z. d (sym c ∙ ap (corner fs) z) in
          n.rest (at + backward k) (λ i a g y z. d (ap (corner fs) (back-same at k i z) ∙ y))
          ∙ w.here o j k (omega arith) b c

  lower-least : (u h a b : ℕ) → b ≤ a → Least fs u h a → Least fs u h b
  lower-least u h a b l w = record { each = λ p t i j k c d e. omega (arith, w.each p t i j k c d e) }

  pub cleared_more : (s a b : ℕ) → b ≤ a → Cleared fs s a → Least fs (corner fs s) 0 b → Cleared fs (s + 1) b
  cleared_more s a b l w n = record { each = λ j i. go (eqb j s) j refl i }
    where
      go : (x : Bool) (j : ℕ) → eqb j s ≡ x → j < s + 1 → Least fs (corner fs j) 0 b
      go true j e i = rw (eqb-true j s e) n
      go false j e i = let d = eqb-false j s e in lower-least (corner fs j) 0 a b l (w.each j (omega arith))

  -- a vertex that was met
  module _ (s : ℕ) (met : 0 < last_below (leaves fs (corner fs s)) s) where
    first_below : last_below (leaves fs (corner fs s)) s - 1 < s
    first_below = omega (arith, last-le (leaves fs (corner fs s)) s)

    first-is : corner fs (last_below (leaves fs (corner fs s)) s - 1) ≡ corner fs s
    first-is = eqb-true _ _ (last-is (leaves fs (corner fs s)) s met)

    pub joined-again : (at : ℕ) (ws₀ ws : List ℕ) → Joined fs at s ws₀ ws → Joined fs at (s + 1) ws₀ ws
    joined-again at ws₀ ws w = record { size = w.size; here = λ o j k l b c. here (eqb j s) o j k refl l b c; rest = w.rest }
      where
        here : (x : Bool) → Once fs → (j k : ℕ) → eqb j s ≡ x → j < s + 1 → k < length fs → corner fs j ≡ corner fs k
            → get_or ws (at + backward k) 0 ≡ coded (get_or (links fs) (backward k) none)
        here true o j k e l b c = w.here o (last_below (leaves fs (corner fs s)) s - 1) k first_below b (first-is ∙ ap (corner fs) (sym (eqb-true j s e)) ∙ c)
        here false o j k e l b c = let d = eqb-false j s e in w.here o j k (omega arith) b c

    pub cleared-again : (low : ℕ) → Cleared fs s low → Cleared fs (s + 1) low
    cleared-again low w = cleared_more s low low (omega arith) w (rw first-is at (w.each (last_below (leaves fs (corner fs s)) s - 1) first_below))

  -- all vertices
  pub joined-all : (at : ℕ) (ws₀ ws : List ℕ) → Faces fs → at + length fs ≤ length ws₀ → Joined fs at (length fs) ws₀ ws → Once fs → ws ≡ sets ws₀ at (map coded (links fs))
  joined-all at ws₀ ws f room w o = ext_get_or 0 ws (sets ws₀ at ls) (w.size ∙ sym (length-sets ws₀ at ls)) (λ i h. go i (ltb i at) refl (ltb i (at + length fs)) refl)
    where
      ls : List ℕ
      ls = map coded (links fs)

      go : (i : ℕ) (x : Bool) → ltb i at ≡ x → (y : Bool) → ltb i (at + length fs) ≡ y → get_or ws i 0 ≡ get_or (sets ws₀ at ls) i 0
      go i true e y q =
          let l = ltb-true i at e in
          w.rest i (λ k b z. omega arith) ∙ sym (get_or-outside ls ws₀ at i 0 (inl l))
      go i false e false q =
          let l = ltb-false i (at + length fs) q in
          w.rest i (λ k b z. let g = third_back fs f k b in omega arith) ∙ sym (get_or-outside ls ws₀ at i 0 (inr (omega (arith, length-words fs))))
      go i false e true q =
          let a = ltb-false i at e in
          let l = ltb-true i (at + length fs) q in
          let t : i - at < length fs = omega arith in
          let z : at + (i - at) ≡ i = omega arith in
          rw z at (inner (i - at) t)
        where
          inner : (t : ℕ) → t < length fs → get_or ws (at + t) 0 ≡ get_or (sets ws₀ at ls) (at + t) 0
          inner t b =
              rw (back_on t) at (w.here o (onward t) (onward t) (third-on fs f t b) (third-on fs f t b) refl)
              ∙ sym (get_or-within ls ws₀ at t 0 (rw (length-words fs) b) (rw (length-words fs) room) ∙ coded-at fs t b)

  clear-of : (low : ℕ) → Repeat fs low → Cleared fs (length fs) low → (j : ℕ) → j < low → used_before (sides fs) j ≡ false
  clear-of low r w j l = false_of _ (λ t.
      let b : j < length fs = omega (arith, r.most) in
      let e = earlier fs j b (true_of _ t) in
      let g = (w.each e.at (omega (arith, e.below))).each e.at j (omega arith) e.below b refl (sym e.from) e.to in
      omega arith)

  pub cleared-some : (low : ℕ) → low < length fs → Repeat fs low → Cleared fs (length fs) low → Some low ≡ place_of (lowest (used_before (sides fs)) (length fs))
  cleared-some low l r w = sym (ap place_of (lowest-is (used_before (sides fs)) (length fs) low l (passed _ (r.used l)) (λ j h. failed _ (clear-of low r w j h))))

  pub cleared-all : (low : ℕ) → length fs ≤ low → Repeat fs low → Cleared fs (length fs) low → None ≡ place_of (lowest (used_before (sides fs)) (length fs))
  cleared-all low l r w = sym (ap place_of (lowest-all (used_before (sides fs)) (length fs) (λ j h. failed _ (clear-of low r w j (omega arith)))))
