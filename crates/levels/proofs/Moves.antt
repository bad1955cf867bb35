-- The new positions of one level, for both kinds of number: what each point asks and is, and one point more of a loop.
use Prim.Native.Nat.{ℕ, zero, suc, ◌+◌, ◌-◌, ◌*◌, ◌≤◌, ◌<◌}
use mathlib.Core.Path.{◌≡◌, refl, sym, ap, ap₂, ◌∙◌}
use mathlib.Core.Logic.{⊎_elim, inl, inr}
use mathlib.Core.Bool.{Bool, true, false}
use mathlib.Core.List.{List}
use mathlib.Core.Option.{Option, none, some}
use native.Mathlib.Omega.{arith}
use lib.IntN.{ℤ}
use lib.ListN.{length, get_or, take, drop}
use lib.Seq.{sets}
use Rattle.lists.specs.Lists.{count, keep, gather, part}
use Rattle.lists.proofs.Places.{length-count, length-gather, length-keep, rank-le}
use Rattle.lists.proofs.Stores.{sets-next, part-outside, piece-more, kept-room, kept_more, kept_same, kept-count}
use Rattle.turns.specs.Turns.{most_valence}
use Rattle.rules.specs.Mesh.{onward, backward, corner, links, is_first, first_met, firsts, fan, ring, Mesh}
use Rattle.rules.specs.Position.{Stage, Numbers}
use Rattle.rules.specs.Levels.{three, moved, edge_at, new_positions}
use Rattle.rules.proofs.Sides.{length-links, on_below}
use Rattle.rules.proofs.Refine.{Good, back_below}
use Rattle.rules.proofs.Range.{AllNear}
use Rattle.faces.specs.Words.{link_of, coded, links_in}
use Rattle.faces.specs.Rings.{Ringable, ring_of}
use Rattle.faces.specs.declared.rings.Ring.{Ring}
use Rattle.faces.proofs.Links as words
use Rattle.faces.proofs.Held.{link-coded, room-held, corner-word, corner-below, link-word, link-bound, start-below, start-ringable}
use Rattle.weights.specs.Lent.{by_ring, on_rim, within, AllOf, Readable, AllReadable}
use Rattle.weights.proofs.Joins.{ring_at, readable, ring-filled, ring-all, moved_by, lent-rim, lent_fits, lent-ring, rim-edge, inner-edge}
use Rattle.levels.specs.Level.{mesh_in}
use Rattle.levels.specs.Moves.{Movable, Placed, edges_in, old_point, old_points, edge_point, edge_points}

-- the part that is lent to a rule
pub lent_is : {A : Type 0} (l : List A) (from n : ℕ) → take (from + n - from) (drop from l) ≡ part from n l
lent_is l from n = let e : from + n - from ≡ n = omega arith in rw e

-- what a link word says
no-link : (o : Option ℕ) → coded o ≡ 0 → o ≡ none
no-link o e = sym (link-coded o) ∙ ap link_of e

a-link : (o : Option ℕ) → (coded o ≡ 0 → ⊥) → o ≡ some (coded o - 1)
a-link o h = sym (link-coded o) ∙ words.link-word (coded o) h

one_less : {n : ℕ} (y : ℕ) → (y ≡ 0 → ⊥) → y ≤ n → y - 1 < n
one_less zero f l = absurd (f refl)
one_less (suc y) f l = omega arith

module _ (w : List ℕ) (at n v : ℕ) (r : Movable w at n v) where
  abbrev m : Mesh
  m = mesh_in w at n v

  good : Good v n (part at (3 * n) w)
  good = r.sound.good

  pub sides-long : length (links (part at (3 * n) w)) ≡ 3 * n
  sides-long = length-links (part at (3 * n) w) ∙ good.size

  pub room_of_lem : at + 6 * n + v ≤ length w
  room_of_lem = room-held w at n m r.holds good

  -- ---- an old vertex

  module _ (u : ℕ) (h : u < v) where
    pub start_small : get_or w (at + 6 * n + u) 0 < 3 * n
    start_small = start-below w at n m r.holds r.sound u h

    pub ring-asks : Ringable w at (at + 3 * n) n (get_or w (at + 6 * n + u) 0)
    ring-asks = start-ringable w at n m r.holds r.sound u h r.few

    -- its ring, in numbers that were lent
    module _ (x : Ring) (e : x ≡ ring_of (part at (3 * n) w) (fan (links_in w (at + 3 * n) (3 * n)) (get_or w (at + 6 * n + u) 0)))
        (l o : List ℕ) (long : most_valence ≤ length l) (f : o ≡ sets l 0 (ring (part at (3 * n) w) (fan (links_in w (at + 3 * n) (3 * n)) (get_or w (at + 6 * n + u) 0)))) where
      pub ring-fits : x.n ≤ length o
      ring-fits = lent_fits w at n m r.holds r.sound r.few u h x e l o long f

      ring-is : take x.n o ≡ ring_at m u
      ring-is = lent-ring w at n m r.holds r.sound r.few u h x e l o long f

      -- what a rule asks of it, where each vertex can be read
      pub old-all : {N : Type 0} (P : List N → ℕ → Type 0) (xs : List N) → ((j : ℕ) → j < v → P xs j) → P xs u × ((0 < length (take x.n o)) × AllOf P xs (take x.n o))
      old-all P xs f = rw ring-is (f u h, (ring-filled n m r.sound r.few u h, ring-all n m r.sound r.few u h P xs f))

      pub old-whole : {xs : List ℤ} → 3 * v ≤ length xs → AllNear xs → Readable xs u × ((0 < length (take x.n o)) × AllReadable xs (take x.n o))
      old-whole {xs} k a = old-all Readable xs (λ j q. readable k a q)

      pub moved-is : (𝓝 : Numbers) (s : Stage) (xs p : List 𝓝.N) → p ≡ three 𝓝 (by_ring 𝓝 s xs u x.rim (take x.n o)) → p ≡ moved 𝓝 s m (links (part at (3 * n) w)) xs u
      moved-is 𝓝 s xs p q = q ∙ ap₂ (λ (b : Bool) (y : List ℕ). three 𝓝 (by_ring 𝓝 s xs u b y)) (lent-rim w at n m r.holds r.sound r.few u h x e l o long f) ring-is ∙ moved_by n m r.sound r.few u h 𝓝 s xs

  -- ---- an edge

  module _ (s : ℕ) (h : s < 3 * n) where
    pub corner-small : get_or w (at + s) 0 < v
    corner-small = corner-below w at n m r.holds good s h

    pub link-small : get_or w (at + 3 * n + s) 0 ≤ 3 * n
    link-small = link-bound w at n m r.holds good s h

    pub across-below : (get_or w (at + 3 * n + s) 0 ≡ 0 → ⊥) → get_or w (at + 3 * n + s) 0 - 1 < 3 * n
    across-below e = one_less (get_or w (at + 3 * n + s) 0) e link-small

    corner-is : get_or w (at + s) 0 ≡ corner (part at (3 * n) w) s
    corner-is = corner-word w at n m r.holds good s h

    word-is : get_or w (at + 3 * n + s) 0 ≡ coded (get_or (links (part at (3 * n) w)) s none)
    word-is = link-word w at n m r.holds good s h

    -- the test that the loop makes
    pub test-is : is_first s (link_of (get_or w (at + 3 * n + s) 0)) ≡ first_met (links (part at (3 * n) w)) s
    test-is = rw word-is (ap (is_first s) (link-coded (get_or (links (part at (3 * n) w)) s none)))

  module _ (𝓝 : Numbers) (xs p : List 𝓝.N) (s : ℕ) (h : s < 3 * n) where
    pub rim-is : get_or w (at + 3 * n + s) 0 ≡ 0 → p ≡ three 𝓝 (on_rim 𝓝 xs (get_or w (at + s) 0) (get_or w (at + onward s) 0)) → p ≡ edge_point 𝓝 w at n xs s
    rim-is e q =
        let o = no-link (get_or (links (part at (3 * n) w)) s none) (sym (word-is s h) ∙ e) in
        q ∙ ap₂ (λ (a b : ℕ). three 𝓝 (on_rim 𝓝 xs a b)) (corner-is s h) (corner-is (onward s) (on_below s n h))
        ∙ rim-edge 𝓝 (part at (3 * n) w) xs s
        ∙ sym (ap (λ (l : Option ℕ). three 𝓝 (edge_at 𝓝 (part at (3 * n) w) xs s l)) o)

    pub inner-is : (get_or w (at + 3 * n + s) 0 ≡ 0 → ⊥)
        → p ≡ three 𝓝 (within 𝓝 xs (get_or w (at + s) 0) (get_or w (at + onward s) 0) (get_or w (at + backward s) 0) (get_or w (at + backward (get_or w (at + 3 * n + s) 0 - 1)) 0))
        → p ≡ edge_point 𝓝 w at n xs s
    inner-is e q =
        let t = get_or w (at + 3 * n + s) 0 - 1 in
        let b : t < 3 * n = across-below s h e in
        let o : get_or (links (part at (3 * n) w)) s none ≡ some t =
        a-link (get_or (links (part at (3 * n) w)) s none) (λ z. e (word-is s h ∙ z)) ∙ ap (λ (y : ℕ). some (y - 1)) (sym (word-is s h)) in
        q ∙ rw (corner-is s h, corner-is (onward s) (on_below s n h), corner-is (backward s) (back_below s n h), corner-is (backward t) (back_below t n b)) refl
        ∙ inner-edge 𝓝 (part at (3 * n) w) xs s t
        ∙ sym (ap (λ (l : Option ℕ). three 𝓝 (edge_at 𝓝 (part at (3 * n) w) xs s l)) o)

-- ---- the loops

old-long : (𝓝 : Numbers) (w : List ℕ) (at n v : ℕ) (xs : List 𝓝.N) (u : ℕ) → length (old_point 𝓝 w at n xs v u) ≡ 3
unfolding moved
old-long 𝓝 w at n v xs u = refl

module _ (𝓝 : Numbers) (w : List ℕ) (at n v : ℕ) (l : List 𝓝.N) (from to : ℕ) (q : Placed (length l) from to v (edges_in w at n)) where
  abbrev xs : List 𝓝.N
  xs = part from (3 * v) l

  -- a run within the new part leaves the old one alone
  beside : (a : ℕ) (ys : List 𝓝.N) → to ≤ a → a + length ys ≤ to + 3 * (v + edges_in w at n) → part from (3 * v) (sets l a ys) ≡ xs
  beside a ys h k = part-outside ys l a from (3 * v) (⊎_elim (λ p. inl (omega arith)) (λ p. inr (omega arith)) q.apart)

  module _ (u : ℕ) (h : u < v) (x : List 𝓝.N) (e : x ≡ sets l to (gather (old_point 𝓝 w at n xs v) (count 0 u))) where
    pub old-kept : part from (3 * v) x ≡ xs
    old-kept =
        let c = length-gather (old_point 𝓝 w at n xs v) 3 (old-long 𝓝 w at n v xs) (count 0 u) in
        rw e (beside to (gather (old_point 𝓝 w at n xs v) (count 0 u)) (omega arith) (omega (arith, c, length-count 0 u)))

    pub old-more : (y p : List 𝓝.N) → y ≡ sets x (to + 3 * u) p → p ≡ old_point 𝓝 w at n (part from (3 * v) x) v u
        → y ≡ sets l to (gather (old_point 𝓝 w at n xs v) (count 0 (u + 1)))
    old-more y p a b =
        let c : p ≡ old_point 𝓝 w at n xs v u = b ∙ ap (λ (z : List 𝓝.N). old_point 𝓝 w at n z v u) old-kept in
        a ∙ rw (c, e) (piece-more (old_point 𝓝 w at n xs v) 3 (old-long 𝓝 w at n v xs) l to v u h (to + 3 * u) refl)

  module _ (long : length (links (part at (3 * n) w)) ≡ 3 * n) where
    abbrev met : ℕ → Bool
    met = first_met (links (part at (3 * n) w))

    firsts-are : firsts (links (part at (3 * n) w)) ≡ keep met (count 0 (3 * n))
    firsts-are = ap (λ (z : ℕ). keep met (count 0 z)) long

    pub edges-all : sets l (to + 3 * v) (gather (edge_point 𝓝 w at n xs) (keep met (count 0 (3 * n)))) ≡ sets l (to + 3 * v) (edge_points 𝓝 w at n xs)
    edges-all = ap (λ (ks : List ℕ). sets l (to + 3 * v) (gather (edge_point 𝓝 w at n xs) ks)) (sym firsts-are)

    module _ (s : ℕ) (h : s < 3 * n) where
      pub edge-room : met s ≡ true → length (keep met (count 0 s)) < edges_in w at n
      edge-room t = rw firsts-are (kept-room (edge_point 𝓝 w at n xs) 3 (λ _. refl) met l (to + 3 * v) (3 * n) s h t)

      pub edge_same : met s ≡ false → keep met (count 0 (s + 1)) ≡ keep met (count 0 s)
      edge_same t = kept_same (edge_point 𝓝 w at n xs) 3 (λ _. refl) met l (to + 3 * v) (3 * n) s h t

      pub edge_count : met s ≡ true → length (keep met (count 0 (s + 1))) ≡ length (keep met (count 0 s)) + 1
      edge_count t = kept-count (edge_point 𝓝 w at n xs) 3 (λ _. refl) met l (to + 3 * v) (3 * n) s h t

      module _ (x : List 𝓝.N) (e : x ≡ sets l (to + 3 * v) (gather (edge_point 𝓝 w at n xs) (keep met (count 0 s)))) where
        pub edge_kept : part from (3 * v) x ≡ xs
        edge_kept =
            let c = length-gather (edge_point 𝓝 w at n xs) 3 (λ _. refl) (keep met (count 0 s)) in
            let d : length (keep met (count 0 s)) ≤ edges_in w at n =
            rw (firsts-are, length-keep met (count 0 s), length-keep met (count 0 (3 * n))) (rank-le met s (3 * n) (omega arith)) in
            rw e (beside (to + 3 * v) (gather (edge_point 𝓝 w at n xs) (keep met (count 0 s))) (omega arith) (omega arith))

        pub edge_more : (y p : List 𝓝.N) (k : ℕ) → met s ≡ true → k ≡ length (keep met (count 0 s)) → y ≡ sets x (to + 3 * v + 3 * k) p
            → p ≡ edge_point 𝓝 w at n (part from (3 * v) x) s → y ≡ sets l (to + 3 * v) (gather (edge_point 𝓝 w at n xs) (keep met (count 0 (s + 1))))
        edge_more y p k t f a b =
            let c : p ≡ edge_point 𝓝 w at n xs s = b ∙ ap (λ (z : List 𝓝.N). edge_point 𝓝 w at n z s) edge_kept in
            a ∙ rw (c, e) (kept_more (edge_point 𝓝 w at n xs) 3 (λ _. refl) met l (to + 3 * v) (3 * n) s h (to + 3 * v + 3 * k) t (omega arith))

  -- ---- both

  pub points_kept : part from (3 * v) (sets l to (old_points 𝓝 w at n xs v)) ≡ xs
  points_kept =
      let c = length-gather (old_point 𝓝 w at n xs v) 3 (old-long 𝓝 w at n v xs) (count 0 v) in
      beside to (old_points 𝓝 w at n xs v) (omega arith) (omega (arith, c, length-count 0 v))

  pub points-are : (x y : List 𝓝.N) → x ≡ sets l to (old_points 𝓝 w at n xs v) → y ≡ sets x (to + 3 * v) (edge_points 𝓝 w at n (part from (3 * v) x))
      → y ≡ sets l to (new_positions 𝓝 (mesh_in w at n v) (links (part at (3 * n) w)) xs)
  unfolding new_positions
  points-are x y a b =
      let c = length-gather (old_point 𝓝 w at n xs v) 3 (old-long 𝓝 w at n v xs) (count 0 v) in
      b ∙ rw (a, points_kept) (sets-next (old_points 𝓝 w at n xs v) (edge_points 𝓝 w at n xs) l to (to + 3 * v) (omega (arith, c, length-count 0 v)))
