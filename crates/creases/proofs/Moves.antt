-- Request 6, with marks. The new positions of one level, for both kinds of number: what each point asks and is, and one point more of a loop.
use Prim.Native.Nat.{ℕ, ◌+◌, ◌*◌, ◌≤◌, ◌<◌}
use mathlib.Core.Path.{◌≡◌, refl, sym, ap, ap₂, ◌∙◌}
use mathlib.Core.Logic.{⊎_elim, inl, inr}
use mathlib.Core.Bool.{Bool, true, false}
use mathlib.Core.List.{List}
use mathlib.Core.Option.{Option, none}
use native.Mathlib.Omega.{arith}
use lib.IntN.{ℤ}
use lib.ListN.{length, get_or, take}
use lib.Seq.{sets}
use Rattle.lists.specs.Lists.{pick, count, keep, gather, part}
use Rattle.lists.proofs.Places.{length-count, length-gather, length-keep, rank-le}
use Rattle.lists.proofs.Stores.{sets-next, part-outside, piece-more, kept-room, kept_more, kept_same, kept-count}
use Rattle.turns.specs.Turns.{most_valence}
use Rattle.rules.specs.Mesh.{onward, links, first_met, firsts, fan, ring, Mesh}
use Rattle.rules.specs.Position.{Stage, Numbers}
use Rattle.rules.specs.Levels.{three, edge_at}
use Rattle.rules.specs.Sharp.{sharp, sharp_moved, sharp_edge, sharp_new}
use Rattle.rules.proofs.Sides.{on_below}
use Rattle.rules.proofs.Range.{AllNear}
use Rattle.faces.specs.Words.{link_of, links_in}
use Rattle.faces.proofs.Held.{links-held, link-coded, corner-word, link-word}
use Rattle.weights.specs.Lent.{on_rim, Readable, AllReadable}
use Rattle.weights.proofs.Joins.{rim-edge}
use Rattle.levels.specs.Level.{mesh_in}
use Rattle.levels.specs.Moves.{Placed, edges_in, edge_point}
use Rattle.levels.proofs.Moves.{ring-asks}
use Rattle.marks.specs.Marks.{marks_in}
use Rattle.creases.specs.declared.rings.SharpRing.{SharpRing}
use Rattle.creases.specs.Rings.{Sharpable, sharp_ring_of}
use Rattle.creases.specs.Counted.{by_count, Creasable}
use Rattle.creases.specs.Moves.{Markable, sharp_old, sharp_olds, sharp_edge_at, sharp_edges}
use Rattle.creases.proofs.Counted.{sharp-fits, sharp-readable, sharp-ends, sharp-moved}

module _ (w : List ℕ) (at marks n v : ℕ) (r : Markable w at marks n v) where
  abbrev m : Mesh
  m = mesh_in w at n v

  abbrev ms : List Bool
  ms = marks_in w marks n

  -- ---- an old vertex

  module _ (u : ℕ) (h : u < v) where
    pub sharp-asks : Sharpable w at (at + 3 * n) marks n (get_or w (at + 6 * n + u) 0)
    sharp-asks = record {
      ringable = ring-asks w at n v r.movable u h;
      room = r.room;
      both = rw (links-held w at n m r.movable.holds r.movable.sound.good) r.both;
    }

    module _ (x : SharpRing) (e : x ≡ sharp_ring_of (part at (3 * n) w) ms (fan (links_in w (at + 3 * n) (3 * n)) (get_or w (at + 6 * n + u) 0)))
        (l o : List ℕ) (long : most_valence ≤ length l) (f : o ≡ sets l 0 (ring (part at (3 * n) w) (fan (links_in w (at + 3 * n) (3 * n)) (get_or w (at + 6 * n + u) 0)))) where
      pub old-fits : x.n ≤ length o
      old-fits = sharp-fits w at n m r.movable.holds r.movable.sound r.movable.few u h ms x e l o long f

      pub old-reads : {xs : List ℤ} → 3 * v ≤ length xs → AllNear xs → Readable xs u × ((0 < length (take x.n o)) × AllReadable xs (take x.n o))
      old-reads k a = sharp-readable w at n m r.movable.holds r.movable.sound r.movable.few u h ms x e l o long f k a

      pub old-ends : {xs : List ℤ} → 3 * v ≤ length xs → AllNear xs → Creasable xs x.creases x.a x.b
      old-ends k a = sharp-ends w at n m r.movable.holds r.movable.sound r.movable.few u h ms x e l o long f k a

      pub old-is : (𝓝 : Numbers) (s : Stage) (xs p : List 𝓝.N) → p ≡ three 𝓝 (by_count 𝓝 s xs u (take x.n o) x.creases x.a x.b) → p ≡ sharp_moved 𝓝 s m (links (part at (3 * n) w)) ms xs u
      old-is 𝓝 s xs p q = sharp-moved w at n m r.movable.holds r.movable.sound r.movable.few u h ms x e l o long f 𝓝 s xs p q

-- ---- an edge: a sharp side is worked as one with no neighbour

no-neighbour : (b : Bool) → ◌≡◌ {A = Option ℕ} (pick b none none) none
no-neighbour true = refl
no-neighbour false = refl

module _ (w : List ℕ) (at marks n v : ℕ) (r : Markable w at marks n v) (𝓝 : Numbers) (xs p : List 𝓝.N) (s : ℕ) (h : s < 3 * n) where
  abbrev worked : Bool → Option ℕ → List 𝓝.N
  worked b o = three 𝓝 (sharp_edge 𝓝 (part at (3 * n) w) xs s b o)

  middle : p ≡ three 𝓝 (on_rim 𝓝 xs (get_or w (at + s) 0) (get_or w (at + onward s) 0)) → p ≡ three 𝓝 (edge_at 𝓝 (part at (3 * n) w) xs s none)
  middle q =
      let holds = r.movable.holds in
      let good = r.movable.sound.good in
      q ∙ ap₂ (λ (a b : ℕ). three 𝓝 (on_rim 𝓝 xs a b)) (corner-word w at n (mesh_in w at n v) holds good s h) (corner-word w at n (mesh_in w at n v) holds good (onward s) (on_below s n h))
      ∙ rim-edge 𝓝 (part at (3 * n) w) xs s

  pub edge-off : get_or w (at + 3 * n + s) 0 ≡ 0 → p ≡ three 𝓝 (on_rim 𝓝 xs (get_or w (at + s) 0) (get_or w (at + onward s) 0)) → p ≡ sharp_edge_at 𝓝 w at marks n xs s
  edge-off e q =
      let b = sharp (marks_in w marks n) s in
      let l = get_or (links (part at (3 * n) w)) s none in
      let o : l ≡ none = sym (link-coded l) ∙ ap link_of (sym (link-word w at n (mesh_in w at n v) r.movable.holds r.movable.sound.good s h) ∙ e) in
      middle q ∙ sym (ap (worked b) o ∙ ap (λ (z : Option ℕ). three 𝓝 (edge_at 𝓝 (part at (3 * n) w) xs s z)) (no-neighbour b))

  pub edge-sharp : sharp (marks_in w marks n) s ≡ true → p ≡ three 𝓝 (on_rim 𝓝 xs (get_or w (at + s) 0) (get_or w (at + onward s) 0)) → p ≡ sharp_edge_at 𝓝 w at marks n xs s
  edge-sharp e q = middle q ∙ sym (ap (λ (b : Bool). worked b (get_or (links (part at (3 * n) w)) s none)) e)

  pub edge-smooth : sharp (marks_in w marks n) s ≡ false → p ≡ edge_point 𝓝 w at n xs s → p ≡ sharp_edge_at 𝓝 w at marks n xs s
  edge-smooth e q = q ∙ sym (ap (λ (b : Bool). worked b (get_or (links (part at (3 * n) w)) s none)) e)

-- ---- the loops

old-long : (𝓝 : Numbers) (w : List ℕ) (at marks n v : ℕ) (xs : List 𝓝.N) (u : ℕ) → length (sharp_old 𝓝 w at marks n xs v u) ≡ 3
unfolding sharp_moved
old-long 𝓝 w at marks n v xs u = refl

module _ (𝓝 : Numbers) (w : List ℕ) (at marks n v : ℕ) (l : List 𝓝.N) (from to : ℕ) (q : Placed (length l) from to v (edges_in w at n)) where
  abbrev xs : List 𝓝.N
  xs = part from (3 * v) l

  -- a run within the new part leaves the old one alone
  beside : (a : ℕ) (ys : List 𝓝.N) → to ≤ a → a + length ys ≤ to + 3 * (v + edges_in w at n) → part from (3 * v) (sets l a ys) ≡ xs
  beside a ys h k = part-outside ys l a from (3 * v) (⊎_elim (λ p. inl (omega arith)) (λ p. inr (omega arith)) q.apart)

  module _ (u : ℕ) (h : u < v) (x : List 𝓝.N) (e : x ≡ sets l to (gather (sharp_old 𝓝 w at marks n xs v) (count 0 u))) where
    pub old-kept : part from (3 * v) x ≡ xs
    old-kept =
        let c = length-gather (sharp_old 𝓝 w at marks n xs v) 3 (old-long 𝓝 w at marks n v xs) (count 0 u) in
        rw e (beside to (gather (sharp_old 𝓝 w at marks n xs v) (count 0 u)) (omega arith) (omega (arith, c, length-count 0 u)))

    pub old-more : (y p : List 𝓝.N) → y ≡ sets x (to + 3 * u) p → p ≡ sharp_old 𝓝 w at marks n (part from (3 * v) x) v u
        → y ≡ sets l to (gather (sharp_old 𝓝 w at marks n xs v) (count 0 (u + 1)))
    old-more y p a b =
        let c : p ≡ sharp_old 𝓝 w at marks n xs v u = b ∙ ap (λ (z : List 𝓝.N). sharp_old 𝓝 w at marks n z v u) old-kept in
        a ∙ rw (c, e) (piece-more (sharp_old 𝓝 w at marks n xs v) 3 (old-long 𝓝 w at marks n v xs) l to v u h (to + 3 * u) refl)

  module _ (long : length (links (part at (3 * n) w)) ≡ 3 * n) where
    abbrev met : ℕ → Bool
    met = first_met (links (part at (3 * n) w))

    firsts-are : firsts (links (part at (3 * n) w)) ≡ keep met (count 0 (3 * n))
    firsts-are = ap (λ (z : ℕ). keep met (count 0 z)) long

    pub edges-all : sets l (to + 3 * v) (gather (sharp_edge_at 𝓝 w at marks n xs) (keep met (count 0 (3 * n)))) ≡ sets l (to + 3 * v) (sharp_edges 𝓝 w at marks n xs)
    edges-all = ap (λ (ks : List ℕ). sets l (to + 3 * v) (gather (sharp_edge_at 𝓝 w at marks n xs) ks)) (sym firsts-are)

    module _ (s : ℕ) (h : s < 3 * n) where
      pub edge-room : met s ≡ true → length (keep met (count 0 s)) < edges_in w at n
      edge-room t = rw firsts-are (kept-room (sharp_edge_at 𝓝 w at marks n xs) 3 (λ _. refl) met l (to + 3 * v) (3 * n) s h t)

      pub edge_same : met s ≡ false → keep met (count 0 (s + 1)) ≡ keep met (count 0 s)
      edge_same t = kept_same (sharp_edge_at 𝓝 w at marks n xs) 3 (λ _. refl) met l (to + 3 * v) (3 * n) s h t

      pub edge_count : met s ≡ true → length (keep met (count 0 (s + 1))) ≡ length (keep met (count 0 s)) + 1
      edge_count t = kept-count (sharp_edge_at 𝓝 w at marks n xs) 3 (λ _. refl) met l (to + 3 * v) (3 * n) s h t

      module _ (x : List 𝓝.N) (e : x ≡ sets l (to + 3 * v) (gather (sharp_edge_at 𝓝 w at marks n xs) (keep met (count 0 s)))) where
        pub edge_kept : part from (3 * v) x ≡ xs
        edge_kept =
            let c = length-gather (sharp_edge_at 𝓝 w at marks n xs) 3 (λ _. refl) (keep met (count 0 s)) in
            let d : length (keep met (count 0 s)) ≤ edges_in w at n =
            rw (firsts-are, length-keep met (count 0 s), length-keep met (count 0 (3 * n))) (rank-le met s (3 * n) (omega arith)) in
            rw e (beside (to + 3 * v) (gather (sharp_edge_at 𝓝 w at marks n xs) (keep met (count 0 s))) (omega arith) (omega arith))

        pub edge_more : (y p : List 𝓝.N) (k : ℕ) → met s ≡ true → k ≡ length (keep met (count 0 s)) → y ≡ sets x (to + 3 * v + 3 * k) p
            → p ≡ sharp_edge_at 𝓝 w at marks n (part from (3 * v) x) s → y ≡ sets l (to + 3 * v) (gather (sharp_edge_at 𝓝 w at marks n xs) (keep met (count 0 (s + 1))))
        edge_more y p k t f a b =
            let c : p ≡ sharp_edge_at 𝓝 w at marks n xs s = b ∙ ap (λ (z : List 𝓝.N). sharp_edge_at 𝓝 w at marks n z s) edge_kept in
            a ∙ rw (c, e) (kept_more (sharp_edge_at 𝓝 w at marks n xs) 3 (λ _. refl) met l (to + 3 * v) (3 * n) s h (to + 3 * v + 3 * k) t (omega arith))

  -- ---- both

  pub points_kept : part from (3 * v) (sets l to (sharp_olds 𝓝 w at marks n xs v)) ≡ xs
  points_kept =
      let c = length-gather (sharp_old 𝓝 w at marks n xs v) 3 (old-long 𝓝 w at marks n v xs) (count 0 v) in
      beside to (sharp_olds 𝓝 w at marks n xs v) (omega arith) (omega (arith, c, length-count 0 v))

  pub points-are : (x y : List 𝓝.N) → x ≡ sets l to (sharp_olds 𝓝 w at marks n xs v) → y ≡ sets x (to + 3 * v) (sharp_edges 𝓝 w at marks n (part from (3 * v) x))
      → y ≡ sets l to (sharp_new 𝓝 (mesh_in w at n v) (links (part at (3 * n) w)) (marks_in w marks n) xs)
  unfolding sharp_new
  points-are x y a b =
      let c = length-gather (sharp_old 𝓝 w at marks n xs v) 3 (old-long 𝓝 w at marks n v xs) (count 0 v) in
      b ∙ rw (a, points_kept) (sets-next (sharp_olds 𝓝 w at marks n xs v) (sharp_edges 𝓝 w at marks n xs) l to (to + 3 * v) (omega (arith, c, length-count 0 v)))
