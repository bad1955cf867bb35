-- Request 12: the laws of a mesh with links are cited over words that nobody has: those of the plain engine, with what looking finds put in where the linked engine
-- would keep it.
use Prim.Native.Nat.{ℕ, ◌+◌, ◌-◌, ◌*◌, ◌/◌, ◌≤◌, ◌<◌}
use mathlib.Core.Path.{◌≡◌, refl, sym, ap, ap₂, ◌∙◌}
use mathlib.Core.Logic.{inl, inr}
use mathlib.Core.Bool.{Bool, true, false}
use mathlib.Core.List.{List, map}
use mathlib.Core.Option.{Option, none, some}
use native.Mathlib.Omega.{arith}
use lib.IntN.{ℤ}
use lib.ListN.{length, get_or, take, length-map}
use lib.Seq.{sets, length-sets}
use Rattle.turns.specs.Turns.{most_valence}
use Rattle.lists.specs.Lists.{pick, part}
use Rattle.lists.proofs.Stores.{get_or-outside, get_d_part, part_of, part-outside, length_part}
use Rattle.rules.specs.Mesh.{onward, backward, corner, links, is_first, first_met, fan, ring, Mesh}
use Rattle.rules.specs.Position.{Stage, Numbers}
use Rattle.rules.specs.Levels.{three, edge_at}
use Rattle.rules.specs.Sharp.{sharp, sharp_moved, sharp_edge}
use Rattle.rules.proofs.Sides.{length-links, twin-some}
use Rattle.rules.proofs.Refine.{Good}
use Rattle.rules.proofs.Range.{AllNear}
use Rattle.faces.specs.Words.{link_of, coded, links_in, Holds}
use Rattle.faces.proofs.Links.{link-word}
use Rattle.faces.proofs.Held.{link-coded, start-below, start-ringable}
use Rattle.weights.specs.Lent.{on_rim, within, Readable, AllReadable}
use Rattle.levels.specs.Level.{mesh_in}
use Rattle.levels.proofs.Growth.{decoded}
use Rattle.marks.specs.Marks.{marks_in}
use Rattle.creases.specs.declared.rings.SharpRing.{SharpRing}
use Rattle.creases.specs.Rings.{sharp_ring_of}
use Rattle.creases.specs.Counted.{by_count, Creasable}
use Rattle.creases.specs.Moves.{sharp_edge_at}
use Rattle.creases.proofs.Counted.{sharp-fits, sharp-readable, sharp-ends, sharp-moved}
use Rattle.sharp.proofs.Marching.{marks-same}
use Rattle.looks.specs.Looked.{Seen, Ringed}
use Rattle.plain.specs.Level.{Movable}

abbrev pub ghost : List ℕ → ℕ → ℕ → List ℕ
ghost w at n = sets w (at + 3 * n) (map coded (links (part at (3 * n) w)))

module _ (w : List ℕ) (at n v : ℕ) (room : at + 6 * n + v ≤ length w) where
  abbrev fs : List ℕ
  fs = part at (3 * n) w

  abbrev wires : List ℕ
  wires = map coded (links fs)

  faces-long : length fs ≡ 3 * n
  faces-long = length_part w at (3 * n) (omega arith)

  pub sides-long : length (links fs) ≡ 3 * n
  sides-long = length-links fs ∙ faces-long

  pub wires-long : length wires ≡ 3 * n
  wires-long = length-map (links fs) coded ∙ sides-long

  pub ghost-long : length (ghost w at n) ≡ length w
  ghost-long = length-sets w (at + 3 * n) wires

  pub faces-same : part at (3 * n) (ghost w at n) ≡ fs
  faces-same = part-outside wires w (at + 3 * n) at (3 * n) (inl (omega arith))

  -- what lies after the links
  pub part_same : (i k : ℕ) → at + 6 * n ≤ i → part i k (ghost w at n) ≡ part i k w
  part_same i k h = part-outside wires w (at + 3 * n) i k (inr (omega (arith, wires-long)))

  links-same : links_in (ghost w at n) (at + 3 * n) (3 * n) ≡ links fs
  links-same = ap (map link_of) (part_of wires w (at + 3 * n) (3 * n) wires-long (omega arith)) ∙ decoded (links fs)

  pub mesh-same : mesh_in (ghost w at n) at n v ≡ mesh_in w at n v
  mesh-same = ap₂ {C = Mesh} (λ a b. record { verts = v; faces = a; starts = b }) faces-same (part_same (at + 6 * n) v (omega arith))

  pub marks-ghost : (marks : ℕ) → at + 6 * n ≤ marks → marks_in (ghost w at n) marks n ≡ marks_in w marks n
  marks-ghost marks h = marks-same (ghost w at n) w marks n (part_same marks n h)

  pub ghost-holds : Holds (ghost w at n) at (mesh_in w at n v)
  ghost-holds =
      let e : length fs / 3 ≡ n = omega (arith, faces-long) in
      record { faces = rw e faces-same; links = rw e links-same; starts = rw e (part_same (at + 6 * n) v (omega arith)); room = rw (e, ghost-long) room }

  start-same : (u : ℕ) → get_or (ghost w at n) (at + 6 * n + u) 0 ≡ get_or w (at + 6 * n + u) 0
  start-same u = get_or-outside wires w (at + 3 * n) (at + 6 * n + u) 0 (inr (omega (arith, wires-long)))

-- ---- the new positions

no-neighbour : (b : Bool) → ◌≡◌ {A = Option ℕ} (pick b none none) none
no-neighbour true = refl
no-neighbour false = refl

module _ (w : List ℕ) (at marks n v : ℕ) (r : Movable w at marks n v) where
  abbrev g : List ℕ
  g = ghost w at n

  abbrev m : Mesh
  m = mesh_in w at n v

  abbrev ms : List Bool
  ms = marks_in w marks n

  good : Good v n m.faces
  good = r.sound.good

  holds : Holds g at m
  holds = ghost-holds w at n v r.room

  -- what the looks ask
  pub seen : Seen w at n
  seen = record {
    listed = record { room = omega (arith, r.room); thirds = omega arith; small = omega (arith, r.small) };
    apart = record { each = λ s h. good.apart s (rw good.size at h) };
  }

  pub corner-small : (s : ℕ) → s < 3 * n → corner m.faces s < v
  corner-small s h = good.below s h

  pub corner-is : (s : ℕ) → s < 3 * n → get_or w (at + s) 0 ≡ corner m.faces s
  corner-is s h = sym (get_d_part w at (3 * n) s 0 h)

  -- ---- an old vertex

  module _ (u : ℕ) (h : u < v) where
    abbrev s₀ : ℕ
    s₀ = get_or w (at + 6 * n + u) 0

    pub start_small : s₀ < 3 * n
    start_small = rw (start-same w at n v r.room u) at (start-below g at n m holds r.sound u h)

    pub ringed : Ringed w at n s₀
    ringed =
        let q = start-ringable g at n m holds r.sound u h r.few in
        let l = links-same w at n v r.room in
        let s = start-same w at n v r.room u in
        record { seen = seen; start = start_small; turns = rw (l, s) at q.turns; few = rw (l, s) at q.few }

    -- its ring, in numbers that were lent
    module _ (x : SharpRing) (e : x ≡ sharp_ring_of m.faces ms (fan (links m.faces) s₀)) (l o : List ℕ) (long : most_valence ≤ length l)
        (f : o ≡ sets l 0 (ring m.faces (fan (links m.faces) s₀))) where
      e' : x ≡ sharp_ring_of (part at (3 * n) g) ms (fan (links_in g (at + 3 * n) (3 * n)) (get_or g (at + 6 * n + u) 0))
      e' = rw (faces-same w at n v r.room, links-same w at n v r.room, start-same w at n v r.room u) e

      f' : o ≡ sets l 0 (ring (part at (3 * n) g) (fan (links_in g (at + 3 * n) (3 * n)) (get_or g (at + 6 * n + u) 0)))
      f' = rw (faces-same w at n v r.room, links-same w at n v r.room, start-same w at n v r.room u) f

      pub old-fits : x.n ≤ length o
      old-fits = sharp-fits g at n m holds r.sound r.few u h ms x e' l o long f'

      pub old-reads : {xs : List ℤ} → 3 * v ≤ length xs → AllNear xs → Readable xs u × ((0 < length (take x.n o)) × AllReadable xs (take x.n o))
      old-reads k a = sharp-readable g at n m holds r.sound r.few u h ms x e' l o long f' k a

      pub old-ends : {xs : List ℤ} → 3 * v ≤ length xs → AllNear xs → Creasable xs x.creases x.a x.b
      old-ends k a = sharp-ends g at n m holds r.sound r.few u h ms x e' l o long f' k a

      pub old-is : (𝓝 : Numbers) (s : Stage) (xs p : List 𝓝.N) → p ≡ three 𝓝 (by_count 𝓝 s xs u (take x.n o) x.creases x.a x.b) → p ≡ sharp_moved 𝓝 s m (links m.faces) ms xs u
      old-is 𝓝 s xs p q = sharp-moved g at n m holds r.sound r.few u h ms x e' l o long f' 𝓝 s xs p q

  -- ---- an edge: y is what was looked up for side s

  module _ (s : ℕ) (h : s < 3 * n) (y : ℕ) (Y : y ≡ coded (get_or (links m.faces) s none)) where
    link-is : link_of y ≡ get_or (links m.faces) s none
    link-is = ap link_of Y ∙ link-coded (get_or (links m.faces) s none)

    pub test-is : is_first s (link_of y) ≡ first_met (links m.faces) s
    test-is = ap (is_first s) link-is

    across-is : (y ≡ 0 → ⊥) → get_or (links m.faces) s none ≡ some (y - 1)
    across-is e = sym link-is ∙ link-word y e

    pub across-below : (y ≡ 0 → ⊥) → y - 1 < 3 * n
    across-below e = rw good.size at (twin-some m.faces s (y - 1) (rw good.size h) (across-is e)).below

    module _ (𝓝 : Numbers) (xs p : List 𝓝.N) (a b : ℕ) (A : a ≡ corner m.faces s) (B : b ≡ corner m.faces (onward s)) where
      abbrev worked : Bool → Option ℕ → List 𝓝.N
      worked c o = three 𝓝 (sharp_edge 𝓝 m.faces xs s c o)

      middle : p ≡ three 𝓝 (on_rim 𝓝 xs a b) → p ≡ three 𝓝 (edge_at 𝓝 m.faces xs s none)
      middle q = q ∙ ap₂ (λ (i j : ℕ). three 𝓝 (on_rim 𝓝 xs i j)) A B

      pub edge-off : y ≡ 0 → p ≡ three 𝓝 (on_rim 𝓝 xs a b) → p ≡ sharp_edge_at 𝓝 w at marks n xs s
      edge-off e q =
          let o : none ≡ get_or (links m.faces) s none = ap link_of (sym e) ∙ link-is in
          middle q ∙ sym (ap (λ (z : Option ℕ). three 𝓝 (edge_at 𝓝 m.faces xs s z)) (no-neighbour (sharp ms s))) ∙ ap (worked (sharp ms s)) o

      pub edge-sharp : sharp ms s ≡ true → p ≡ three 𝓝 (on_rim 𝓝 xs a b) → p ≡ sharp_edge_at 𝓝 w at marks n xs s
      edge-sharp e q = middle q ∙ sym (ap (λ (c : Bool). worked c (get_or (links m.faces) s none)) e)

      pub edge-smooth : (y ≡ 0 → ⊥) → sharp ms s ≡ false → (d k : ℕ) → d ≡ corner m.faces (backward s) → k ≡ corner m.faces (backward (y - 1))
          → p ≡ three 𝓝 (within 𝓝 xs a b d k) → p ≡ sharp_edge_at 𝓝 w at marks n xs s
      edge-smooth f e d k D K q =
          q ∙ rw (A, B, D, K) refl
          ∙ ap (λ (o : Option ℕ). three 𝓝 (edge_at 𝓝 m.faces xs s o)) (sym (across-is f))
          ∙ sym (ap (λ (c : Bool). worked c (get_or (links m.faces) s none)) e)
