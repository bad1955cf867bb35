-- What the rules give over a ring is what the rules give over the fan that it was taken from. For both kinds of number.
use mathlib.Core.Path.{◌≡◌, refl, ap, ap₂, ◌∙◌}
use mathlib.Core.Logic.{◌≢◌}
use Prim.Native.Nat.{ℕ, zero, suc, ◌+◌, ◌*◌, ◌≤◌, ◌<◌}
use native.Mathlib.Omega.{arith}
use mathlib.Core.List.{List, map}
use mathlib.Core.Option.{none, some}
use lib.ListN.{length, get_or, take, length-map}
use lib.Seq.{sets, length-sets}
use lib.IntN.{ℤ}
use lib.Ieee.{Float}
use Rattle.lists.specs.Lists.{part}
use Rattle.lists.proofs.Places.{get_d_map}
use Rattle.lists.proofs.Stores.{part_of}
use Rattle.turns.specs.Turns.{most_valence}
use Rattle.rules.specs.Mesh.{onward, backward, corner, links, Fan, inner, rim, endless, fan, ring, Mesh}
use Rattle.rules.specs.Position.{Stage, ring_rule, Numbers}
use Rattle.rules.specs.Levels.{coord, three, blended, moved, edge_at}
use Rattle.rules.proofs.Sides.{on_below}
use Rattle.rules.proofs.Refine.{Good, back_below}
use Rattle.rules.proofs.Turns.{Turned, round, fringe, turned, fan-ends}
use Rattle.rules.proofs.Sound.{Sound}
use Rattle.rules.proofs.Levels.{Small}
use Rattle.rules.proofs.Range.{AllNear}
use Rattle.faces.specs.Words.{links_in, Holds}
use Rattle.faces.specs.Rings.{is_rim, ring_of}
use Rattle.faces.specs.declared.rings.Ring.{Ring}
use Rattle.faces.proofs.Held.{length-ring, start-ring, start-ring-of}
use Rattle.weights.specs.Lent.{by_ring, on_rim, within, AllOf, There, AllThere, Readable, AllReadable}

module _ (𝓝 : Numbers) (s : Stage) (fs : List ℕ) (xs : List 𝓝.N) (u : ℕ) where
  by-fan : (f : Fan) → f ≢ endless → (c : ℕ) → by_ring 𝓝 s xs u (is_rim f) (ring fs f) c ≡ blended 𝓝 s fs xs u f c
  by-fan (inner cs) e c = ap (λ (k : ℕ). 𝓝.blend (ring_rule s k) (coord 𝓝 xs c u) (map (coord 𝓝 xs c) (ring fs (inner cs)))) (length-ring fs (inner cs))
  by-fan (rim cs) e c = refl
  by-fan endless e c = absurd (e refl)

  pub three-by : (f g : ℕ → 𝓝.N) → ((c : ℕ) → f c ≡ g c) → three 𝓝 f ≡ three 𝓝 g
  three-by f g e = rw (e 0, e 1, e 2)

-- ---- a ring of a fan that turns round its vertex

module _ (v n : ℕ) (fs : List ℕ) (g : Good v n fs) (s : ℕ) where
  pub filled : (f : Fan) → Turned n fs s f → 0 < length (ring fs f)
  filled _ (round cs r) = rw (length-map cs (λ (x : ℕ). corner fs (onward x))) r.filled
  filled _ (fringe cs r) = omega arith

  pub below : (f : Fan) → Turned n fs s f → (k : ℕ) → k < length (ring fs f) → get_or (ring fs f) k 0 < v
  below _ (round cs r) k h =
      let l : k < length cs = omega (arith, length-map cs (λ (x : ℕ). corner fs (onward x))) in
      rw (get_d_map (λ (x : ℕ). corner fs (onward x)) cs k 0 0 l) (g.below (onward (get_or cs k 0)) (on_below (get_or cs k 0) n (r.corners.below k l)))
  below _ (fringe cs r) zero h = g.below (onward (get_or cs 0 0)) (on_below (get_or cs 0 0) n (r.corners.below 0 r.filled))
  below _ (fringe cs r) (suc k) h =
      let l : k < length cs = omega (arith, length-map cs (λ (x : ℕ). corner fs (backward x))) in
      rw (get_d_map (λ (x : ℕ). corner fs (backward x)) cs k 0 0 l) (g.below (backward (get_or cs k 0)) (back_below (get_or cs k 0) n (r.corners.below k l)))

-- ---- the ring of vertex u of a mesh that the checks have passed

abbrev pub fan_at : Mesh → ℕ → Fan
fan_at m u = fan (links m.faces) (get_or m.starts u 0)

abbrev pub ring_at : Mesh → ℕ → List ℕ
ring_at m u = ring m.faces (fan_at m u)

pub readable : {xs : List ℤ} {v u : ℕ} → 3 * v ≤ length xs → AllNear xs → u < v → Readable xs u
readable {u} l a h = record { room = omega arith; near = λ c k. a.at (3 * u + c) }

pub there : {xs : List Float} {v u : ℕ} → 3 * v ≤ length xs → u < v → There xs u
there l h = record { room = omega arith }

module _ (n : ℕ) (m : Mesh) (p : Sound n m) (few : Small most_valence m) (u : ℕ) (h : u < m.verts) where
  pub turns : Turned n m.faces (get_or m.starts u 0) (fan_at m u)
  turns = turned m.verts n m.faces p.good (get_or m.starts u 0) (p.below u h)

  pub ring-filled : 0 < length (ring_at m u)
  ring-filled = filled m.verts n m.faces p.good (get_or m.starts u 0) (fan_at m u) turns

  pub ring-few : length (ring_at m u) ≤ most_valence
  unfolding Small
  ring-few = rw (length-ring m.faces (fan_at m u)) (few u h)

  pub ring-below : (k : ℕ) → k < length (ring_at m u) → get_or (ring_at m u) k 0 < m.verts
  ring-below k l = below m.verts n m.faces p.good (get_or m.starts u 0) (fan_at m u) turns k l

  pub ring-all : {N : Type 0} (P : List N → ℕ → Type 0) (xs : List N) → ((j : ℕ) → j < m.verts → P xs j) → AllOf P xs (ring_at m u)
  ring-all P xs f = record { few = ring-few; at = λ k q. f (get_or (ring_at m u) k 0) (ring-below k q) }

  pub ring-readable : {xs : List ℤ} → 3 * m.verts ≤ length xs → AllNear xs → AllReadable xs (ring_at m u)
  ring-readable {xs} l a = ring-all Readable xs (λ j q. readable l a q)

  pub ring-there : {xs : List Float} → 3 * m.verts ≤ length xs → AllThere xs (ring_at m u)
  ring-there {xs} l = ring-all There xs (λ j q. there l q)

  pub moved_by : (𝓝 : Numbers) (s : Stage) (xs : List 𝓝.N) → three 𝓝 (by_ring 𝓝 s xs u (is_rim (fan_at m u)) (ring_at m u)) ≡ moved 𝓝 s m (links m.faces) xs u
  unfolding moved
  moved_by 𝓝 s xs =
      three-by 𝓝 s m.faces xs u (by_ring 𝓝 s xs u (is_rim (fan_at m u)) (ring_at m u)) (blended 𝓝 s m.faces xs u (fan_at m u))
      (by-fan 𝓝 s m.faces xs u (fan_at m u) (fan-ends m.verts n m.faces p.good (get_or m.starts u 0) (p.below u h)))

-- ---- the same ring, as `one_ring` leaves it in lent numbers o that were l, of a mesh that stands in words w
module _ (w : List ℕ) (at n : ℕ) (m : Mesh) (h : Holds w at m) (p : Sound n m) (few : Small most_valence m) (u : ℕ) (k : u < m.verts)
    (x : Ring) (e : x ≡ ring_of (part at (3 * n) w) (fan (links_in w (at + 3 * n) (3 * n)) (get_or w (at + 6 * n + u) 0)))
    (l o : List ℕ) (long : most_valence ≤ length l) (f : o ≡ sets l 0 (ring (part at (3 * n) w) (fan (links_in w (at + 3 * n) (3 * n)) (get_or w (at + 6 * n + u) 0)))) where
  is : x ≡ ring_of m.faces (fan_at m u)
  is = e ∙ start-ring-of w at n m h p u k

  stored : o ≡ sets l 0 (ring_at m u)
  stored = f ∙ ap (sets l 0) (start-ring w at n m h p u k)

  counted : x.n ≡ length (ring_at m u)
  counted = ap (λ (y : Ring). y.n) is

  pub lent-rim : x.rim ≡ is_rim (fan_at m u)
  lent-rim = ap (λ (y : Ring). y.rim) is

  pub lent_fits : x.n ≤ length o
  lent_fits = omega (arith, counted, ring-few n m p few u k, ap length stored ∙ length-sets l 0 (ring_at m u))

  pub lent-ring : take x.n o ≡ ring_at m u
  lent-ring = ap₂ (λ (j : ℕ) (y : List ℕ). take j y) counted stored ∙ part_of (ring_at m u) l 0 (length (ring_at m u)) refl (omega (arith, ring-few n m p few u k))

-- ---- the edge of side s
module _ (𝓝 : Numbers) (fs : List ℕ) (xs : List 𝓝.N) (s : ℕ) where
  pub rim-edge : three 𝓝 (on_rim 𝓝 xs (corner fs s) (corner fs (onward s))) ≡ three 𝓝 (edge_at 𝓝 fs xs s none)
  rim-edge = refl

  pub inner-edge : (t : ℕ) →
      three 𝓝 (within 𝓝 xs (corner fs s) (corner fs (onward s)) (corner fs (backward s)) (corner fs (backward t))) ≡ three 𝓝 (edge_at 𝓝 fs xs s (some t))
  inner-edge t = refl
