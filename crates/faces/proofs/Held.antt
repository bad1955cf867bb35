-- What a caller of the walks and rings has where the words hold a mesh that the checks have passed.
use mathlib.Core.Path.{◌≡◌, refl, sym, ap, ap₂, ◌∙◌}
use Prim.Native.Nat.{ℕ, zero, suc, ◌+◌, ◌*◌, ◌≤◌, ◌<◌}
use native.Mathlib.Omega.{arith}
use mathlib.Core.List.{List, [], ◌∷◌}
use mathlib.Core.Option.{Option, none, some}
use lib.ListN.{length, get_or, length-map}
use Rattle.lists.specs.Lists.{part}
use Rattle.lists.proofs.Stores.{get_d_part}
use Rattle.turns.specs.Turns.{most_valence}
use Rattle.rules.specs.Mesh.{onward, corner, links, Fan, inner, rim, endless, fan, valence, ring, Mesh}
use Rattle.rules.proofs.Refine.{Good}
use Rattle.rules.proofs.Sides.{on_below, length-links}
use Rattle.rules.proofs.Faces.{link-below, link-twins, link-link}
use Rattle.rules.proofs.Turns.{fan-ends}
use Rattle.rules.proofs.Sound.{Sound}
use Rattle.rules.proofs.Levels.{Small}
use Rattle.faces.specs.Words.{link_of, coded, links_in, face_count, Holds}
use Rattle.faces.specs.Rings.{Walkable, Mated, Ringable, ring_of}
use Rattle.faces.proofs.Links.{get_or-links_in}

-- ---- link words and links, one for one

pub coded-link : (x : ℕ) → coded (link_of x) ≡ x
coded-link zero = refl
coded-link (suc t) = refl

pub link-coded : (o : Option ℕ) → link_of (coded o) ≡ o
link-coded none = refl
link-coded (some t) = refl

coded-below : (n : ℕ) (o : Option ℕ) → ((t : ℕ) → o ≡ some t → t < n) → coded o ≤ n
coded-below n none h = omega arith
coded-below n (some t) h = h t refl

in_list : (l : List (Option ℕ)) (i t : ℕ) → get_or l i none ≡ some t → i < length l
in_list [] i t e = absurd (let z : ◌≡◌ {A = ℕ} 0 1 = cc in omega arith)
in_list (x ∷ l) zero t e = omega arith
in_list (x ∷ l) (suc i) t e = let h = in_list l i t e in omega arith

-- ---- a mesh of n faces, held from `at` on

module _ (w : List ℕ) (at n : ℕ) (m : Mesh) (h : Holds w at m) (g : Good m.verts n m.faces) where
  pub count-is : face_count m ≡ n
  count-is = omega (arith, g.size)

  pub faces-held : part at (3 * n) w ≡ m.faces
  faces-held = rw count-is at h.faces

  pub links-held : links_in w (at + 3 * n) (3 * n) ≡ links m.faces
  links-held = rw count-is at h.links

  pub starts-held : part (at + 6 * n) m.verts w ≡ m.starts
  starts-held = rw count-is at h.starts

  pub room-held : at + 6 * n + m.verts ≤ length w
  room-held = rw count-is at h.room

  pub corner-word : (s : ℕ) → s < 3 * n → get_or w (at + s) 0 ≡ corner m.faces s
  corner-word s k = sym (get_d_part w at (3 * n) s 0 k) ∙ ap (λ (l : List ℕ). get_or l s 0) faces-held

  pub corner-below : (s : ℕ) → s < 3 * n → get_or w (at + s) 0 < m.verts
  corner-below s k = rw (corner-word s k) (g.below s k)

  pub link-word : (s : ℕ) → s < 3 * n → get_or w (at + 3 * n + s) 0 ≡ coded (get_or (links m.faces) s none)
  link-word s k =
      sym (coded-link (get_or w (at + 3 * n + s) 0))
      ∙ ap coded (sym (get_or-links_in w (at + 3 * n) (3 * n) (omega (arith, room-held)) s k) ∙ ap (λ (l : List (Option ℕ)). get_or l s none) links-held)

  pub link-bound : (s : ℕ) → s < 3 * n → get_or w (at + 3 * n + s) 0 ≤ 3 * n
  link-bound s k = rw (link-word s k) (coded-below (3 * n) (get_or (links m.faces) s none) (λ t e. link-below m.verts n m.faces g s t k e))

  pub start_word : (v : ℕ) → v < m.verts → get_or w (at + 6 * n + v) 0 ≡ get_or m.starts v 0
  start_word v k = sym (get_d_part w (at + 6 * n) m.verts v 0 k) ∙ ap (λ (l : List ℕ). get_or l v 0) starts-held

  -- the walks may start at every corner
  pub walkable : (s : ℕ) → s < 3 * n → Walkable w (at + 3 * n) n s
  walkable s k = record { room = omega (arith, room-held); start = k; linked = link-bound }

  pub fan-held : (s : ℕ) → fan (links_in w (at + 3 * n) (3 * n)) s ≡ fan (links m.faces) s
  fan-held s = ap (λ (l : List (Option ℕ)). fan l s) links-held

  mates : Mated w at (at + 3 * n) n
  mates = record {
    from = λ i t k e.
        let l = sym (get_or-links_in w (at + 3 * n) (3 * n) (omega (arith, room-held)) i k ∙ e) in
        let q = ap (λ (x : List (Option ℕ)). get_or x i none) links-held in
        let z : get_or (links m.faces) i none ≡ some t = sym q ∙ sym l in
        corner-word t (link-below m.verts n m.faces g i t k z) ∙ (link-twins m.verts n m.faces g i t k z).from ∙ sym (corner-word (onward i) (on_below i n k));
  }

  -- "the neighbour's link at that edge leads back"
  leads-back : (i t : ℕ) → get_or (links_in w (at + 3 * n) (3 * n)) i none ≡ some t → get_or (links_in w (at + 3 * n) (3 * n)) t none ≡ some i
  leads-back i t e =
      let a : get_or (links m.faces) i none ≡ some t = sym (ap (λ (l : List (Option ℕ)). get_or l i none) links-held) ∙ e in
      let k = in_list (links m.faces) i t a in
      ap (λ (l : List (Option ℕ)). get_or l t none) links-held
      ∙ link-link m.verts n m.faces g i t (omega (arith, length-links m.faces, g.size)) a

  pub ringable : (s : ℕ) → s < 3 * n → valence (fan (links m.faces) s) ≤ most_valence → Ringable w at (at + 3 * n) n s
  ringable s k v = record { walkable = walkable s k; room = omega (arith, room-held); mated = mates; leads = leads-back; turns = λ e. fan-ends m.verts n m.faces g s k (sym (fan-held s) ∙ e); few = rw (fan-held s) v }

  pub ring-held : (s : ℕ) → ring (part at (3 * n) w) (fan (links_in w (at + 3 * n) (3 * n)) s) ≡ ring m.faces (fan (links m.faces) s)
  ring-held s = ap₂ ring faces-held (fan-held s)

  pub ring-of-held : (s : ℕ) → ring_of (part at (3 * n) w) (fan (links_in w (at + 3 * n) (3 * n)) s) ≡ ring_of m.faces (fan (links m.faces) s)
  ring-of-held s = ap₂ ring_of faces-held (fan-held s)

-- and at the start corner of every vertex, of a mesh whose valences are in bounds
module _ (w : List ℕ) (at n : ℕ) (m : Mesh) (h : Holds w at m) (p : Sound n m) (v : ℕ) (k : v < m.verts) where
  pub start_is : get_or w (at + 6 * n + v) 0 ≡ get_or m.starts v 0
  start_is = start_word w at n m h p.good v k

  pub start-below : get_or w (at + 6 * n + v) 0 < 3 * n
  start-below = rw start_is (p.below v k)

  pub start-ringable : Small most_valence m → Ringable w at (at + 3 * n) n (get_or w (at + 6 * n + v) 0)
  unfolding Small
  start-ringable few = ringable w at n m h p.good (get_or w (at + 6 * n + v) 0) start-below (rw start_is (few v k))

  pub start-ring :
      ring (part at (3 * n) w) (fan (links_in w (at + 3 * n) (3 * n)) (get_or w (at + 6 * n + v) 0)) ≡
      ring m.faces (fan (links m.faces) (get_or m.starts v 0))
  start-ring = ring-held w at n m h p.good (get_or w (at + 6 * n + v) 0) ∙ ap (λ (s : ℕ). ring m.faces (fan (links m.faces) s)) start_is

  pub start-ring-of :
      ring_of (part at (3 * n) w) (fan (links_in w (at + 3 * n) (3 * n)) (get_or w (at + 6 * n + v) 0)) ≡
      ring_of m.faces (fan (links m.faces) (get_or m.starts v 0))
  start-ring-of = ring-of-held w at n m h p.good (get_or w (at + 6 * n + v) 0) ∙ ap (λ (s : ℕ). ring_of m.faces (fan (links m.faces) s)) start_is

-- ---- a ring has the valence of its fan

pub length-ring : (fs : List ℕ) (f : Fan) → length (ring fs f) ≡ valence f
length-ring fs (inner cs) = length-map cs _
length-ring fs (rim cs) = ap suc (length-map cs _)
length-ring fs endless = refl
