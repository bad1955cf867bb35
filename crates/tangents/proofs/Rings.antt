-- What the tangents at a vertex ask and answer, where the words hold a checked mesh.
use mathlib.Core.Path.{◌≡◌, refl, ap, ap₂, ◌∙◌}
use Prim.Native.Nat.{ℕ, ◌+◌, ◌*◌, ◌≤◌, ◌<◌}
use native.Mathlib.Omega.{arith}
use mathlib.Core.List.{List, map}
use mathlib.Core.Option.{Option}
use lib.ListN.{length, get_or, take, replicate, length-map}
use lib.Seq.{sets}
use lib.Ieee.{Float}
use Rattle.lists.specs.Lists.{count, gather, part}
use Rattle.lists.proofs.Stores.{part_of, piece-more}
use Rattle.vectors.specs.declared.Vec3.{Vec3}
use Rattle.vectors.specs.Vectors.{origin}
use Rattle.turns.specs.Turns.{most_valence}
use Rattle.rules.specs.Mesh.{links, Fan, fan, ring, Mesh}
use Rattle.rules.specs.Tangents.{Pair, point, tangents_at, normal, three_of, normal_at}
use Rattle.rules.proofs.Turns.{Turned, round, fringe, turned}
use Rattle.faces.specs.Words.{links_in}
use Rattle.faces.specs.Rings.{Ringable, is_rim, ring_of}
use Rattle.faces.specs.declared.rings.Ring.{Ring}
use Rattle.faces.proofs.Held.{start-ringable, length-ring}
use Rattle.weights.specs.Lent.{There, AllThere, ringful}
use Rattle.weights.proofs.Joins.{fan_at, ring_at, there, ring-there, lent-rim, lent_fits, lent-ring}
use Rattle.levels.specs.Level.{mesh_in}
use Rattle.tangents.specs.Normals.{tangents_by, fewest, Smooth, normal_in}
use Rattle.tangents.proofs.Valence.{ring-fewest}

-- the points of a ring, among those held
pub points-are : (xs : List Float) (vs : List ℕ) → length vs ≤ most_valence → take (length vs) (ringful (map (point xs) vs)) ≡ map (point xs) vs
points-are xs vs few = part_of (map (point xs) vs) (replicate most_valence origin) 0 (length vs) (length-map vs (point xs)) (omega arith)

-- the tangents by the ring of a fan are those of docs/RULES.md
tangents-of : (n : ℕ) (fs : List ℕ) (xs : List Float) (u s : ℕ) (f : Fan) → Turned n fs s f → tangents_by xs u (is_rim f) (ring fs f) ≡ tangents_at fs xs u f
tangents-of n fs xs u s _ (round cs r) = refl
tangents-of n fs xs u s _ (fringe cs r) = refl

-- what a ring r, held in o, is good for: its tangents may be asked for, and give the normal a of vertex u
pub record Ringed (xs : List Float) (u : ℕ) (r : Ring) (o : List ℕ) (a : List Float) : Type 0 where
  pub room : r.n ≤ length o
  pub asks : There xs u × (AllThere xs (take r.n o) × (fewest r.rim ≤ length (take r.n o)))
  pub gives : three_of (normal (tangents_by xs u r.rim (take r.n o))) ≡ a

-- vertex u of the mesh that stands in the words
module _ (w : List ℕ) (at n v : ℕ) (xs : List Float) (h : Smooth w at n v xs) (u : ℕ) (k : u < v) where
  abbrev mesh : Mesh
  mesh = mesh_in w at n v

  abbrev start : ℕ
  start = get_or mesh.starts u 0

  -- its ring may be walked
  pub ring-asks : Ringable w at (at + 3 * n) n (get_or w (at + 6 * n + u) 0)
  ring-asks = start-ringable w at n mesh h.holds h.sound u k h.small

  asks : There xs u × (AllThere xs (ring_at mesh u) × (fewest (is_rim (fan_at mesh u)) ≤ length (ring_at mesh u)))
  asks =
      let l : 3 * v ≤ length xs = omega (arith, h.sized) in (
        there l k,
        (
          ring-there n mesh h.sound h.small u k l,
          rw (length-ring mesh.faces (fan_at mesh u)) (ring-fewest v n mesh.faces h.sound.good start (h.sound.below u k)),
        ),
      )

  gives : three_of (normal (tangents_by xs u (is_rim (fan_at mesh u)) (ring_at mesh u))) ≡ normal_in w at n v xs u
  unfolding normal_at
  gives = ap (λ (p : Pair). three_of (normal p)) (tangents-of n mesh.faces xs u start (fan_at mesh u) (turned v n mesh.faces h.sound.good start (h.sound.below u k)))

  -- its ring as `one_ring` leaves it, in the numbers l that were lent
  pub ring-left : (r : Ring) (l o : List ℕ) → most_valence ≤ length l →
      (r ≡ ring_of (part at (3 * n) w) (fan (links_in w (at + 3 * n) (3 * n)) (get_or w (at + 6 * n + u) 0))) ×
      (o ≡ sets l 0 (ring (part at (3 * n) w) (fan (links_in w (at + 3 * n) (3 * n)) (get_or w (at + 6 * n + u) 0)))) →
      Ringed xs u r o (normal_in w at n v xs u)
  ring-left r l o long e =
      let t = lent-ring w at n mesh h.holds h.sound h.small u k r e.0 l o long e.1 in
      let b = lent-rim w at n mesh h.holds h.sound h.small u k r e.0 l o long e.1 in
      record { room = lent_fits w at n mesh h.holds h.sound h.small u k r e.0 l o long e.1; asks = rw (t, b) asks; gives = rw (t, b) gives }

pub three-long : (m : Mesh) (ls : List (Option ℕ)) (xs : List Float) (v : ℕ) → length (normal_at m ls xs v) ≡ 3
unfolding normal_at
three-long m ls xs v = refl

-- the normal of one vertex more
pub normals-more : (w : List ℕ) (at n v : ℕ) (xs l o x : List Float) (u : ℕ) (a : Vec3) → u < v → o ≡ sets l 0 (gather (normal_in w at n v xs) (count 0 u)) →
    three_of a ≡ normal_in w at n v xs u → x ≡ sets o (3 * u) (three_of a) → x ≡ sets l 0 (gather (normal_in w at n v xs) (count 0 (u + 1)))
normals-more w at n v xs l o x u a h e q f =
    f ∙ ap₂ (λ (y z : List Float). sets y (3 * u) z) e q
    ∙ piece-more (normal_in w at n v xs) 3 (three-long (mesh_in w at n v) (links (mesh_in w at n v).faces) xs) l 0 v u h (3 * u) (omega arith)
