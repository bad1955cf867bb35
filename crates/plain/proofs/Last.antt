-- Request 12: the last level that goes out, without links: the laws of crate `sharp` over the words with their links put in.
use mathlib.Core.Path.{◌≡◌, sym, ap, ap₂, ◌∙◌, subst}
use Prim.Native.Nat.{ℕ, ◌+◌, ◌-◌, ◌*◌, ◌%◌, ◌≤◌}
use native.Mathlib.Omega.{arith}
use mathlib.Core.Bool.{Bool}
use mathlib.Core.List.{List}
use lib.IntN.{ℤ}
use lib.Dec.{eqb}
use lib.ListN.{length, take, drop}
use Rattle.turns.specs.Turns.{most_valence}
use Rattle.lists.specs.Lists.{pick, part}
use Rattle.rules.specs.Mesh.{links, Mesh}
use Rattle.rules.specs.Position.{whole}
use Rattle.rules.specs.Levels.{last}
use Rattle.rules.specs.Sharp.{sharp_limits, sharp_last, sharp_positions}
use Rattle.rules.proofs.Sound.{Sound}
use Rattle.rules.proofs.Levels.{Small}
use Rattle.rules.proofs.Sharp.{sharp-mesh}
use Rattle.faces.specs.Words.{face_count, Holds}
use Rattle.levels.specs.Level.{mesh_in}
use Rattle.room.specs.Held.{start_of, half_of, third_of, Planned}
use Rattle.room.proofs.Last.{last_fits, faces-are}
use Rattle.marks.specs.Marks.{marks_in}
use Rattle.creases.specs.Moves.{Markable}
use Rattle.sharp.specs.Marked.{marks_at, SharpHeld, Listed}
use Rattle.sharp.proofs.Last as linked
use Rattle.plain.specs.Level.{Movable}
use Rattle.plain.specs.Held.{Held}
use Rattle.plain.proofs.Ghost.{ghost, ghost-long, mesh-same, marks-ghost, ghost-holds}
use Rattle.plain.proofs.Going.{mesh-read, room-read}

module _ (l : ℕ) (sl fs : List ℕ) (xs : List ℤ) (n v : ℕ) (p : Planned whole l fs xs n v) (listed : Listed l sl fs xs) (w : List ℕ) (x : List ℤ)
    (held : Held (sharp_last whole l sl fs xs) l (half_of n v) (third_of v) w x) (room : 2 * half_of n v ≤ length w) (room₃ : 2 * third_of v ≤ length x) where
  abbrev at : ℕ
  at = start_of l (half_of n v)

  abbrev marks : ℕ
  marks = marks_at l (half_of n v) n

  abbrev gw : List ℕ
  gw = ghost w at n

  count-is : face_count (sharp_last whole l sl fs xs).mesh ≡ n
  count-is = ap face_count (sharp-mesh whole l sl fs xs) ∙ sym p.faces

  verts-is : (sharp_last whole l sl fs xs).mesh.verts ≡ v
  verts-is = ap (λ (m : Mesh). m.verts) (sharp-mesh whole l sl fs xs) ∙ sym p.verts

  room-is : at + 6 * n + v ≤ length w
  room-is = room-read w at n v (sharp_last whole l sl fs xs).mesh held.words count-is verts-is

  mesh-is : mesh_in w at n v ≡ (sharp_last whole l sl fs xs).mesh
  mesh-is = mesh-read w at n v (sharp_last whole l sl fs xs).mesh held.words count-is verts-is

  after : at + 6 * n ≤ marks
  after = omega arith

  -- with links, the linked engine could go on
  ghostly : SharpHeld (sharp_last whole l sl fs xs) l (half_of n v) (third_of v) gw x
  ghostly = record {
    words = subst (λ (m : Mesh). Holds gw at m) mesh-is (ghost-holds w at n v room-is);
    marks =
        subst (λ (k : ℕ). marks_in gw (marks_at l (half_of n v) k) k ≡ (sharp_last whole l sl fs xs).marks) (sym count-is)
        (marks-ghost w at n v room-is marks after ∙ subst (λ (k : ℕ). marks_in w (marks_at l (half_of n v) k) k ≡ (sharp_last whole l sl fs xs).marks) count-is held.marks);
    coords = held.coords;
  }

  long : 2 * half_of n v ≤ length gw
  long = rw (ghost-long w at n v room-is) room

  markable : Markable gw at marks n v
  markable = linked.last-markable l sl fs xs n v p listed gw x ghostly long room₃

  pub last-movable : Movable w at marks n v
  last-movable = record {
    room = room-is;
    marked = omega (arith, markable.room, ghost-long w at n v room-is);
    sound = subst (λ (m : Mesh). Sound n m) (mesh-same w at n v room-is) markable.movable.sound;
    few = subst (λ (m : Mesh). Small most_valence m) (mesh-same w at n v room-is) markable.movable.few;
    small = omega (arith, (last_fits whole l fs xs n v p).most, faces-are whole l fs xs n v p, p.verts);
  }

  pub last-room : at + 3 * n ≤ length w
  last-room = omega (arith, room-is)

  pub last_out : part at (3 * n) w ≡ (last whole l fs xs).mesh.faces
  last_out = ap (λ (m : Mesh). m.faces) (mesh-is ∙ sharp-mesh whole l sl fs xs)

  pub last-points : (ys : List ℤ) → ys ≡ take (3 * v) (pick (eqb (l % 2) 0) (take (3 * v - 0) (drop 0 x)) (take (2 * (3 * v) - 3 * v) (drop (3 * v) x))) → ys ≡ (sharp_last whole l sl fs xs).points
  last-points ys e = linked.sharp-points l sl fs xs n v p listed gw x ghostly long room₃ ys e

  pub last-long : length (sharp_last whole l sl fs xs).points ≡ 3 * v
  last-long = linked.sharp-long l sl fs xs n v p listed gw x ghostly long room₃

  pub last-limits : (ys : List ℤ) → ys ≡ (sharp_last whole l sl fs xs).points
      → sharp_limits whole (mesh_in w at n v) (links (part at (3 * n) w)) (marks_in w marks n) ys ≡ sharp_positions whole (sharp_last whole l sl fs xs)
  last-limits ys e =
      sym (ap₂ (λ (m : Mesh) (ms : List Bool). sharp_limits whole m (links m.faces) ms ys) (mesh-same w at n v room-is) (marks-ghost w at n v room-is marks after))
      ∙ linked.last-sharp l sl fs xs n v p listed gw x ghostly long room₃ ys e
