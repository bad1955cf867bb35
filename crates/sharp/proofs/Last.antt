-- Request 6: the limit of a mesh with marks in the words, and the last level that goes out.
use mathlib.Core.Path.{◌≡◌, refl, sym, ap, ap₂, ◌∙◌, subst}
use Prim.Native.Nat.{ℕ, ◌+◌, ◌-◌, ◌*◌, ◌%◌, ◌≤◌, ◌<◌}
use native.Mathlib.Omega.{arith}
use mathlib.Core.Bool.{Bool}
use mathlib.Core.List.{List}
use lib.IntN.{ℤ}
use lib.Dec.{eqb}
use lib.ListN.{length, take, drop}
use lib.Seq.{sets}
use Rattle.lists.specs.Lists.{pick, count, gather, part}
use Rattle.lists.proofs.Stores.{piece-more, length_part}
use Rattle.rules.specs.Mesh.{links, Mesh}
use Rattle.rules.specs.Position.{limit, whole}
use Rattle.rules.specs.Levels.{last}
use Rattle.rules.specs.Sharp.{sharp_moved, sharp_limits, sharp_last, sharp_positions}
use Rattle.rules.proofs.Both.{Both}
use Rattle.rules.proofs.Marked.{both_at}
use Rattle.rules.proofs.Sharp.{sharp-mesh}
use Rattle.faces.specs.Words.{face_count, Holds}
use Rattle.levels.specs.Level.{mesh_in}
use Rattle.room.specs.Held.{start_of, half_of, third_of, Planned}
use Rattle.room.proofs.Held.{Sides, left, right, sides}
use Rattle.room.proofs.Last.{front-is, last-movable, last-mesh, last-faces}
use Rattle.marks.specs.Marks.{marks_in}
use Rattle.creases.specs.Moves.{Markable}
use Rattle.sharp.specs.Marked.{marks_at, SharpHeld, Listed}

-- ---- one vertex more

module _ (w : List ℕ) (at marks n v : ℕ) (xs : List ℤ) where
  -- vertex u at its limit
  abbrev pub sharp_limit : ℕ → List ℤ
  sharp_limit u = sharp_moved whole limit (mesh_in w at n v) (links (part at (3 * n) w)) (marks_in w marks n) xs u

  limit-long : (u : ℕ) → length (sharp_limit u) ≡ 3
  unfolding sharp_moved
  limit-long u = refl

  pub sharp-limit-more : (l x y p : List ℤ) (u : ℕ) → u < v → x ≡ sets l 0 (gather sharp_limit (count 0 u)) → y ≡ sets x (3 * u) p → p ≡ sharp_limit u
      → y ≡ sets l 0 (gather sharp_limit (count 0 (u + 1)))
  sharp-limit-more l x y p u h e a b = a ∙ rw (b, e) (piece-more sharp_limit 3 limit-long l 0 v u h (3 * u) (omega arith))

  pub sharp-limits-are : (l x : List ℤ) (u : ℕ) → u ≡ v → x ≡ sets l 0 (gather sharp_limit (count 0 u))
      → x ≡ sets l 0 (sharp_limits whole (mesh_in w at n v) (links (part at (3 * n) w)) (marks_in w marks n) xs)
  unfolding sharp_limits
  sharp-limits-are l x u e q = rw e at q

-- ---- the last level

module _ (l : ℕ) (sl fs : List ℕ) (xs : List ℤ) (n v : ℕ) (p : Planned whole l fs xs n v) (listed : Listed l sl fs xs) (w : List ℕ) (x : List ℤ)
    (held : SharpHeld (sharp_last whole l sl fs xs) l (half_of n v) (third_of v) w x) (room : 2 * half_of n v ≤ length w) (room₃ : 2 * third_of v ≤ length x) where
  mesh-is : (sharp_last whole l sl fs xs).mesh ≡ (last whole l fs xs).mesh
  mesh-is = sharp-mesh whole l sl fs xs

  count-is : face_count (sharp_last whole l sl fs xs).mesh ≡ n
  count-is = ap face_count mesh-is ∙ sym p.faces

  verts-is : (sharp_last whole l sl fs xs).mesh.verts ≡ v
  verts-is = ap (λ (m : Mesh). m.verts) mesh-is ∙ sym p.verts

  pub plain-words : Holds w (start_of l (half_of n v)) (last whole l fs xs).mesh
  plain-words = subst (λ (m : Mesh). Holds w (start_of l (half_of n v)) m) mesh-is held.words

  marks-read : marks_in w (marks_at l (half_of n v) n) n ≡ (sharp_last whole l sl fs xs).marks
  marks-read = subst (λ (k : ℕ). marks_in w (marks_at l (half_of n v) k) k ≡ (sharp_last whole l sl fs xs).marks) count-is held.marks

  both_read : Both n (links (part (start_of l (half_of n v)) (3 * n) w)) (marks_in w (marks_at l (half_of n v) n) n)
  both_read =
      let q = (both_at whole l l sl fs xs listed.passes listed.linked).both in
      let r = subst (λ (k : ℕ). Both k (links (sharp_last whole l sl fs xs).mesh.faces) (sharp_last whole l sl fs xs).marks) count-is q in
      let t = subst (λ (f : List ℕ). Both n (links f) (sharp_last whole l sl fs xs).marks) (ap (λ (m : Mesh). m.faces) mesh-is ∙ sym (last-faces whole l fs xs n v p w plain-words)) r in
      subst (λ (ms : List Bool). Both n (links (part (start_of l (half_of n v)) (3 * n) w)) ms) (sym marks-read) t

  pub last-markable : Markable w (start_of l (half_of n v)) (marks_at l (half_of n v) n) n v
  last-markable = record { movable = last-movable whole l fs xs n v p w plain-words; room = go (sides l (half_of n v)); both = both_read }
    where
      go : Sides l (half_of n v) → marks_at l (half_of n v) n + n ≤ length w
      go (left a b) = omega (arith, a)
      go (right a b) = omega (arith, a)

  pub last-room : start_of l (half_of n v) + 3 * n ≤ length w
  last-room = go (sides l (half_of n v))
    where
      go : Sides l (half_of n v) → start_of l (half_of n v) + 3 * n ≤ length w
      go (left a b) = omega (arith, a)
      go (right a b) = omega (arith, a)

  coords-read : part (start_of l (3 * v)) (3 * v) x ≡ (sharp_last whole l sl fs xs).points
  coords-read = subst (λ (k : ℕ). part (start_of l (third_of v)) (3 * k) x ≡ (sharp_last whole l sl fs xs).points) verts-is held.coords

  pub sharp-points : (ys : List ℤ) → ys ≡ take (3 * v) (pick (eqb (l % 2) 0) (take (3 * v - 0) (drop 0 x)) (take (2 * (3 * v) - 3 * v) (drop (3 * v) x))) → ys ≡ (sharp_last whole l sl fs xs).points
  sharp-points ys e = e ∙ front-is l (3 * v) x ∙ coords-read

  pub sharp-long : length (sharp_last whole l sl fs xs).points ≡ 3 * v
  sharp-long = sym (ap length coords-read) ∙ length_part x (start_of l (3 * v)) (3 * v) (go (sides l (3 * v)))
    where
      go : Sides l (3 * v) → start_of l (3 * v) + 3 * v ≤ length x
      go (left p q) = omega (arith, p)
      go (right p q) = omega (arith, p)

  pub last-sharp : (ys : List ℤ) → ys ≡ (sharp_last whole l sl fs xs).points
      → sharp_limits whole (mesh_in w (start_of l (half_of n v)) n v) (links (part (start_of l (half_of n v)) (3 * n) w)) (marks_in w (marks_at l (half_of n v) n) n) ys ≡ sharp_positions whole (sharp_last whole l sl fs xs)
  unfolding sharp_positions
  last-sharp ys e =
      ap (λ (m : Mesh). sharp_limits whole m (links m.faces) (marks_in w (marks_at l (half_of n v) n) n) ys) (last-mesh whole l fs xs n v p w plain-words ∙ sym mesh-is)
      ∙ ap₂ {C = List ℤ} (λ ms zs. sharp_limits whole (sharp_last whole l sl fs xs).mesh (links (sharp_last whole l sl fs xs).mesh.faces) ms zs) marks-read e
