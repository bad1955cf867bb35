-- Sums of weighted points as their loops go, and T on the rim by the places of the ring.
use mathlib.Core.Path.{◌≡◌, refl, sym, ap, ap₂, ◌∙◌}
use Prim.Native.Nat.{ℕ, zero, suc, ◌+◌, ◌-◌, ◌≤◌, ◌<◌}
use native.Mathlib.Omega.{arith}
use native.Mathlib.Nat.{not-suc-le-zero, le_of_suc-le-suc}
use native.Mathlib.Numerals.{add-one}
use mathlib.Core.List.{List, [], ◌∷◌, ◌++◌}
use lib.ListN.{length, get_or, take, drop, length-drop}
use lib.Seq.{take-suc, take-take, get_or-take, get_or-drop, length-take-le}
use lib.Ieee.{Float}
use Rattle.lists.specs.Lists.{last_of, part}
use Rattle.lists.proofs.Stores.{length_part}
use Rattle.vectors.specs.declared.Vec3.{Vec3}
use Rattle.vectors.specs.Vectors.{plus, minus, negated, scaled, origin}
use Rattle.turns.specs.Turns.{cosine, sine, half_sine}
use Rattle.rules.specs.Position.{f32}
use Rattle.rules.specs.Tangents.{weighted, rim_weight, inner_tangents, all_but_last, rim_tangent}
use Rattle.tangents.specs.Normals.{both}
use Rattle.tangents.specs.declared.Tangents.{Tangents}

-- ---- lists

but_last : (e : Vec3) (l : List Vec3) → all_but_last (e ∷ l) ≡ take (length l) (e ∷ l)
but_last e [] = refl
but_last e (q ∷ l) = ap (λ (r : List Vec3). e ∷ r) (but_last q l)

pub last-is : (e d : Vec3) (l : List Vec3) → last_of e l ≡ get_or (e ∷ l) (length l) d
last-is e d [] = refl
last-is e d (q ∷ l) = last-is q d l

-- ---- sums: one more point

weighted-more : (w : ℕ → Float) (k : ℕ) (t : Vec3) (rs : List Vec3) (r : Vec3) → weighted w k t (rs ++ (r ∷ [])) ≡ plus (weighted w k t rs) (scaled r (w (k + length rs)))
weighted-more w k t [] r = let e : k ≡ k + 0 = omega arith in ap (λ (j : ℕ). plus t (scaled r (w j))) e
weighted-more w k t (q ∷ rs) r =
    let e : k + 1 + length rs ≡ k + suc (length rs) = omega arith in
    weighted-more w (k + 1) (plus t (scaled q (w k))) rs r ∙ ap (λ (j : ℕ). plus (weighted w (k + 1) (plus t (scaled q (w k))) rs) (scaled r (w j))) e

-- the points from place a on
weighted-next : (w : ℕ → Float) (a : ℕ) (t : Vec3) (l : List Vec3) (j : ℕ) (d : Vec3) → a + j < length l →
    weighted w a t (part a (suc j) l) ≡ plus (weighted w a t (part a j l)) (scaled (get_or l (a + j) d) (w (a + j)))
weighted-next w a t l j d h =
    ap (weighted w a t) (take-suc (drop a l) j d (rw (length-drop a l) (omega arith)))
    ∙ weighted-more w a t (part a j l) (get_or (drop a l) j d)
    ∙ rw (get_or-drop a l j d, length_part l a j (omega arith))

-- the same by the place k of the point
pub rim-next : (w : ℕ → Float) (t : Vec3) (l : List Vec3) (k : ℕ) (d : Vec3) → 1 ≤ k → k < length l →
    plus (weighted w 1 t (part 1 (k - 1) l)) (scaled (get_or l k d) (w k)) ≡ weighted w 1 t (part 1 (k + 1 - 1) l)
rim-next w t l k d a h =
    let e : 1 + (k - 1) ≡ k = omega arith in
    let f : k + 1 - 1 ≡ suc (k - 1) = omega arith in
    ap (λ (j : ℕ). plus (weighted w 1 t (part 1 (k - 1) l)) (scaled (get_or l j d) (w j))) (sym e)
    ∙ sym (weighted-next w 1 t l (k - 1) d (omega arith)) ∙ ap (λ (j : ℕ). weighted w 1 t (part 1 j l)) (sym f)

pub inner-next : (w : ℕ → Float) (t : Vec3) (l : List Vec3) (i : ℕ) (d : Vec3) → i < length l →
    plus (weighted w 0 t (take i l)) (scaled (get_or l i d) (w i)) ≡ weighted w 0 t (take (i + 1) l)
inner-next w t l i d h =
    let e : 0 + i ≡ i = omega arith in
    ap (λ (j : ℕ). plus (weighted w 0 t (take i l)) (scaled (get_or l j d) (w j))) (sym e)
    ∙ sym (weighted-next w 0 t l i d (omega arith)) ∙ ap (λ (j : ℕ). weighted w 0 t (take j l)) (sym (add-one i))

-- ---- tangents by a ring, and on the rim by its first n

pub inner-is : (rs : List Vec3) (n : ℕ) (s t : Vec3) → n ≡ length rs → s ≡ weighted (λ i. cosine i n) 0 origin rs → t ≡ weighted (λ i. sine i n) 0 origin rs →
    ◌≡◌ {A = Tangents} (record { s = s; t = t }) (both (inner_tangents rs))
inner-is rs n s t m e f =
    ap₂ (λ (x y : Vec3). (let r : Tangents = record { s = x; t = y } in r))
    (e ∙ ap (λ (k : ℕ). weighted (λ i. cosine i k) 0 origin rs) m)
    (f ∙ ap (λ (k : ℕ). weighted (λ i. sine i k) 0 origin rs) m)

module _ (p d : Vec3) where
  pub rim-two : (l : List Vec3) → 2 ≤ length l → rim_tangent p (take 2 l) ≡ minus (plus (get_or l 0 d) (get_or l 1 d)) (scaled p (f32 2))
  rim-two [] h = absurd (omega arith)
  rim-two (a ∷ []) h = absurd (omega arith)
  rim-two (a ∷ b ∷ l) h = refl

  pub rim-many : (rs : List Vec3) (m : ℕ) → length rs ≡ suc m → 4 ≤ m →
      rim_tangent p rs ≡ negated (weighted (rim_weight m) 1 (scaled (plus (get_or rs 0 d) (get_or rs m d)) (half_sine 1 m)) (part 1 (m - 1) rs))
  rim-many [] m e h = absurd (omega arith)
  rim-many (a ∷ []) m e h = absurd (omega arith)
  rim-many (a ∷ b ∷ []) m e h = absurd (omega arith)
  rim-many (a ∷ b ∷ c ∷ []) m e h = absurd (omega arith)
  rim-many (a ∷ b ∷ c ∷ q ∷ []) m e h = absurd (omega arith)
  rim-many (a ∷ b ∷ c ∷ q ∷ r ∷ rs) m e h =
      let i : m - 1 ≡ suc (suc (suc (length rs))) = omega arith in
      let j : m ≡ suc (suc (suc (suc (length rs)))) = omega arith in
      let k : length rs + 4 ≡ suc (suc (suc (suc (length rs)))) = omega arith in
      rw (i, j, k, last-is r d rs, but_last r rs)

  part-first : (j n : ℕ) (l : List Vec3) → j < n → part 1 j (take n l) ≡ part 1 j l
  part-first j zero l h = absurd (not-suc-le-zero h)
  part-first j (suc n) [] h = refl
  part-first j (suc n) (x ∷ l) h = take-take j n l (le_of_suc-le-suc h)

  -- T from valence 5 on
  pub rim-wide : (ring : List Vec3) (n : ℕ) → 5 ≤ n → n ≤ length ring →
      rim_tangent p (take n ring) ≡
      negated (weighted (rim_weight (n - 1)) 1 (scaled (plus (get_or ring 0 d) (get_or ring (n - 1) d)) (half_sine 1 (n - 1))) (part 1 (n - 1 - 1) ring))
  rim-wide ring n h k =
      rim-many (take n ring) (n - 1) (rw (length-take-le n ring k) (omega arith)) (omega arith)
      ∙ rw (get_or-take n ring 0 d (omega arith), get_or-take n ring (n - 1) d (omega arith), part-first (n - 1 - 1) n ring (omega arith))

  -- S on the rim
  pub rim-ends : (ring : List Vec3) (n : ℕ) → 2 ≤ n → n ≤ length ring → minus (get_or ring (n - 1) d) (get_or ring 0 d) ≡ minus (last_of origin (take n ring)) (get_or (take n ring) 0 origin)
  rim-ends ring n h k = go (take n ring) (length-take-le n ring k) (λ j l. sym (get_or-take n ring j d l))
    where
      go : (l : List Vec3) → length l ≡ n → ((j : ℕ) → j < n → get_or ring j d ≡ get_or l j d) → minus (get_or ring (n - 1) d) (get_or ring 0 d) ≡ minus (last_of origin l) (get_or l 0 origin)
      go [] e f = absurd (omega arith)
      go (a ∷ l) e f =
          let i : n - 1 ≡ length l = omega arith in
          ap₂ minus (f (n - 1) (omega arith) ∙ ap (λ (j : ℕ). get_or (a ∷ l) j d) i ∙ sym (last-is a d l)) (f 0 (omega arith))
