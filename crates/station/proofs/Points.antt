-- A vertex by its ring, over the denominator of its rule: the exact point.
use mathlib.Core.Path.{◌≡◌, refl, sym, subst, ap, ◌∙◌}
use Prim.Native.Nat.{ℕ, zero, suc, ◌+◌, ◌-◌, ◌*◌, ◌/◌, ◌<◌, ◌≤◌}
use native.Mathlib.Omega.{arith}
use native.Mathlib.Nat.{mul-le-mul_right}
use mathlib.Core.Bool.{Bool, true, false}
use mathlib.Core.List.{List, [], ◌∷◌, map}
use lib.Dec.{eqb}
use lib.ListN.{length, get_or, take, length-map}
use lib.IntN.{ℤ, pos}
use Rattle.lists.specs.Lists.{pick, part}
use Rattle.whole.specs.Whole.{reach}
use Rattle.whole.specs.Fraction.{Fraction, of_whole}
use mathlib.Core.Option.{none, some}
use Rattle.turns.specs.Turns.{most_valence}
use Rattle.rules.specs.Mesh.{onward, backward, corner, links, Mesh}
use Rattle.rules.proofs.Sides.{on_below}
use Rattle.rules.proofs.Refine.{back_below}
use Rattle.faces.specs.Words.{link_of}
use Rattle.faces.proofs.Links as words
use Rattle.faces.proofs.Held.{link-coded, corner-word, link-word}
use Rattle.levels.specs.Moves.{Movable}
use Rattle.levels.proofs.Moves.{corner-small, across-below}
use Rattle.rules.specs.Position.{Stage, refining, limit, ring_rule, rim_rule, each, own, exact}
use Rattle.rules.specs.Levels.{three, moved, ends}
use Rattle.lists.proofs.Places.{last-at}
use Rattle.rules.proofs.Weights.{ring-adds-up, rim-adds-up}
use Rattle.rules.proofs.Spokes.{limit-at}
use Rattle.rules.proofs.Range.{AllNear}
use Rattle.weights.specs.Weights.{rule_of}
use Rattle.weights.specs.Lent.{by_ring, shared, all_of, own as share_own, Shares}
use Rattle.weights.specs.declared.micrometres.Share.{Share}
use Rattle.weights.specs.declared.Rule.{Rule}
use Rattle.weights.specs.declared.Rule.TheVariants.{Ring, Rim}
use Rattle.levels.specs.Level.{mesh_in}
use Rattle.station.specs.Far.{Over, raised_at, sum_n, weighted_n, Stands, Exactly, exact0, moved_in, eight_at, eight_in, Ruled, Refined2}
use Rattle.station.specs.declared.fractions.Over3.{Over3}
use Rattle.station.proofs.Over.{over-blend}
use Rattle.station.proofs.Edge.{over-to, at0, all0}

-- ---- one more of a sum

pub sum-next : (f : ℕ → ℕ) (l : List ℕ) (i : ℕ) → i < length l → sum_n (map f (take (i + 1) l)) ≡ sum_n (map f (take i l)) + f (get_or l i 0)
sum-next f [] i h = absurd (omega arith)
sum-next f (x ∷ l) zero h = omega arith
sum-next f (x ∷ l) (suc i) h =
    let z : suc i + 1 ≡ suc (i + 1) = omega arith in
    rw z (omega (arith, sum-next f l i (omega arith)))

-- ---- the rule

module _ (xs : List ℤ) (near : AllNear xs) (c : ℕ) where
  ring-val : (s : Stage) (rim : Bool) (u : ℕ) (vs : List ℕ) → 0 < length vs
      → Over (all_of (shared (rule_of s rim (length vs)))) (weighted_n (shared (rule_of s rim (length vs))) (raised_at xs c) u vs) (by_ring exact s (map of_whole xs) u rim vs c)
  ring-val s true u vs h =
      over-to (omega arith) refl refl (over-blend {D = 1} (rim_rule s) (rim-adds-up s) (at0 xs near.at c u) (all0 xs near.at c (ends vs)))
  ring-val s false u vs h =
      let a : length (map (raised_at xs c) vs) ≡ length vs = length-map vs (raised_at xs c) in
      over-to (omega arith) (ap (λ (k : ℕ). own (ring_rule s (length vs)) k * raised_at xs c u + each (ring_rule s (length vs)) * sum_n (map (raised_at xs c) vs)) a) refl
      (over-blend {D = 1} (ring_rule s (length vs)) (rw a (ring-adds-up s (length vs) h)) (at0 xs near.at c u) (all0 xs near.at c vs))

  pub by-rule : (s : Stage) (rim : Bool) (u : ℕ) (vs : List ℕ) → 0 < length vs → (r : Rule Share) (d x : ℕ) → r ≡ shared (rule_of s rim (length vs)) → d ≡ all_of r
      → x ≡ weighted_n r (raised_at xs c) u vs → Over d x (by_ring exact s (map of_whole xs) u rim vs c)
  by-rule s rim u vs h r d x e f q =
      over-to (sym (f ∙ ap all_of e)) (sym (q ∙ ap (λ (k : Rule Share). weighted_n k (raised_at xs c) u vs) e)) refl (ring-val s rim u vs h)

-- ---- what the arms of a rule give

pub ring-weighted : {r : Rule Share} {b : Share} (f : ℕ → ℕ) (u : ℕ) (vs : List ℕ) {p q x : ℕ} → r ≡ Ring b → p ≡ f u → q ≡ sum_n (map f vs)
    → (x ≡ share_own b (length vs) * p + b.each * q) × (x ≤ b.all * (2 * reach)) → (x ≡ weighted_n r f u vs) × (x ≤ all_of r * (2 * reach))
ring-weighted f u vs e p q x = rw (e, sym p, sym q) x

pub rim-weighted : {r : Rule Share} {b : Share} (f : ℕ → ℕ) (u : ℕ) (vs : List ℕ) {p q x : ℕ} → r ≡ Rim b → p ≡ f u → q ≡ sum_n (map f (ends vs))
    → (x ≡ share_own b 2 * p + b.each * q) × (x ≤ b.all * (2 * reach)) → (x ≡ weighted_n r f u vs) × (x ≤ all_of r * (2 * reach))
rim-weighted f u vs e p q x = rw (e, sym p, sym q) x

pub ends-sum : (f : ℕ → ℕ) (vs : List ℕ) (a b : ℕ) → 0 < length vs → a ≡ f (get_or vs 0 0) → b ≡ f (get_or vs (length vs - 1) 0) → a + b ≡ sum_n (map f (ends vs))
ends-sum f vs a b h p q = let l = ap f (last-at 0 vs h) in omega (arith, p, q, l)

-- the shares of a rule are of a whole above zero, and not of many
pub shares-few : (r : Rule Share) (n : ℕ) → Shares r n → (0 < all_of r) × (all_of r ≤ 8 * most_valence)
shares-few (Ring b) n h = (h.above, h.few)
shares-few (Rim b) n h = (h.above, h.few)

-- a refined vertex is over eighths
pub eighth-of : (s : Stage) (rim : Bool) (n : ℕ) → s ≡ refining → 8 * (all_of (shared (rule_of s rim n)) / 8) ≡ all_of (shared (rule_of s rim n))
eighth-of s true n e = rw e refl
eighth-of s false n e = rw e (go (eqb n 3))
  where
    go : (b : Bool) → 8 * (pick b 16 (8 * n) / 8) ≡ pick b 16 (8 * n)
    go true = refl
    go false = omega arith

-- ---- in a list of three

pub stands-in : (o : Over3) (f : ℕ → Fraction) (l : List Fraction) → three exact f ≡ l → Stands o f → Stands o (λ c. get_or l c (of_whole (pos 0)))
stands-in o f l e s = subst (λ (k : List Fraction). Stands o (λ c. get_or k c (of_whole (pos 0)))) e (record { bounded = s.bounded; x = s.x; y = s.y; z = s.z })

-- ---- the limit at level 0

pub limit-exactly : (o : Over3) (w : List ℕ) (n v : ℕ) (xs : List ℤ) (u : ℕ) → u < v → Stands o (moved_in limit w 0 n v xs u) → Exactly o (exact0 w n v xs) u
unfolding exact0 moved
limit-exactly o w n v xs u h s =
    let m = mesh_in w 0 n v in
    let ls = links (part 0 (3 * n) w) in
    let ys = map of_whole xs in
    record {
      bounded = s.bounded;
      x = over-to refl refl (sym (limit-at exact m ls ys u 0 h (omega arith))) s.x;
      y = over-to refl refl (sym (limit-at exact m ls ys u 1 h (omega arith))) s.y;
      z = over-to refl refl (sym (limit-at exact m ls ys u 2 h (omega arith))) s.z;
    }

-- ---- the words of a mesh, and the point of an edge from them

module _ (w : List ℕ) (at n v : ℕ) (r : Movable w at n v) where
  abbrev m : Mesh
  m = mesh_in w at n v

  pub word_small : (x k : ℕ) → x ≡ k → k < 3 * n → get_or w (at + x) 0 < v
  word_small x k e h = rw e (corner-small w at n v r k h)

  pub word-is : (x k : ℕ) → x ≡ k → k < 3 * n → get_or w (at + x) 0 ≡ corner (part at (3 * n) w) k
  word-is x k e h = ap (λ (z : ℕ). get_or w (at + z) 0) e ∙ corner-word w at n m r.holds r.sound.good k h

  pub link-is : (s : ℕ) → s < 3 * n → get_or (links (part at (3 * n) w)) s none ≡ link_of (get_or w (at + 3 * n + s) 0)
  link-is s h = sym (link-coded (get_or (links (part at (3 * n) w)) s none)) ∙ ap link_of (sym (link-word w at n m r.holds r.sound.good s h))

  module _ (xs : List ℤ) (c s : ℕ) (h : s < 3 * n) (x a b : ℕ) (q : x ≡ onward s) (ea : a ≡ raised_at xs c (get_or w (at + s) 0)) (eb : b ≡ raised_at xs c (get_or w (at + x) 0)) where
    abbrev fs : List ℕ
    fs = part at (3 * n) w

    one_end : a ≡ raised_at xs c (corner fs s)
    one_end = ea ∙ ap (raised_at xs c) (word-is s s refl h)

    other-end : b ≡ raised_at xs c (corner fs (onward s))
    other-end = eb ∙ ap (raised_at xs c) (word-is x (onward s) q (on_below s n h))

    pub eight-rim : get_or w (at + 3 * n + s) 0 ≡ 0 → 4 * (a + b) ≡ eight_in xs c w at n s
    eight-rim e =
        let o : get_or (links fs) s none ≡ none = link-is s h ∙ ap link_of e in
        ap (λ (z : ℕ). 4 * (z + b)) one_end ∙ ap (λ (z : ℕ). 4 * (raised_at xs c (corner fs s) + z)) other-end ∙ sym (ap (eight_at xs c fs s) o)

    pub eight-inner : (y z d e : ℕ) → (get_or w (at + 3 * n + s) 0 ≡ 0 → ⊥) → y ≡ backward s → z ≡ backward (get_or w (at + 3 * n + s) 0 - 1)
        → d ≡ raised_at xs c (get_or w (at + y) 0) → e ≡ raised_at xs c (get_or w (at + z) 0) → 3 * (a + b) + d + e ≡ eight_in xs c w at n s
    eight-inner y z d e f p t ed ee =
        let u = get_or w (at + 3 * n + s) 0 - 1 in
        let o : get_or (links fs) s none ≡ some u = link-is s h ∙ words.link-word (get_or w (at + 3 * n + s) 0) f in
        let g = across-below w at n v r s h f in
        let k = ed ∙ ap (raised_at xs c) (word-is y (backward s) p (back_below s n h)) in
        let l = ee ∙ ap (raised_at xs c) (word-is z (backward u) t (back_below u n g)) in
        ap (λ (i : ℕ). 3 * (i + b) + d + e) one_end
        ∙ ap (λ (i : ℕ). 3 * (raised_at xs c (corner fs s) + i) + d + e) other-end
        ∙ ap (λ (i : ℕ). 3 * (raised_at xs c (corner fs s) + raised_at xs c (corner fs (onward s))) + i + e) k
        ∙ ap (λ (i : ℕ). 3 * (raised_at xs c (corner fs s) + raised_at xs c (corner fs (onward s))) + raised_at xs c (corner fs (backward s)) + i) l
        ∙ sym (ap (eight_at xs c fs s) o)

-- ---- a refined vertex p: its denominator is 8 j

pub record Half (p : Over3) : Type 0 where
  pub above : 0 < p.den / 8
  pub few : p.den / 8 ≤ most_valence
  pub x : p.x ≤ 8 * (p.den / 8) * (2 * reach)
  pub y : p.y ≤ 8 * (p.den / 8) * (2 * reach)
  pub z : p.z ≤ 8 * (p.den / 8) * (2 * reach)

pub half_of : (p : Over3) (f : ℕ → Fraction) → Stands p f → Ruled refining p → Half p
half_of p f s r =
    let e = r.eighth refl in
    let b = s.bounded in
    record {
      above = omega (arith, e, b.above);
      few = omega (arith, r.few);
      x = omega (arith, e, b.x);
      y = omega (arith, e, b.y);
      z = omega (arith, e, b.z);
    }

-- both ends of an edge, coordinate by coordinate
module _ (w : List ℕ) (n v : ℕ) (xs : List ℤ) (u u' : ℕ) (p q : Over3) (s : Stands p (moved_in refining w 0 n v xs u)) (r : Ruled refining p) (s' : Stands q (moved_in refining w 0 n v xs u')) (r' : Ruled refining q) where
  pub ends-x : Refined2 w n v xs 0 u u' (p.den / 8) (q.den / 8) p.x q.x
  ends-x = record { one = over-to (sym (r.eighth refl)) refl refl s.x; other = over-to (sym (r'.eighth refl)) refl refl s'.x }

  pub ends-y : Refined2 w n v xs 1 u u' (p.den / 8) (q.den / 8) p.y q.y
  ends-y = record { one = over-to (sym (r.eighth refl)) refl refl s.y; other = over-to (sym (r'.eighth refl)) refl refl s'.y }

  pub ends-z : Refined2 w n v xs 2 u u' (p.den / 8) (q.den / 8) p.z q.z
  ends-z = record { one = over-to (sym (r.eighth refl)) refl refl s.z; other = over-to (sym (r'.eighth refl)) refl refl s'.z }

-- ---- bounds of what is mixed

module _ (j k : ℕ) (a b e : ℕ) (pa : a ≤ 8 * j * (2 * reach)) (pb : b ≤ 8 * k * (2 * reach)) where
  pub rim-most : e ≤ 16 * reach → 4 * (e * (j * k)) + (b * j + a * k) ≤ 48 * (j * k) * 2000000000
  rim-most h = omega (arith, mul-le-mul_right (j * k) h, mul-le-mul_right j pb, mul-le-mul_right k pa)

  pub inner-most : e ≤ 10 * (16 * reach) → e * (j * k) + a * k + b * j ≤ 96 * (j * k) * 2000000000
  inner-most h = omega (arith, mul-le-mul_right (j * k) h, mul-le-mul_right j pb, mul-le-mul_right k pa)

pub den-few : (j k : ℕ) → j ≤ most_valence → k ≤ most_valence → 96 * (j * k) ≤ 96 * (most_valence * most_valence)
den-few j k p q = omega (arith, mul-le-mul_right k p)

pub den-above : (j k : ℕ) → 0 < j → 0 < k → 0 < j * k
den-above j k p q = let h : 1 ≤ j = omega arith in omega (arith, mul-le-mul_right k h)
