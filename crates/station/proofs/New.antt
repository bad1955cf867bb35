-- The new vertices of level 1 over one denominator: exact.
use mathlib.Core.Path.{◌≡◌, refl, sym, ap, ◌∙◌}
use Prim.Native.Nat.{ℕ, ◌+◌, ◌-◌, ◌*◌, ◌<◌, ◌≤◌}
use native.Mathlib.Omega.{arith}
use mathlib.Core.Bool.{true}
use mathlib.Core.List.{List, map}
use mathlib.Core.Option.{Option, none, some}
use lib.Dec.{leb→le}
use lib.ListN.{get_or}
use lib.IntN.{ℤ}
use Rattle.lists.specs.Lists.{part}
use Rattle.whole.specs.Fraction.{Fraction, of_whole}
use Rattle.rules.specs.Mesh.{onward, backward, corner, links, is_first, first_of, first_met, firsts, middle, Mesh, refined}
use Rattle.rules.specs.Position.{refining, exact}
use Rattle.rules.specs.Levels.{coord, new_positions, limits, moved}
use Rattle.rules.proofs.Refine.{Good, mid_of, edges}
use Rattle.rules.proofs.Number.{middle-range, first-of}
use Rattle.rules.proofs.Spokes.{old-at}
use Rattle.rules.proofs.Range.{AllNear}
use Rattle.faces.specs.Words.{link_of}
use Rattle.faces.proofs.Links as words
use Rattle.levels.specs.Level.{mesh_in}
use Rattle.levels.specs.Moves.{Movable}
use Rattle.levels.proofs.Moves.{link-small, across-below}
use Rattle.station.specs.Far.{Over, Exactly, RimOver, InnerOver, moved_in, eight_at, eight_in, six_in, exact1}
use Rattle.station.specs.declared.fractions.Over3.{Over3}
use Rattle.station.proofs.Edge.{over-to, fresh-by, fresh-rim-by}
use Rattle.station.proofs.Points.{word_small, word-is, link-is}

first-self : (s : ℕ) (o : Option ℕ) → is_first s o ≡ true → first_of s o ≡ s
first-self s none e = refl
first-self s (some x) e = omega (arith, leb→le s x (rw e tt))

module _ (w : List ℕ) (n v : ℕ) (r : Movable w 0 n v) where
  -- the words, counted from the front
  plain : (x : ℕ) → 0 + x ≡ x
  plain x = omega arith

  at-link : (s : ℕ) → 0 + 3 * n + s ≡ 3 * n + s
  at-link s = omega arith

  pub corner-small0 : (x k : ℕ) → x ≡ k → k < 3 * n → get_or w x 0 < v
  corner-small0 x k e h = rw (plain x) at (word_small w 0 n v r x k e h)

  pub corner-is0 : (x k : ℕ) → x ≡ k → k < 3 * n → get_or w x 0 ≡ corner (part 0 (3 * n) w) k
  corner-is0 x k e h = rw (plain x) at (word-is w 0 n v r x k e h)

  pub link-small0 : (s : ℕ) → s < 3 * n → get_or w (3 * n + s) 0 ≤ 3 * n
  link-small0 s h = rw (at-link s) at (link-small w 0 n v r s h)

  pub across0 : (s : ℕ) → s < 3 * n → (get_or w (3 * n + s) 0 ≡ 0 → ⊥) → get_or w (3 * n + s) 0 - 1 < 3 * n
  across0 s h f = rw (at-link s) at (across-below w 0 n v r s h (λ e. f (ap (λ (x : ℕ). get_or w x 0) (sym (at-link s)) ∙ e)))

  link0 : (s : ℕ) → s < 3 * n → get_or (links (part 0 (3 * n) w)) s none ≡ link_of (get_or w (3 * n + s) 0)
  link0 s h = rw (at-link s) at (link-is w 0 n v r s h)

  pub no-link0 : (s : ℕ) → s < 3 * n → get_or w (3 * n + s) 0 ≡ 0 → get_or (links (part 0 (3 * n) w)) s none ≡ none
  no-link0 s h e = link0 s h ∙ ap link_of e

  pub a-link0 : (s : ℕ) → s < 3 * n → (get_or w (3 * n + s) 0 ≡ 0 → ⊥) → get_or (links (part 0 (3 * n) w)) s none ≡ some (get_or w (3 * n + s) 0 - 1)
  a-link0 s h f = link0 s h ∙ words.link-word (get_or w (3 * n + s) 0) f

  module _ (xs : List ℤ) (near : AllNear xs) where
    abbrev m : Mesh
    m = mesh_in w 0 n v

    abbrev fs : List ℕ
    fs = part 0 (3 * n) w

    abbrev ls : List (Option ℕ)
    ls = links fs

    abbrev g : Good v n fs
    g = r.sound.good

    abbrev pts : List Fraction
    pts = new_positions exact m ls (map of_whole xs)

    -- a refined end
    end0 : (u : ℕ) → u < v → moved_in refining w 0 n v xs u 0 ≡ coord exact pts 0 u
    unfolding moved
    end0 u h = sym (old-at exact m ls (map of_whole xs) u 0 h (omega arith))

    end1 : (u : ℕ) → u < v → moved_in refining w 0 n v xs u 1 ≡ coord exact pts 1 u
    unfolding moved
    end1 u h = sym (old-at exact m ls (map of_whole xs) u 1 h (omega arith))

    end2 : (u : ℕ) → u < v → moved_in refining w 0 n v xs u 2 ≡ coord exact pts 2 u
    unfolding moved
    end2 u h = sym (old-at exact m ls (map of_whole xs) u 2 h (omega arith))

    module _ (s : ℕ) (h : s < 3 * n) (met : first_met ls s ≡ true) where
      abbrev i : ℕ
      i = mid_of v fs s - v

      i-below : i < edges v n fs g
      i-below = let a = middle-range v n fs g s h in omega (arith, a.0, a.1)

      i-is : v + i ≡ middle v ls s
      i-is = let a = middle-range v n fs g s h in omega (arith, a.0)

      s-is : s ≡ get_or (firsts ls) i 0
      s-is = sym (first-of v n fs g s h ∙ first-self s (get_or ls s none) met)

      inner-coord : (c : ℕ) → c < 3 → (t j k a b : ℕ) → get_or ls s none ≡ some t → Over (8 * j) a (coord exact pts c (corner fs (onward t))) → Over (8 * k) b (coord exact pts c (corner fs (onward s)))
          → Over (96 * (j * k)) (six_in xs c w n s t * (j * k) + a * k + b * j) (coord exact (exact1 w n v xs) c (middle v ls s))
      unfolding exact1
      inner-coord c small t j k a b e oa ob =
          over-to refl
          (ap (λ (o : Option ℕ). (6 * eight_at xs c fs s o + eight_in xs c w 0 n (onward s) + eight_in xs c w 0 n (backward t) + eight_in xs c w 0 n (onward t) + eight_in xs c w 0 n (backward s)) * (j * k) + a * k + b * j) (sym e))
          (ap (coord exact (limits exact (refined m ls) (links (refined m ls).faces) pts) c) i-is)
          (fresh-by xs near.at c n m r.sound small i t i-below (ap (λ (x : ℕ). get_or ls x none) (sym s-is) ∙ e) s j k a b s-is oa ob)

      rim-coord : (c : ℕ) → c < 3 → (j k a b : ℕ) → get_or ls s none ≡ none → Over (8 * j) a (coord exact pts c (corner fs s)) → Over (8 * k) b (coord exact pts c (corner fs (onward s)))
          → Over (48 * (j * k)) (4 * (eight_in xs c w 0 n s * (j * k)) + (b * j + a * k)) (coord exact (exact1 w n v xs) c (middle v ls s))
      unfolding exact1
      rim-coord c small j k a b e oa ob =
          over-to (omega arith)
          (drop-zero (eight_at xs c fs s none) (j * k) (b * j) (a * k) ∙ ap (λ (o : Option ℕ). 4 * (eight_at xs c fs s o * (j * k)) + (b * j + a * k)) (sym e))
          (ap (coord exact (limits exact (refined m ls) (links (refined m ls).faces) pts) c) i-is)
          (fresh-rim-by xs near.at c n m r.sound small i i-below (ap (λ (x : ℕ). get_or ls x none) (sym s-is) ∙ e) s j k a b s-is oa ob)
        where
          drop-zero : (x y p q : ℕ) → 4 * (x * y) + 1 * (p + (q + 0)) ≡ 4 * (x * y) + (p + q)
          drop-zero x y p q = omega arith

      pub inner-exactly : (o : Over3) (t u u' : ℕ) → get_or ls s none ≡ some t → u < v → u' < v → u ≡ corner fs (onward t) → u' ≡ corner fs (onward s) → InnerOver o w n v xs s t u u' → Exactly o (exact1 w n v xs) (middle v ls s)
      inner-exactly o t u u' e b b' q q' f =
          record {
            bounded = f.bounded;
            x = over-to (sym f.den) (sym f.x) refl (inner-coord 0 (omega arith) t f.j f.k f.p.x f.q.x e (over-to refl refl (end0 u b ∙ ap (coord exact pts 0) q) f.ends0.one) (over-to refl refl (end0 u' b' ∙ ap (coord exact pts 0) q') f.ends0.other));
            y = over-to (sym f.den) (sym f.y) refl (inner-coord 1 (omega arith) t f.j f.k f.p.y f.q.y e (over-to refl refl (end1 u b ∙ ap (coord exact pts 1) q) f.ends1.one) (over-to refl refl (end1 u' b' ∙ ap (coord exact pts 1) q') f.ends1.other));
            z = over-to (sym f.den) (sym f.z) refl (inner-coord 2 (omega arith) t f.j f.k f.p.z f.q.z e (over-to refl refl (end2 u b ∙ ap (coord exact pts 2) q) f.ends2.one) (over-to refl refl (end2 u' b' ∙ ap (coord exact pts 2) q') f.ends2.other));
          }

      pub rim-exactly : (o : Over3) (u u' : ℕ) → get_or ls s none ≡ none → u < v → u' < v → u ≡ corner fs s → u' ≡ corner fs (onward s) → RimOver o w n v xs s u u' → Exactly o (exact1 w n v xs) (middle v ls s)
      rim-exactly o u u' e b b' q q' f =
          record {
            bounded = f.bounded;
            x = over-to (sym f.den) (sym f.x) refl (rim-coord 0 (omega arith) f.j f.k f.p.x f.q.x e (over-to refl refl (end0 u b ∙ ap (coord exact pts 0) q) f.ends0.one) (over-to refl refl (end0 u' b' ∙ ap (coord exact pts 0) q') f.ends0.other));
            y = over-to (sym f.den) (sym f.y) refl (rim-coord 1 (omega arith) f.j f.k f.p.y f.q.y e (over-to refl refl (end1 u b ∙ ap (coord exact pts 1) q) f.ends1.one) (over-to refl refl (end1 u' b' ∙ ap (coord exact pts 1) q') f.ends1.other));
            z = over-to (sym f.den) (sym f.z) refl (rim-coord 2 (omega arith) f.j f.k f.p.z f.q.z e (over-to refl refl (end2 u b ∙ ap (coord exact pts 2) q) f.ends2.one) (over-to refl refl (end2 u' b' ∙ ap (coord exact pts 2) q') f.ends2.other));
          }
