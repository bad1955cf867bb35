-- At level 1 each new vertex of an edge: its exact limit over one denominator, from the control points.
use mathlib.Core.Path.{◌≡◌, refl, sym, ap, ◌∙◌}
use Prim.Native.Nat.{ℕ, zero, suc, ◌+◌, ◌-◌, ◌*◌, ◌<◌, min, max}
use native.Mathlib.Omega.{arith}
use native.Mathlib.Decide.{dec_lt}
use mathlib.Core.List.{List, [], ◌∷◌, map}
use mathlib.Core.Option.{Option, none, some}
use lib.ListN.{get_or}
use lib.IntN.{ℤ, pos}
use Rattle.lists.proofs.Pairs.{Pairs, pairs-map}
use Rattle.whole.specs.Whole.{raise, Near}
use Rattle.whole.specs.Fraction.{Fraction, of_whole}
use Rattle.rules.specs.Mesh.{onward, backward, corner, links, firsts, inner, rim, Mesh, refined}
use Rattle.rules.specs.Position.{exact, limit, rim_rule, each, out_of, own}
use Rattle.rules.specs.Levels.{ends, coord, edge_at, new_positions, limits}
use Rattle.rules.proofs.Weights.{ring-adds-up, rim-adds-up}
use Rattle.rules.proofs.Refine.{Good, mid_of, edges}
use Rattle.rules.proofs.Number.{middle-range, first-at}
use Rattle.rules.proofs.Sides.{on_below}
use Rattle.rules.proofs.Refine.{back_below}
use Rattle.rules.proofs.Faces.{link-below}
use Rattle.rules.proofs.Sound.{Sound}
use Rattle.rules.proofs.Spokes.{edge-inner, edge-rim, new-at}
use Rattle.station.specs.Far.{Over, eight_at}
use Rattle.station.proofs.Over.{over-one, over-halves, over-eighths, over-six, over-two}
use Rattle.station.proofs.Fresh.{new-limit-inner, new-limit-rim}

get_or-whole : (xs : List ℤ) (k : ℕ) → get_or (map of_whole xs) k (of_whole (pos 0)) ≡ of_whole (get_or xs k (pos 0))
get_or-whole [] k = refl
get_or-whole (x ∷ xs) zero = refl
get_or-whole (x ∷ xs) (suc k) = get_or-whole xs k

pub over-to : {D F x y : ℕ} {X Y : Fraction} → D ≡ F → x ≡ y → X ≡ Y → Over D x X → Over F y Y
over-to d n e o = rw (← d, ← n, ← e) o

min-max : (f : ℕ → ℕ) (a b : ℕ) → f (min a b) + f (max a b) ≡ f a + f b
min-max f a b = go (dec_lt a b)
  where
    go : Dec (a < b) → f (min a b) + f (max a b) ≡ f a + f b
    go (yes l) = let p : min a b ≡ a = omega arith in let q : max a b ≡ b = omega arith in rw (p, q)
    go (no l) = let p : min a b ≡ b = omega arith in let q : max a b ≡ a = omega arith in rw (p, q) (omega arith)

module _ (xs : List ℤ) (near : (k : ℕ) → Near (get_or xs k (pos 0))) (c : ℕ) where
  -- raised coordinates of the control points
  abbrev pub R : ℕ → ℕ
  R u = raise (get_or xs (3 * u + c) (pos 0))

  pub at0 : (u : ℕ) → Over 1 (R u) (coord exact (map of_whole xs) c u)
  at0 u = over-to refl refl (sym (get_or-whole xs (3 * u + c))) (over-one (near (3 * u + c)))

  -- the new point of an edge, times 8
  abbrev pub e8 : List ℕ → ℕ → Option ℕ → ℕ
  e8 fs s o = eight_at xs c fs s o

  pub all0 : (vs : List ℕ) → Pairs (Over 1) (map R vs) (map (coord exact (map of_whole xs) c) vs)
  all0 vs = pairs-map (Over 1) R (coord exact (map of_whole xs) c) at0 vs

  module _ (n : ℕ) (m : Mesh) (w : Sound n m) (small : c < 3) where
    abbrev v : ℕ
    v = m.verts

    abbrev fs : List ℕ
    fs = m.faces

    abbrev ls : List (Option ℕ)
    ls = links fs

    abbrev g : Good v n fs
    g = w.good

    abbrev pts : List Fraction
    pts = new_positions exact m ls (map of_whole xs)

    pub edge-over : (s : ℕ) → s < 3 * n → (o : Option ℕ) → get_or ls s none ≡ o → Over 8 (e8 fs s o) (coord exact pts c (mid_of v fs s))
    edge-over s h none e =
        let r = middle-range v n fs g s h in
        let i = mid_of v fs s - v in
        let p : v + i ≡ mid_of v fs s = omega (arith, r.0) in
        let q = new-at exact m ls (map of_whole xs) i c (omega (arith, r.1)) small in
        let f = edge-rim v n fs g s h e in
        let z = q ∙ ap (λ (x : ℕ). edge_at exact fs (map of_whole xs) x (get_or ls x none) c) f ∙ ap (λ (o : Option ℕ). edge_at exact fs (map of_whole xs) s o c) e in
        over-to refl (ap (λ (x : ℕ). 4 * x) (min-max R (corner fs s) (corner fs (onward s)))) (sym z ∙ ap (coord exact pts c) p)
        (over-halves (at0 (min (corner fs s) (corner fs (onward s)))) (at0 (max (corner fs s) (corner fs (onward s)))))
    edge-over s h (some t) e =
        let r = middle-range v n fs g s h in
        let i = mid_of v fs s - v in
        let p : v + i ≡ mid_of v fs s = omega (arith, r.0) in
        let q = new-at exact m ls (map of_whole xs) i c (omega (arith, r.1)) small in
        let f = edge-inner v n fs g s t h e in
        let x = get_or (firsts ls) i 0 in
        let z = q ∙ ap (λ (o : Option ℕ). edge_at exact fs (map of_whole xs) x o c) f.link in
        over-to refl (omega (arith, min-max R (corner fs x) (corner fs (onward x)), f.ends R, f.fars R)) (sym z ∙ ap (coord exact pts c) p)
        (over-eighths (at0 (min (corner fs x) (corner fs (onward x)))) (at0 (max (corner fs x) (corner fs (onward x)))) (at0 (corner fs (backward x))) (at0 (corner fs (backward f.other))))

    -- the new vertex of an inner edge at the limit, from its ends over 8 j and 8 k
    pub fresh-by : (i t : ℕ) (i-below : i < edges v n fs g) → get_or ls (get_or (firsts ls) i 0) none ≡ some t
        → (s j k a b : ℕ) → s ≡ get_or (firsts ls) i 0 → Over (8 * j) a (coord exact pts c (corner fs (onward t))) → Over (8 * k) b (coord exact pts c (corner fs (onward s)))
        → Over (96 * (j * k))
        ((6 * e8 fs s (some t) + e8 fs (onward s) (get_or ls (onward s) none) + e8 fs (backward t) (get_or ls (backward t) none) + e8 fs (onward t) (get_or ls (onward t) none) + e8 fs (backward s) (get_or ls (backward s) none)) * (j * k)
        + a * k + b * j)
        (coord exact (limits exact (refined m ls) (links (refined m ls).faces) pts) c (v + i))
    fresh-by i t h e s j k a b q oa ob =
        let d : s < 3 * n = rw (← q) at (first-at v n fs g i h).below in
        let e' : get_or ls s none ≡ some t = ap (λ (x : ℕ). get_or ls x none) q ∙ e in
        let bt = link-below v n fs g s t d e' in
        let mid : mid_of v fs s ≡ v + i = ap (mid_of v fs) q ∙ (first-at v n fs g i h).is in
        let lim = new-limit-inner exact n m w pts i t c h small e in
        over-to refl refl (sym (rw (← q) at lim))
        (over-six j k (ring-adds-up limit 6 (omega arith))
        (over-to refl refl (ap (coord exact pts c) mid) (edge-over s d (some t) e'))
        (edge-over (onward s) (on_below s n d) (get_or ls (onward s) none) refl)
        (edge-over (backward t) (back_below t n bt) (get_or ls (backward t) none) refl)
        (edge-over (onward t) (on_below t n bt) (get_or ls (onward t) none) refl)
        (edge-over (backward s) (back_below s n d) (get_or ls (backward s) none) refl)
        oa ob)

    -- of a rim side
    pub fresh-rim-by : (i : ℕ) (i-below : i < edges v n fs g) → get_or ls (get_or (firsts ls) i 0) none ≡ none
        → (s j k a b : ℕ) → s ≡ get_or (firsts ls) i 0 → Over (8 * j) a (coord exact pts c (corner fs s)) → Over (8 * k) b (coord exact pts c (corner fs (onward s)))
        → Over (8 * (j * k) * out_of (rim_rule limit))
        (own (rim_rule limit) 2 * (e8 fs s none * (j * k)) + each (rim_rule limit) * (b * j + (a * k + 0)))
        (coord exact (limits exact (refined m ls) (links (refined m ls).faces) pts) c (v + i))
    fresh-rim-by i h e s j k a b q oa ob =
        let d : s < 3 * n = rw (← q) at (first-at v n fs g i h).below in
        let e' : get_or ls s none ≡ none = ap (λ (x : ℕ). get_or ls x none) q ∙ e in
        let mid : mid_of v fs s ≡ v + i = ap (mid_of v fs) q ∙ (first-at v n fs g i h).is in
        let lim = new-limit-rim exact n m w pts i c h small e in
        over-to refl refl (sym (rw (← q) at lim))
        (over-two j k (rim_rule limit) (rim-adds-up limit) (over-to refl refl (ap (coord exact pts c) mid) (edge-over s d none e')) oa ob)
