-- The ring of an old vertex after a level is the new vertices of its spokes, in the same order; the ring of a new vertex; the far corners of the spokes.
use mathlib.Core.Path.{◌≡◌, refl, sym, ap, ap₂, ◌∙◌}
use Prim.Native.Nat.{ℕ, suc, ◌+◌, ◌*◌, ◌<◌, suc-le-suc, zero-le}
use native.Mathlib.Omega.{arith}
use mathlib.Core.List.{List, [], ◌∷◌, map}
use mathlib.Core.Option.{Option, none, some}
use lib.ListN.{length, get_or}
use Rattle.rules.specs.Mesh.{onward, backward, corner, links, through, restart, fourth, Fan, inner, rim, endless, fan, valence, ring}
use Rattle.lists.specs.Lists.{last_of}
use Rattle.lists.proofs.Places.{get_d_map, map-as}
use Rattle.rules.proofs.Sides.{back_on, on-twice, on_below}
use Rattle.rules.proofs.Refine.{Good, finer_of, mid_of, back_below, back-twice, on-fourth, back-fourth, at-restart, at_onward, at-backward, at-fourth}
use Rattle.rules.proofs.Links.{half2, half2-to}
use Rattle.rules.proofs.Faces.{link-below, link-twins}
use Rattle.rules.proofs.Fans.{map_fan, fan-finer, valence-as}
use Rattle.rules.proofs.Turns.{after, Round, Turned, round, fringe, turned, fan-ends, last-in}
use Rattle.rules.proofs.Edges.{fan-inner, fan-rim}

-- the sides of the spokes, in the order of the ring
abbrev pub spokes : Fan → List ℕ
spokes (inner cs) = cs
spokes (rim cs) = get_or cs 0 0 ∷ map backward cs
spokes endless = []

module _ (v n : ℕ) (fs : List ℕ) (g : Good v n fs) where
  ring-as : (s : ℕ) (f : Fan) → Turned n fs s f → ring (finer_of v n fs) (map_fan restart f) ≡ map (mid_of v fs) (spokes f)
  ring-as s _ (round cs r) = map-as (λ x. corner (finer_of v n fs) (onward x)) (mid_of v fs) restart cs (λ k h. at_onward v n fs g (get_or cs k 0) (r.corners.below k h))
  ring-as s _ (fringe cs r) =
      let e : get_or (map restart cs) 0 0 ≡ restart (get_or cs 0 0) = get_d_map restart cs 0 0 0 r.filled in
      ap₂ {C = List ℕ} (λ y ys. y ∷ ys)
      (ap (λ (z : ℕ). corner (finer_of v n fs) (onward z)) e ∙ at_onward v n fs g (get_or cs 0 0) (r.corners.below 0 r.filled))
      (map-as (λ x. corner (finer_of v n fs) (backward x)) (λ x. mid_of v fs (backward x)) restart cs (λ k h. at-backward v n fs g (get_or cs k 0) (r.corners.below k h))
      ∙ sym (map-as (mid_of v fs) (λ x. mid_of v fs (backward x)) backward cs (λ k h. refl)))

  -- an old vertex: the same fan, the same valence, and the new vertices of its spokes for its ring
  pub old-fan : (s : ℕ) → s < 3 * n → fan (links (finer_of v n fs)) (restart s) ≡ map_fan restart (fan (links fs) s)
  old-fan s h = fan-finer v n fs g s h (fan-ends v n fs g s h)

  pub old-valence : (s : ℕ) → s < 3 * n → valence (fan (links (finer_of v n fs)) (restart s)) ≡ valence (fan (links fs) s)
  old-valence s h = ap valence (old-fan s h) ∙ valence-as restart (fan (links fs) s)

  pub old-ring : (s : ℕ) → s < 3 * n → ring (finer_of v n fs) (fan (links (finer_of v n fs)) (restart s)) ≡ map (mid_of v fs) (spokes (fan (links fs) s))
  old-ring s h = ap (ring (finer_of v n fs)) (old-fan s h) ∙ ring-as s (fan (links fs) s) (turned v n fs g s h)

  -- a new vertex
  on-four : (s : ℕ) → s < 3 * n → corner (finer_of v n fs) (onward (fourth s)) ≡ mid_of v fs (onward s)
  on-four s h = ap (corner (finer_of v n fs)) (on-fourth s) ∙ at-fourth v n fs g (onward s) (on_below s n h)

  back-four : (s : ℕ) → s < 3 * n → corner (finer_of v n fs) (backward (fourth s)) ≡ mid_of v fs (backward s)
  back-four s h = ap (corner (finer_of v n fs)) (back-fourth s) ∙ at-fourth v n fs g (backward s) (back_below s n h)

  on-cut : (s : ℕ) → s < 3 * n → corner (finer_of v n fs) (onward (onward (restart s))) ≡ mid_of v fs (backward s)
  on-cut s h = ap (corner (finer_of v n fs)) (on-twice (restart s)) ∙ at-backward v n fs g s h

  back_cut : (s : ℕ) → s < 3 * n → corner (finer_of v n fs) (backward (onward (restart s))) ≡ corner fs s
  back_cut s h = ap (corner (finer_of v n fs)) (back_on (restart s)) ∙ at-restart v n fs g s h

  back-half : (s : ℕ) → s < 3 * n → corner (finer_of v n fs) (backward (half2 s)) ≡ mid_of v fs (onward s)
  back-half s h = ap (corner (finer_of v n fs)) (back-twice (restart (onward s))) ∙ at_onward v n fs g (onward s) (on_below s n h)

  pub new-ring-inner : (s t : ℕ) → s < 3 * n → get_or (links fs) s none ≡ some t
      → ring (finer_of v n fs) (fan (links (finer_of v n fs)) (fourth s))
      ≡ (mid_of v fs (onward s) ∷ corner fs (onward s) ∷ mid_of v fs (backward t) ∷ mid_of v fs (onward t) ∷ corner fs (onward t) ∷ mid_of v fs (backward s) ∷ [])
  new-ring-inner s t h e =
      let ht = link-below v n fs g s t h e in
      rw (fan-inner v n fs g s t h e, on-four s h, half2-to v n fs g s h, on-cut t ht, on-four t ht, half2-to v n fs g t ht, on-cut s h)

  pub new-ring-rim : (s : ℕ) → s < 3 * n → get_or (links fs) s none ≡ none
      → ring (finer_of v n fs) (fan (links (finer_of v n fs)) (fourth s))
      ≡ (corner fs (onward s) ∷ mid_of v fs (onward s) ∷ mid_of v fs (backward s) ∷ corner fs s ∷ [])
  new-ring-rim s h e = rw (fan-rim v n fs g s h e, half2-to v n fs g s h, back-half s h, back-four s h, back_cut s h)

  pub new-valence-inner : (s t : ℕ) → s < 3 * n → get_or (links fs) s none ≡ some t → valence (fan (links (finer_of v n fs)) (fourth s)) ≡ 6
  new-valence-inner s t h e = rw (fan-inner v n fs g s t h e)

  pub new-valence-rim : (s : ℕ) → s < 3 * n → get_or (links fs) s none ≡ none → valence (fan (links (finer_of v n fs)) (fourth s)) ≡ 4
  new-valence-rim s h e = rw (fan-rim v n fs g s h e)

  -- ---- the far corners of a spoke are its neighbours in the ring

  pub after-link : (s t : ℕ) → after fs s ≡ some t → get_or (links fs) s none ≡ some (backward t)
  after-link s t e = go (get_or (links fs) s none) e
    where
      go : (o : Option ℕ) → through onward o ≡ some t → o ≡ some (backward t)
      go none q = absurd (let z : ◌≡◌ {A = ℕ} 0 1 = cc in omega arith)
      go (some x) q = let r : onward x ≡ t = cc in ap some (sym (ap backward (sym r) ∙ back_on x))

  pub far : (s t : ℕ) → s < 3 * n → after fs s ≡ some t → corner fs (backward t) ≡ corner fs (onward s)
  far s t h e = (link-twins v n fs g s (backward t) h (after-link s t e)).from

-- ---- round a list: each a is the b before it

abbrev pub sum_of : (ℕ → ℕ) → List ℕ → ℕ
sum_of f [] = 0
sum_of f (x ∷ xs) = f x + sum_of f xs

line-sum : (a b : ℕ → ℕ) (d x : ℕ) (cs : List ℕ) → ((k : ℕ) → suc k < length (x ∷ cs) → a (get_or (x ∷ cs) (suc k) 0) ≡ b (get_or (x ∷ cs) k 0)) → sum_of a (x ∷ cs) + b (last_of d (x ∷ cs)) ≡ a x + sum_of b (x ∷ cs)
line-sum a b d x [] h = omega arith
line-sum a b d x (y ∷ ys) h = omega (arith, h 0 (suc-le-suc (suc-le-suc zero-le)), line-sum a b x y ys (λ k l. h (suc k) (suc-le-suc l)))

pub round-sum : (a b : ℕ → ℕ) (cs : List ℕ) → ((k : ℕ) → suc k < length cs → a (get_or cs (suc k) 0) ≡ b (get_or cs k 0)) → (0 < length cs → a (get_or cs 0 0) ≡ b (last_of 0 cs)) → sum_of a cs ≡ sum_of b cs
round-sum a b [] h e = refl
round-sum a b (x ∷ cs) h e = omega (arith, line-sum a b 0 x cs h, e (suc-le-suc zero-le))

-- the far corner across a side
abbrev pub yonder : List ℕ → Option ℕ → ℕ
yonder fs none = 0
yonder fs (some t) = corner fs (backward t)

module _ (v n : ℕ) (fs : List ℕ) (g : Good v n fs) where
  -- the far corners of the spokes of an inner vertex are its ring, turned round, either way
  pub far-before : (s : ℕ) (cs : List ℕ) → Round n fs s cs → (w : ℕ → ℕ) → sum_of (λ x. w (corner fs (backward x))) cs ≡ sum_of (λ x. w (corner fs (onward x))) cs
  far-before s cs r w = round-sum (λ x. w (corner fs (backward x))) (λ x. w (corner fs (onward x))) cs
      (λ k l. ap w (far v n fs g (get_or cs k 0) (get_or cs (suc k) 0) (r.corners.below k (omega arith)) (r.next k l)))
      (λ l. ap w (far v n fs g (last_of 0 cs) (get_or cs 0 0) (last-in v n fs g s cs r.filled r.corners).0 r.closes))

  yonder-is : (s t : ℕ) → after fs s ≡ some t → corner fs (onward t) ≡ yonder fs (get_or (links fs) s none)
  yonder-is s t e = sym (ap (yonder fs) (after-link v n fs g s t e) ∙ ap (corner fs) (back-twice t))

  pub far-after : (s : ℕ) (cs : List ℕ) → Round n fs s cs → (w : ℕ → ℕ) → sum_of (λ x. w (corner fs (onward x))) cs ≡ sum_of (λ x. w (yonder fs (get_or (links fs) x none))) cs
  far-after s cs r w = round-sum (λ x. w (corner fs (onward x))) (λ x. w (yonder fs (get_or (links fs) x none))) cs
      (λ k l. ap w (yonder-is (get_or cs k 0) (get_or cs (suc k) 0) (r.next k l)))
      (λ l. ap w (yonder-is (last_of 0 cs) (get_or cs 0 0) r.closes))
