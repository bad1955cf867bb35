-- Request 11: a cage turned and then subdivided is the plate turned, in whole micrometres, since a half goes away from zero.
use mathlib.Core.Path.{◌≡◌, refl, sym, ap, ap₂, ◌∙◌}
use Prim.Native.Nat.{ℕ, zero, suc, ◌+◌, ◌*◌, ◌/◌, min, max}
use native.Mathlib.Omega.{arith}
use mathlib.Core.Bool.{Bool, true, false, not}
use mathlib.Core.List.{List, [], ◌∷◌, ◌++◌, map, append-nil}
use mathlib.Core.Option.{Option, none, some}
use lib.ListN.{length, get_or, length-map, length-append}
use lib.IntN.{ℤ, pos, negsuc, neg_ℤ, nat_abs, ◌+ℤ◌, ◌*ℤ◌, neg_ℤ-neg_ℤ}
use lib.Dec.{leb}
use Rattle.lists.specs.Lists.{pick, later, find, count, gather}
use Rattle.lists.proofs.Places.{length-count, length-gather}
use Rattle.whole.specs.Whole.{reach, in_range, nearest}
use Rattle.whole.proofs.Reading.{is-self, is_pos, is-neg, is-add, is_mul, is_eq}
use Rattle.whole.proofs.Half.{nearest-odd}
use Rattle.rules.specs.Mesh.{onward, backward, corner, links, Fan, inner, rim, endless, fan, ring, Mesh, cage, firsts, refined}
use Rattle.rules.specs.Position.{Stage, refining, limit, Rule, each, out_of, own, sum, ring_rule, rim_rule, whole}
use Rattle.rules.specs.Levels.{coord, three, edge_at, last}
use Rattle.rules.specs.Axes.{Axis, x_axis, y_axis, z_axis, number, along, Turn, sign, turned, differ, then, inverse}
use Rattle.rules.specs.Refusals.{refusal, range_refusal, Room}
use Rattle.rules.specs.Sharp.{sharp, creases, by_creases, creased, sharp_moved, sharp_edge, sharp_new, sharp_limits, SharpLevel, sharp_first, sharp_finer, sharp_levels, sharp_last, sharp_positions, finer_marks, sharp_refusal, sharp_outcome}
use Rattle.rules.specs.declared.Counts.{Counts}
use Rattle.rules.proofs.Checks.{Stages, check-none, shape_of, stages-of}
use Rattle.rules.proofs.Related.{same-mesh}

-- ---- turns by themselves

sign-sign : (b d : Bool) (n : ℤ) → sign b (sign d n) ≡ sign (differ b d) n
sign-sign true true n = neg_ℤ-neg_ℤ n
sign-sign true false n = refl
sign-sign false d n = refl

sign-back : (b : Bool) (n : ℤ) → sign b (sign b n) ≡ n
sign-back true n = neg_ℤ-neg_ℤ n
sign-back false n = refl

along-of : {A : Type 0} (f : Axis → A) (d : Axis) → along d (f x_axis) (f y_axis) (f z_axis) ≡ f d
along-of f x_axis = refl
along-of f y_axis = refl
along-of f z_axis = refl

cons3 : {a b c x y z : ℤ} {l m : List ℤ} → a ≡ x → b ≡ y → c ≡ z → l ≡ m → a ∷ b ∷ c ∷ l ≡ x ∷ y ∷ z ∷ m
cons3 p q r s = cc

-- two turns made one after the other are their composition
pub turned_then : (s t : Turn) (xs : List ℤ) → turned t (turned s xs) ≡ turned (then s t) xs
unfolding turned then
turned_then s t [] = refl
turned_then s t (a ∷ []) = refl
turned_then s t (a ∷ b ∷ []) = refl
turned_then s t (a ∷ b ∷ c ∷ xs) = cons3 (at x_axis) (at y_axis) (at z_axis) (turned_then s t xs)
  where
    by : Axis → ℤ
    by d = sign (s.negates d) (along (s.source d) a b c)

    at : (d : Axis) → sign (t.negates d) (along (t.source d) (by x_axis) (by y_axis) (by z_axis)) ≡ sign (differ (t.negates d) (s.negates (t.source d))) (along (s.source (t.source d)) a b c)
    at d = ap (sign (t.negates d)) (along-of by (t.source d)) ∙ sign-sign (t.negates d) (s.negates (t.source d)) _

-- and each has an inverse
pub turned-back : (t : Turn) (xs : List ℤ) → turned (inverse t) (turned t xs) ≡ xs
unfolding turned inverse
turned-back t [] = refl
turned-back t (a ∷ []) = refl
turned-back t (a ∷ b ∷ []) = refl
turned-back t (a ∷ b ∷ c ∷ xs) = cons3 (at x_axis) (at y_axis) (at z_axis) (turned-back t xs)
  where
    by : Axis → ℤ
    by d = sign (t.negates d) (along (t.source d) a b c)

    at : (d : Axis) → sign (t.negates (t.target d)) (along (t.target d) (by x_axis) (by y_axis) (by z_axis)) ≡ along d a b c
    at d =
        ap (sign (t.negates (t.target d))) (along-of by (t.target d))
        ∙ sign-back (t.negates (t.target d)) _
        ∙ ap (λ (e : Axis). along e a b c) (t.there d)

pub turned-there : (t : Turn) (xs : List ℤ) → turned t (turned (inverse t) xs) ≡ xs
unfolding turned inverse
turned-there t [] = refl
turned-there t (a ∷ []) = refl
turned-there t (a ∷ b ∷ []) = refl
turned-there t (a ∷ b ∷ c ∷ xs) = cons3 (at x_axis) (at y_axis) (at z_axis) (turned-there t xs)
  where
    by : Axis → ℤ
    by d = sign (t.negates (t.target d)) (along (t.target d) a b c)

    at : (d : Axis) → sign (t.negates d) (along (t.source d) (by x_axis) (by y_axis) (by z_axis)) ≡ along d a b c
    at d =
        ap (sign (t.negates d)) (along-of by (t.source d))
        ∙ ap (λ (e : Axis). sign (t.negates d) (sign (t.negates e) (along e a b c))) (t.back d)
        ∙ sign-back (t.negates d) _

pub length-turned : (t : Turn) (xs : List ℤ) → length (turned t xs) ≡ length xs
unfolding turned
length-turned t [] = refl
length-turned t (a ∷ []) = refl
length-turned t (a ∷ b ∷ []) = refl
length-turned t (a ∷ b ∷ c ∷ xs) = ap (λ (n : ℕ). suc (suc (suc n))) (length-turned t xs)

-- ---- the rules of position are odd

neg_sum : (qs : List ℤ) → sum (map neg_ℤ qs) ≡ neg_ℤ (sum qs)
neg_sum [] = refl
neg_sum (q ∷ qs) = ap (λ z. neg_ℤ q +ℤ z) (neg_sum qs) ∙ is_eq (is-add (is-neg (is-self q)) (is-neg (is-self (sum qs)))) (is-neg (is-add (is-self q) (is-self (sum qs)))) (omega arith)

neg-mean : (o e : ℕ) (p s : ℤ) → pos o *ℤ neg_ℤ p +ℤ pos e *ℤ neg_ℤ s ≡ neg_ℤ (pos o *ℤ p +ℤ pos e *ℤ s)
neg-mean o e p s =
    is_eq (is-add (is_mul (is_pos o) (is-neg (is-self p))) (is_mul (is_pos e) (is-neg (is-self s))))
    (is-neg (is-add (is_mul (is_pos o) (is-self p)) (is_mul (is_pos e) (is-self s)))) (omega arith)

neg-blend : (r : Rule) (p : ℤ) (qs : List ℤ) → whole.blend r (neg_ℤ p) (map neg_ℤ qs) ≡ neg_ℤ (whole.blend r p qs)
neg-blend r p qs =
    let o = own r (length qs) in
    ap (λ (n : ℕ). nearest (pos (own r n) *ℤ neg_ℤ p +ℤ pos (each r) *ℤ sum (map neg_ℤ qs)) (out_of r)) (length-map qs neg_ℤ)
    ∙ ap (λ (z : ℤ). nearest (pos o *ℤ neg_ℤ p +ℤ pos (each r) *ℤ z) (out_of r)) (neg_sum qs)
    ∙ ap (λ (z : ℤ). nearest z (out_of r)) (neg-mean o (each r) p (sum qs))
    ∙ nearest-odd (pos o *ℤ p +ℤ pos (each r) *ℤ sum qs) (out_of r)

neg-halves : (a b : ℤ) → whole.halves (neg_ℤ a) (neg_ℤ b) ≡ neg_ℤ (whole.halves a b)
neg-halves a b =
    ap (λ (z : ℤ). nearest z 2) (is_eq (is-add (is-neg (is-self a)) (is-neg (is-self b))) (is-neg (is-add (is-self a) (is-self b))) (omega arith))
    ∙ nearest-odd (a +ℤ b) 2

neg-eighths : (a b c d : ℤ) → whole.eighths (neg_ℤ a) (neg_ℤ b) (neg_ℤ c) (neg_ℤ d) ≡ neg_ℤ (whole.eighths a b c d)
neg-eighths a b c d =
    ap (λ (z : ℤ). nearest z 8)
    (is_eq (is-add (is-add (is-add (is_mul (is_pos 3) (is-neg (is-self a))) (is_mul (is_pos 3) (is-neg (is-self b)))) (is-neg (is-self c))) (is-neg (is-self d)))
    (is-neg (is-add (is-add (is-add (is_mul (is_pos 3) (is-self a)) (is_mul (is_pos 3) (is-self b))) (is-self c)) (is-self d))) (omega arith))
    ∙ nearest-odd (pos 3 *ℤ a +ℤ pos 3 *ℤ b +ℤ c +ℤ d) 8

map-id : (l : List ℤ) → map (λ x. x) l ≡ l
map-id [] = refl
map-id (x ∷ l) = ap {B = List ℤ} (λ m. x ∷ m) (map-id l)

sign-blend : (b : Bool) (r : Rule) (p : ℤ) (qs : List ℤ) → whole.blend r (sign b p) (map (sign b) qs) ≡ sign b (whole.blend r p qs)
sign-blend true r p qs = neg-blend r p qs
sign-blend false r p qs = ap (λ (l : List ℤ). whole.blend r p l) (map-id qs)

sign-halves : (s : Bool) (a b : ℤ) → whole.halves (sign s a) (sign s b) ≡ sign s (whole.halves a b)
sign-halves true a b = neg-halves a b
sign-halves false a b = refl

sign-eighths : (s : Bool) (a b c d : ℤ) → whole.eighths (sign s a) (sign s b) (sign s c) (sign s d) ≡ sign s (whole.eighths a b c d)
sign-eighths true a b c d = neg-eighths a b c d
sign-eighths false a b c d = refl

-- ---- three coordinates to a vertex, at every level

length-sharp-new : (m : Mesh) (ls : List (Option ℕ)) (ms : List Bool) (xs : List ℤ) → length (sharp_new whole m ls ms xs) ≡ 3 * (m.verts + length (firsts ls))
unfolding sharp_new sharp_moved
length-sharp-new m ls ms xs =
    let f : ℕ → List ℤ = λ s. three whole (sharp_edge whole m.faces xs s (sharp ms s) (get_or ls s none)) in
    let old = length-gather (sharp_moved whole refining m ls ms xs) 3 (λ v. refl) (count 0 m.verts) in
    length-append (gather (sharp_moved whole refining m ls ms xs) (count 0 m.verts)) (gather f (firsts ls))
    ∙ omega (arith, old, length-count 0 m.verts, length-gather f 3 (λ s. refl) (firsts ls))

length-sharp-levels : (l : ℕ) (a : SharpLevel whole) → length a.points ≡ 3 * a.mesh.verts → length (sharp_levels whole l a).points ≡ 3 * (sharp_levels whole l a).mesh.verts
unfolding sharp_levels sharp_finer refined
length-sharp-levels zero a e = e
length-sharp-levels (suc l) a e = length-sharp-levels l (sharp_finer whole a) (length-sharp-new a.mesh (links a.mesh.faces) a.marks a.points)

-- ---- coordinates

module _ (t : Turn) where
  -- coordinate d of vertex v of a turned list of k vertices
  pub coord-turned : (k : ℕ) (xs : List ℤ) → length xs ≡ 3 * k → (v : ℕ) (d : Axis) → coord whole (turned t xs) (number d) v ≡ sign (t.negates d) (coord whole xs (number (t.source d)) v)
  unfolding turned
  coord-turned k [] e v d = sym (nought (t.negates d))
    where
      nought : (b : Bool) → sign b (pos 0) ≡ pos 0
      nought true = refl
      nought false = refl
  coord-turned k (a ∷ []) e v d = absurd (omega arith)
  coord-turned k (a ∷ b ∷ []) e v d = absurd (omega arith)
  coord-turned zero (a ∷ b ∷ c ∷ xs) e v d = absurd (omega arith)
  coord-turned (suc k) (a ∷ b ∷ c ∷ xs) e zero d = first-is d ∙ ap (sign (t.negates d)) (sym (there (t.source d)))
    where
      by : Axis → ℤ
      by f = sign (t.negates f) (along (t.source f) a b c)

      there : (f : Axis) → get_or (a ∷ b ∷ c ∷ xs) (3 * 0 + number f) (pos 0) ≡ along f a b c
      there x_axis = refl
      there y_axis = refl
      there z_axis = refl

      first-is : (f : Axis) → get_or (by x_axis ∷ by y_axis ∷ by z_axis ∷ turned t xs) (3 * 0 + number f) (pos 0) ≡ by f
      first-is x_axis = refl
      first-is y_axis = refl
      first-is z_axis = refl
  coord-turned (suc k) (a ∷ b ∷ c ∷ xs) e (suc v) d =
      let p : 3 * suc v + number d ≡ suc (suc (suc (3 * v + number d))) = omega arith in
      let q : 3 * suc v + number (t.source d) ≡ suc (suc (suc (3 * v + number (t.source d)))) = omega arith in
      rw (p, q) (coord-turned k xs (omega arith) v d)

  gather_turned : (f g : ℕ → ℕ → ℤ) → ((x : ℕ) (d : Axis) → g x (number d) ≡ sign (t.negates d) (f x (number (t.source d)))) → (l : List ℕ) (more : List ℤ)
      → gather (λ x. three whole (g x)) l ++ turned t more ≡ turned t (gather (λ x. three whole (f x)) l ++ more)
  unfolding turned
  gather_turned f g h [] more = refl
  gather_turned f g h (x ∷ l) more = cons3 (at x_axis) (at y_axis) (at z_axis) (gather_turned f g h l more)
    where
      at : (d : Axis) → g x (number d) ≡ sign (t.negates d) (along (t.source d) (f x 0) (f x 1) (f x 2))
      at d = h x d ∙ ap (sign (t.negates d)) (sym (along-of (λ e. f x (number e)) (t.source d)))

  all-turned : (f g : ℕ → ℕ → ℤ) → ((x : ℕ) (d : Axis) → g x (number d) ≡ sign (t.negates d) (f x (number (t.source d)))) → (l : List ℕ)
      → gather (λ x. three whole (g x)) l ≡ turned t (gather (λ x. three whole (f x)) l)
  unfolding turned
  all-turned f g h l = sym (append-nil (gather (λ x. three whole (g x)) l)) ∙ gather_turned f g h l [] ∙ ap (turned t) (append-nil (gather (λ x. three whole (f x)) l))

  module _ (k : ℕ) (xs : List ℤ) (long : length xs ≡ 3 * k) where
    map_turned : (d : Axis) (vs : List ℕ) → map (coord whole (turned t xs) (number d)) vs ≡ map (sign (t.negates d)) (map (coord whole xs (number (t.source d))) vs)
    map_turned d [] = refl
    map_turned d (v ∷ vs) = ap₂ {C = List ℤ} (λ y ys. y ∷ ys) (coord-turned k xs long v d) (map_turned d vs)

    blend-turned : (r : Rule) (v : ℕ) (vs : List ℕ) (d : Axis)
        → whole.blend r (coord whole (turned t xs) (number d) v) (map (coord whole (turned t xs) (number d)) vs) ≡
        sign (t.negates d) (whole.blend r (coord whole xs (number (t.source d)) v) (map (coord whole xs (number (t.source d))) vs))
    blend-turned r v vs d =
        ap₂ {C = ℤ} (whole.blend r) (coord-turned k xs long v d) (map_turned d vs)
        ∙ sign-blend (t.negates d) r (coord whole xs (number (t.source d)) v) (map (coord whole xs (number (t.source d))) vs)

    -- the ring rule, the rim weights, or the vertex stays: the choice reads no coordinate
    by-creases-turned : (p : Stage) (v : ℕ) (vs es : List ℕ) (d : Axis) → by_creases whole p (turned t xs) v vs es (number d) ≡ sign (t.negates d) (by_creases whole p xs v vs es (number (t.source d)))
    by-creases-turned p v vs [] d = blend-turned (ring_rule p (length vs)) v vs d
    by-creases-turned p v vs (a ∷ []) d = blend-turned (ring_rule p (length vs)) v vs d
    by-creases-turned p v vs (a ∷ b ∷ []) d = blend-turned (rim_rule p) v (a ∷ b ∷ []) d
    by-creases-turned p v vs (a ∷ b ∷ c ∷ es) d = coord-turned k xs long v d

    creased-turned : (p : Stage) (fs : List ℕ) (ms : List Bool) (v : ℕ) (f : Fan) (d : Axis) → creased whole p fs ms (turned t xs) v f (number d) ≡ sign (t.negates d) (creased whole p fs ms xs v f (number (t.source d)))
    creased-turned p fs ms v (inner cs) d = by-creases-turned p v (ring fs (inner cs)) (creases fs ms (inner cs)) d
    creased-turned p fs ms v (rim cs) d = by-creases-turned p v (ring fs (rim cs)) (creases fs ms (rim cs)) d
    creased-turned p fs ms v endless d = coord-turned k xs long v d

    edge-turned : (fs : List ℕ) (s : ℕ) (o : Option ℕ) (d : Axis) → edge_at whole fs (turned t xs) s o (number d) ≡ sign (t.negates d) (edge_at whole fs xs s o (number (t.source d)))
    edge-turned fs s none d =
        let a = corner fs s in
        let b = corner fs (onward s) in
        ap₂ {C = ℤ} whole.halves (coord-turned k xs long (min a b) d) (coord-turned k xs long (max a b) d) ∙ sign-halves (t.negates d) _ _
    edge-turned fs s (some r) d =
        let a = corner fs s in
        let b = corner fs (onward s) in
        rw (coord-turned k xs long (min a b) d, coord-turned k xs long (max a b) d, coord-turned k xs long (corner fs (backward s)) d, coord-turned k xs long (corner fs (backward r)) d)
        (sign-eighths (t.negates d) _ _ _ _)

    new-turned : (m : Mesh) (ls : List (Option ℕ)) (ms : List Bool) → sharp_new whole m ls ms (turned t xs) ≡ turned t (sharp_new whole m ls ms xs)
    unfolding sharp_new sharp_moved
    new-turned m ls ms =
        let fs = m.faces in
        let fan-of : ℕ → Fan = λ v. fan ls (get_or m.starts v 0) in
        let across : ℕ → Option ℕ = λ s. pick (sharp ms s) none (get_or ls s none) in
        ap {B = List ℤ} (λ l. gather (sharp_moved whole refining m ls ms (turned t xs)) (count 0 m.verts) ++ l)
        (all-turned (λ s. edge_at whole fs xs s (across s)) (λ s. edge_at whole fs (turned t xs) s (across s)) (λ s. edge-turned fs s (across s)) (firsts ls))
        ∙ gather_turned (λ v. creased whole refining fs ms xs v (fan-of v)) (λ v. creased whole refining fs ms (turned t xs) v (fan-of v)) (λ v. creased-turned refining fs ms v (fan-of v)) (count 0 m.verts) _

    limits-turned : (m : Mesh) (ls : List (Option ℕ)) (ms : List Bool) → sharp_limits whole m ls ms (turned t xs) ≡ turned t (sharp_limits whole m ls ms xs)
    unfolding sharp_limits sharp_moved
    limits-turned m ls ms =
        let fs = m.faces in
        let fan-of : ℕ → Fan = λ v. fan ls (get_or m.starts v 0) in
        all-turned (λ v. creased whole limit fs ms xs v (fan-of v)) (λ v. creased whole limit fs ms (turned t xs) v (fan-of v)) (λ v. creased-turned limit fs ms v (fan-of v)) (count 0 m.verts)

  -- ---- all levels, and the limit

  -- mesh and marks are as they were
  abbrev turned_level : SharpLevel whole → SharpLevel whole
  turned_level a = record { mesh = a.mesh; marks = a.marks; points = turned t a.points }

  levels-turned : (l k : ℕ) (a : SharpLevel whole) → length a.points ≡ 3 * k → sharp_levels whole l (turned_level a) ≡ turned_level (sharp_levels whole l a)
  unfolding sharp_levels sharp_finer
  levels-turned zero k a e = refl
  levels-turned (suc l) k a e =
      let m = a.mesh in
      let ls = links m.faces in
      ap {B = SharpLevel whole} (λ (ys : List ℤ). sharp_levels whole l (record { mesh = refined m ls; marks = finer_marks (length m.faces / 3) a.marks; points = ys })) (new-turned k a.points e m ls a.marks)
      ∙ levels-turned l (m.verts + length (firsts ls)) (sharp_finer whole a) (length-sharp-new m ls a.marks a.points)

-- ---- the whole call's numbers

in-range : (b : Bool) (x : ℤ) → in_range (sign b x) ≡ in_range x
in-range true x = ap (λ (n : ℕ). leb n reach) (size x)
  where
    size : (z : ℤ) → nat_abs (neg_ℤ z) ≡ nat_abs z
    size (pos zero) = refl
    size (pos (suc n)) = refl
    size (negsuc n) = refl
in-range false x = refl

abbrev out : ℤ → Bool
out x = not (in_range x)

find_past : (x : ℤ) (xs : List ℤ) → find out (x ∷ xs) ≡ none → (out x ≡ false) × (find out xs ≡ none)
find_past x xs e = go (out x) refl (find out xs) e
  where
    go : (b : Bool) → out x ≡ b → (o : Option ℕ) → pick b (some zero) (later o) ≡ none → (out x ≡ false) × (o ≡ none)
    go true p o q = absurd (let z : ◌≡◌ {A = ℕ} 0 1 = cc in omega arith)
    go false p none q = (p, refl)
    go false p (some i) q = absurd (let z : ◌≡◌ {A = ℕ} 0 1 = cc in omega arith)

find-on : (x : ℤ) (xs : List ℤ) → out x ≡ false → find out xs ≡ none → find out (x ∷ xs) ≡ none
find-on x xs e h = rw (e, h)

range-turned : (t : Turn) (xs : List ℤ) → find out xs ≡ none → find out (turned t xs) ≡ none
unfolding turned
range-turned t [] e = refl
range-turned t (a ∷ []) e = e
range-turned t (a ∷ b ∷ []) e = e
range-turned t (a ∷ b ∷ c ∷ xs) e =
    let p = find_past a (b ∷ c ∷ xs) e in
    let q = find_past b (c ∷ xs) p.1 in
    let r = find_past c xs q.1 in
    find-on (by x_axis) (by y_axis ∷ by z_axis ∷ turned t xs) (at p.0 q.0 r.0 x_axis)
    (find-on (by y_axis) (by z_axis ∷ turned t xs) (at p.0 q.0 r.0 y_axis)
    (find-on (by z_axis) (turned t xs) (at p.0 q.0 r.0 z_axis) (range-turned t xs r.1)))
  where
    by : Axis → ℤ
    by d = sign (t.negates d) (along (t.source d) a b c)

    at : out a ≡ false → out b ≡ false → out c ≡ false → (d : Axis) → out (by d) ≡ false
    at p q r d = ap not (in-range (t.negates d) (along (t.source d) a b c)) ∙ go (t.source d)
      where
        go : (f : Axis) → out (along f a b c) ≡ false
        go x_axis = p
        go y_axis = q
        go z_axis = r

-- what turning the cage does to the call, with any list of sharp sides
pub record Turning (t : Turn) (rooms : Counts → List Room) (l : ℕ) (list fs : List ℕ) (xs : List ℤ) : Type 0 where
  pub accepted : refusal whole l fs (turned t xs) ≡ none
  pub answer : sharp_outcome whole rooms l list fs (turned t xs) ≡ sharp_outcome whole rooms l list fs xs
  pub faces : (last whole l fs (turned t xs)).mesh.faces ≡ (last whole l fs xs).mesh.faces
  pub positions : sharp_positions whole (sharp_last whole l list fs (turned t xs)) ≡ turned t (sharp_positions whole (sharp_last whole l list fs xs))

module _ (t : Turn) (l : ℕ) (list fs : List ℕ) (xs : List ℤ) (passes : refusal whole l fs xs ≡ none) where
  long : length (turned t xs) ≡ length xs
  long = length-turned t xs

  abbrev stages : Stages whole l fs xs
  stages = stages-of whole l fs xs passes

  in-range-turned : range_refusal whole (turned t xs) ≡ none
  unfolding range_refusal
  in-range-turned = rw (range-turned t xs (check-none 4 (find out xs) stages.range))

  accepted-turned : refusal whole l fs (turned t xs) ≡ none
  unfolding refusal
  accepted-turned = rw (long, stages.shape, in-range-turned, stages.faces, stages.fans, stages.size)

  -- 18 reads the faces alone
  refusal-turned : sharp_refusal whole l list fs (turned t xs) ≡ sharp_refusal whole l list fs xs
  unfolding sharp_refusal
  refusal-turned = rw (long, in-range-turned, stages.range)

  threes : length xs ≡ 3 * (length xs / 3)
  threes = let s = (shape_of l (length fs) (length xs) stages.shape).coords in omega arith

  last-turned : sharp_last whole l list fs (turned t xs) ≡ turned_level t (sharp_last whole l list fs xs)
  last-turned = rw long (levels-turned t l (length xs / 3) (sharp_first whole list fs xs) threes)

  positions-turned : sharp_positions whole (sharp_last whole l list fs (turned t xs)) ≡ turned t (sharp_positions whole (sharp_last whole l list fs xs))
  unfolding sharp_positions cage
  positions-turned =
      let a = sharp_last whole l list fs xs in
      ap {B = List ℤ} (λ (b : SharpLevel whole). sharp_positions whole b) last-turned
      ∙ limits-turned t a.mesh.verts a.points (length-sharp-levels l (sharp_first whole list fs xs) threes) a.mesh (links a.mesh.faces) a.marks

  pub turning : (rooms : Counts → List Room) → Turning t rooms l list fs xs
  unfolding sharp_outcome
  turning rooms =
      record {
        accepted = accepted-turned;
        answer = rw (refusal-turned, ap {B = Mesh} (λ (a : SharpLevel whole). a.mesh) last-turned);
        faces = ap (λ (m : Mesh). m.faces) (same-mesh whole whole l fs (turned t xs) xs long);
        positions = positions-turned;
      }
