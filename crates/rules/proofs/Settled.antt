-- The exact limit position of a vertex does not change when a level is applied first, inner or rim, at every valence; so the whole answers for one control vertex at two numbers of levels
-- differ by rounding alone.
use mathlib.Core.Path.{◌≡◌, refl, sym, ap, ap₂, ◌∙◌}
use Prim.Native.Nat.{ℕ, zero, suc, ◌+◌, ◌-◌, ◌*◌, ◌/◌, ◌<◌, ◌≤◌, min, max, suc-le-suc, zero-le}
use native.Mathlib.Omega.{arith}
use native.Mathlib.Decide.{dec_lt}
use native.Mathlib.Nat.{mul_comm, mul-pos}
use mathlib.Core.Bool.{Bool, true, false}
use mathlib.Core.List.{List, [], ◌∷◌, ◌++◌, map}
use mathlib.Core.Option.{Option, none, some}
use lib.Dec.{eqb, eqb→eq}
use lib.ListN.{length, get_or, length-map}
use lib.IntN.{ℤ, pos, nat_abs, ◌-ℤ◌}
use Rattle.lists.specs.Lists.{last_of}
use Rattle.lists.proofs.Places.{map-map, last-at, last-map, either_way}
use Rattle.whole.specs.Whole.{nearest}
use Rattle.whole.specs.Fraction.{Fraction, of_whole, ◌≈F◌}
use Rattle.whole.proofs.Reading.{up, dn, is-self, is-minus, abs2-le}
use Rattle.whole.proofs.Nearness.{Close, near_of, close-eq, close-near}
use Rattle.whole.proofs.Value.{Val, val-self, val-scale, val-as, val-zero, val_plus, val-times, val-over, val-eq, ≈F-trans, ≈F-refl}
use Rattle.rules.specs.Mesh.{onward, backward, corner, links, through, restart, firsts, Fan, inner, rim, fan, ring, Mesh, cage, refined}
use Rattle.rules.specs.Position.{Stage, refining, limit, Rule, ring_rule, rim_rule, each, out_of, own, total, whole, exact}
use Rattle.rules.specs.Levels.{ends, coord, blended, moved, edge_at, new_positions, limits, Level, first, finer, levels, last, positions, exact_limits}
use Rattle.rules.specs.Refusals.{refusal}
use Rattle.rules.specs.Cases.{zs, T-faces, limits_of, vertex}
use Rattle.rules.proofs.Sides.{on-back}
use Rattle.rules.proofs.Refine.{Good, finer_of, mid_of, mid-below, back_below}
use Rattle.rules.proofs.Fans.{map_fan}
use Rattle.rules.proofs.Turns.{Round, Half, Turned, round, fringe, turned, last-in}
use Rattle.rules.proofs.Rings.{spokes, sum_of, yonder, after-link, far-before, far-after, old-fan, old-ring}
use Rattle.rules.proofs.Sound.{Sound, sound-refined, old-start}
use Rattle.rules.proofs.Cage.{accepted}
use Rattle.rules.proofs.Demand.{demand-3}
use Rattle.rules.proofs.Spokes.{edge-inner, edge-rim, limit-at, old-at, new-at}

-- ---- a list of fractions over one denominator

pub record Common (ys : List Fraction) : Type 0 where
  pub den : ℕ
  pub above : 0 < den
  pub ups : ℕ → ℕ
  pub dns : ℕ → ℕ
  pub val : (i : ℕ) → Val den (ups i) (dns i) (get_or ys i (of_whole (pos 0)))

unfoldable at-cons : ℕ → (ℕ → ℕ) → ℕ → ℕ
at-cons x f zero = x
at-cons x f (suc i) = f i

pub common : (ys : List Fraction) → Common ys
unfolding at-cons
common [] = record { den = 1; above = omega arith; ups = λ i. 0; dns = λ i. 0; val = λ i. val-zero 1 }
common (y ∷ ys) = cons (common ys)
  where
    cons : Common ys → Common (y ∷ ys)
    cons c = record {
      den = y.den * c.den;
      above = mul-pos y.above c.above;
      ups = at-cons (up y.num * c.den) (λ i. c.ups i * y.den);
      dns = at-cons (dn y.num * c.den) (λ i. c.dns i * y.den);
      val = at;
    }
      where
        at : (i : ℕ) → Val (y.den * c.den) (at-cons (up y.num * c.den) (λ i. c.ups i * y.den) i) (at-cons (dn y.num * c.den) (λ i. c.dns i * y.den) i) (get_or (y ∷ ys) i (of_whole (pos 0)))
        at zero = val-scale c.den (val-self y)
        at (suc i) = rw (mul_comm y.den c.den) (val-scale y.den (c.val i))

-- ---- the rules over one denominator

-- of each of a list
pub total-val : {D : ℕ} (A B : ℕ → ℕ) (f : ℕ → Fraction) (cs : List ℕ) → ((k : ℕ) → k < length cs → Val D (A (get_or cs k 0)) (B (get_or cs k 0)) (f (get_or cs k 0)))
    → Val D (sum_of A cs) (sum_of B cs) (total (map f cs))
total-val {D} A B f [] h = val-zero D
total-val A B f (x ∷ cs) h = val_plus (h 0 (suc-le-suc zero-le)) (total-val A B f cs (λ k l. h (suc k) (suc-le-suc l)))

pub blend-val : {D p m s t : ℕ} {y : Fraction} (qs : List Fraction) (n : ℕ) → length qs ≡ n → (r : Rule) → 0 < out_of r → Val D p m y → Val D s t (total qs)
    → Val (D * out_of r) (own r n * p + each r * s) (own r n * m + each r * t) (exact.blend r y qs)
blend-val {p} {m} {s} {t} qs n e r g h k =
    val-as refl (ap (λ (z : ℕ). own r z * p + each r * s) e) (ap (λ (z : ℕ). own r z * m + each r * t) e)
    (val-over (out_of r) g (val_plus (val-times (own r (length qs)) h) (val-times (each r) k)))

pub halves-val : {D p m q n : ℕ} {y t : Fraction} → Val D p m y → Val D q n t → Val (D * 2) (p + q) (m + n) (exact.halves y t)
halves-val h k = val-over 2 (omega arith) (val_plus h k)

pub eighths-val : {D p m q n s t u w : ℕ} {a b c d : Fraction} → Val D p m a → Val D q n b → Val D s t c → Val D u w d → Val (D * 8) (3 * p + 3 * q + s + u) (3 * m + 3 * n + t + w) (exact.eighths a b c d)
eighths-val h i j k = val-over 8 (omega arith) (val_plus (val_plus (val_plus (val-times 3 h) (val-times 3 i)) j) k)

-- ---- the weights round an inner vertex of valence n: 7 and 3 in 16, 5 n and 3 in 8 n; at the limit 2 and 1 in 5, n and 1 in 2 n

pub record Inner (n : ℕ) : Type 0 where
  pub kept : own (ring_rule refining n) n + 3 * n ≡ out_of (ring_rule refining n)
  pub eight : out_of (ring_rule refining n) ≡ 8 * own (ring_rule limit n) n
  pub some : 0 < own (ring_rule limit n) n
  pub whole : 0 < out_of (ring_rule limit n)

pub inner-weights : (n : ℕ) → 0 < n → Inner n
inner-weights n h = go (eqb n 3) refl
  where
    go : (b : Bool) → eqb n 3 ≡ b → Inner n
    go true e = let q : n ≡ 3 = eqb→eq n 3 (rw e tt) in rw q (record { kept = refl; eight = refl; some = omega arith; whole = omega arith })
    go false e = record { kept = rw e (omega arith); eight = rw e (omega arith); some = rw e (omega arith); whole = rw e (omega arith) }

-- a level and then the limit, in numerators: o, 3 in 8 p; an edge 3, 3, 1, 1 in 8; then p, 1
inner-sum : (o p n x S : ℕ) → o + 3 * n ≡ 8 * p → p * ((o * x + 3 * S) * 8) + 1 * ((n * (3 * x) + 3 * S + S + S) * (8 * p)) ≡ (p * x + 1 * S) * (8 * (8 * p))
inner-sum o p n x S h = omega (arith, ap (λ (y : ℕ). y * (p * x)) h)

-- ---- sums round a vertex

spoke-sum : (a : ℕ) (f g h k : ℕ → ℕ) (cs : List ℕ) → ((i : ℕ) → i < length cs → f (get_or cs i 0) ≡ a)
    → sum_of (λ x. 3 * f x + 3 * g x + h x + k x) cs ≡ length cs * (3 * a) + 3 * sum_of g cs + sum_of h cs + sum_of k cs
spoke-sum a f g h k [] e = omega arith
spoke-sum a f g h k (x ∷ cs) e = omega (arith, e 0 (suc-le-suc zero-le), spoke-sum a f g h k cs (λ i l. e (suc i) (suc-le-suc l)))

pub ≈F-as : {a b x y : Fraction} → a ≡ x → b ≡ y → x ≈F y → a ≈F b
≈F-as p q h = rw (p, q) h

module _ (n : ℕ) (m : Mesh) (w : Sound n m) (ys : List Fraction) (C : Common ys) (c : ℕ) (axis : c < 3) where
  abbrev old_verts : ℕ
  old_verts = m.verts

  abbrev old_faces : List ℕ
  old_faces = m.faces

  abbrev good : Good m.verts n m.faces
  good = w.good

  abbrev new : List Fraction
  new = new_positions exact m (links m.faces) ys

  abbrev up_at : ℕ → ℕ
  up_at u = C.ups (3 * u + c)

  abbrev dn_at : ℕ → ℕ
  dn_at u = C.dns (3 * u + c)

  at-val : (u : ℕ) → Val C.den (up_at u) (dn_at u) (coord exact ys c u)
  at-val u = C.val (3 * u + c)

  -- the new vertex of an inner spoke and of a rim spoke
  mid_at : (s : ℕ) → s < 3 * n → coord exact new c (mid_of old_verts old_faces s) ≡ edge_at exact old_faces ys (get_or (firsts (links old_faces)) (mid_of old_verts old_faces s - old_verts) 0) (get_or (links old_faces) (get_or (firsts (links old_faces)) (mid_of old_verts old_faces s - old_verts) 0) none) c
  mid_at s h =
      let i = mid_of old_verts old_faces s - old_verts in
      let e : old_verts + i ≡ mid_of old_verts old_faces s = omega arith in
      rw e at (new-at exact m (links old_faces) ys i c (omega (arith, mid-below old_verts n old_faces good s h)) axis)

  numerators : (f : ℕ → ℕ) (s t x y : ℕ) → f (corner old_faces x) + f (corner old_faces (onward x)) ≡ f (corner old_faces s) + f (corner old_faces (onward s)) → f (corner old_faces (backward x)) + f (corner old_faces (backward y)) ≡ f (corner old_faces (backward s)) + f (corner old_faces (backward t))
      → 3 * f (min (corner old_faces x) (corner old_faces (onward x))) + 3 * f (max (corner old_faces x) (corner old_faces (onward x))) + f (corner old_faces (backward x)) + f (corner old_faces (backward y))
      ≡ 3 * f (corner old_faces s) + 3 * f (corner old_faces (onward s)) + f (corner old_faces (backward s)) + f (corner old_faces (backward t))
  numerators f s t x y p q = omega (arith, p, q, either_way f (corner old_faces x) (corner old_faces (onward x)))

  inner-spoke : (s t : ℕ) → s < 3 * n → get_or (links old_faces) s none ≡ some t
      → Val (C.den * 8) (3 * up_at (corner old_faces s) + 3 * up_at (corner old_faces (onward s)) + up_at (corner old_faces (backward s)) + up_at (corner old_faces (backward t)))
      (3 * dn_at (corner old_faces s) + 3 * dn_at (corner old_faces (onward s)) + dn_at (corner old_faces (backward s)) + dn_at (corner old_faces (backward t))) (coord exact new c (mid_of old_verts old_faces s))
  inner-spoke s t h e =
      let x = get_or (firsts (links old_faces)) (mid_of old_verts old_faces s - old_verts) 0 in
      let k = edge-inner old_verts n old_faces good s t h e in
      rw (mid_at s h ∙ ap (λ (o : Option ℕ). edge_at exact old_faces ys x o c) k.link)
      (val-as refl (numerators up_at s t x k.other (k.ends up_at) (k.fars up_at)) (numerators dn_at s t x k.other (k.ends dn_at) (k.fars dn_at))
      (eighths-val (at-val (min (corner old_faces x) (corner old_faces (onward x)))) (at-val (max (corner old_faces x) (corner old_faces (onward x)))) (at-val (corner old_faces (backward x))) (at-val (corner old_faces (backward k.other)))))

  rim-spoke : (s : ℕ) → s < 3 * n → get_or (links old_faces) s none ≡ none
      → Val (C.den * 2) (up_at (corner old_faces s) + up_at (corner old_faces (onward s))) (dn_at (corner old_faces s) + dn_at (corner old_faces (onward s))) (coord exact new c (mid_of old_verts old_faces s))
  rim-spoke s h e =
      let x = get_or (firsts (links old_faces)) (mid_of old_verts old_faces s - old_verts) 0 in
      let q : x ≡ s = edge-rim old_verts n old_faces good s h e in
      rw (mid_at s h ∙ ap (λ (z : ℕ). edge_at exact old_faces ys z (get_or (links old_faces) z none) c) q ∙ ap (λ (o : Option ℕ). edge_at exact old_faces ys s o c) e)
      (val-as refl (either_way up_at (corner old_faces s) (corner old_faces (onward s))) (either_way dn_at (corner old_faces s) (corner old_faces (onward s)))
      (halves-val (at-val (min (corner old_faces s) (corner old_faces (onward s)))) (at-val (max (corner old_faces s) (corner old_faces (onward s))))))

  -- every side that leaves an inner vertex has a side across
  linked : (s : ℕ) (cs : List ℕ) → Round n old_faces s cs → (k : ℕ) → k < length cs → (t : ℕ) × (get_or (links old_faces) (get_or cs k 0) none ≡ some t)
  linked s cs r k h = go (dec_lt (suc k) (length cs))
    where
      go : Dec (suc k < length cs) → (t : ℕ) × (get_or (links old_faces) (get_or cs k 0) none ≡ some t)
      go (yes l) = (backward (get_or cs (suc k) 0), after-link old_verts n old_faces good (get_or cs k 0) (get_or cs (suc k) 0) (r.next k l))
      go (no l) =
          let e : length cs - 1 ≡ k = omega arith in
          let q : last_of 0 cs ≡ get_or cs k 0 = rw e at (last-at 0 cs r.filled) in
          (backward (get_or cs 0 0), rw q at (after-link old_verts n old_faces good (last_of 0 cs) (get_or cs 0 0) r.closes))

  module _ (s : ℕ) (cs : List ℕ) (below : s < 3 * n) (r : Round n old_faces s cs) where
    abbrev hub : ℕ
    hub = corner old_faces s

    abbrev ring_sum : (ℕ → ℕ) → ℕ
    ring_sum f = sum_of (λ x. f (corner old_faces (onward x))) cs

    abbrev spoke_of : (ℕ → ℕ) → ℕ → ℕ
    spoke_of f x = 3 * f (corner old_faces x) + 3 * f (corner old_faces (onward x)) + f (corner old_faces (backward x)) + f (yonder old_faces (get_or (links old_faces) x none))

    spoke-val : (k : ℕ) → k < length cs → Val (C.den * 8) (spoke_of up_at (get_or cs k 0)) (spoke_of dn_at (get_or cs k 0)) (coord exact new c (mid_of old_verts old_faces (get_or cs k 0)))
    spoke-val k h =
        let l = linked s cs r k h in
        rw (ap (yonder old_faces) l.1) (inner-spoke (get_or cs k 0) l.0 (r.corners.below k h) l.1)

    spokes-sum : (f : ℕ → ℕ) → sum_of (spoke_of f) cs ≡ length cs * (3 * f hub) + 3 * ring_sum f + ring_sum f + ring_sum f
    spokes-sum f =
        spoke-sum (f hub) (λ x. f (corner old_faces x)) (λ x. f (corner old_faces (onward x))) (λ x. f (corner old_faces (backward x))) (λ x. f (yonder old_faces (get_or (links old_faces) x none))) cs (λ i l. ap f (r.corners.at i l))
        ∙ rw (far-before old_verts n old_faces good s cs r f, ← (far-after old_verts n old_faces good s cs r f))

    -- the ring before, and after
    ring-val : Val C.den (ring_sum up_at) (ring_sum dn_at) (total (map (coord exact ys c) (ring old_faces (inner cs))))
    ring-val = rw (map-map (λ x. corner old_faces (onward x)) (coord exact ys c) cs) (total-val (λ x. up_at (corner old_faces (onward x))) (λ x. dn_at (corner old_faces (onward x))) (λ x. coord exact ys c (corner old_faces (onward x))) cs (λ k l. at-val (corner old_faces (onward (get_or cs k 0)))))

    new-ring-val : Val (C.den * 8) (length cs * (3 * up_at hub) + 3 * ring_sum up_at + ring_sum up_at + ring_sum up_at) (length cs * (3 * dn_at hub) + 3 * ring_sum dn_at + ring_sum dn_at + ring_sum dn_at) (total (map (coord exact new c) (map (mid_of old_verts old_faces) cs)))
    new-ring-val =
        rw (map-map (mid_of old_verts old_faces) (coord exact new c) cs)
        (val-as refl (spokes-sum up_at) (spokes-sum dn_at) (total-val (spoke_of up_at) (spoke_of dn_at) (λ x. coord exact new c (mid_of old_verts old_faces x)) cs spoke-val))

    ring_long : length (map (coord exact ys c) (ring old_faces (inner cs))) ≡ length cs
    ring_long = length-map (ring old_faces (inner cs)) (coord exact ys c) ∙ length-map cs (λ x. corner old_faces (onward x))

    new-long : length (map (coord exact new c) (map (mid_of old_verts old_faces) cs)) ≡ length cs
    new-long = length-map (map (mid_of old_verts old_faces) cs) (coord exact new c) ∙ length-map cs (mid_of old_verts old_faces)

    module _ (kept : coord exact new c hub ≡ blended exact refining old_faces ys hub (inner cs) c) where
      inner-stays : exact.blend (ring_rule limit (length cs)) (coord exact new c hub) (map (coord exact new c) (map (mid_of old_verts old_faces) cs)) ≈F blended exact limit old_faces ys hub (inner cs) c
      inner-stays =
          let N = length cs in
          let I = inner-weights N r.filled in
          let o = own (ring_rule refining N) N in
          let p = own (ring_rule limit N) N in
          let W = out_of (ring_rule limit N) in
          let K = 8 * (8 * p) in
          let q : o + 3 * N ≡ 8 * p = I.kept ∙ I.eight in
          let qs = map (coord exact ys c) (ring old_faces (inner cs)) in
          let old : Val (C.den * W) (p * up_at hub + 1 * ring_sum up_at) (p * dn_at hub + 1 * ring_sum dn_at) (blended exact limit old_faces ys hub (inner cs) c) =
          (blend-val qs N ring_long (ring_rule limit N) I.whole (at-val hub) ring-val) in
          let once : Val (C.den * out_of (ring_rule refining N)) (o * up_at hub + 3 * ring_sum up_at) (o * dn_at hub + 3 * ring_sum dn_at) (blended exact refining old_faces ys hub (inner cs) c) =
          (blend-val qs N ring_long (ring_rule refining N) (omega (arith, I.eight, I.some)) (at-val hub) ring-val) in
          let own_new : Val (C.den * K) ((o * up_at hub + 3 * ring_sum up_at) * 8) ((o * dn_at hub + 3 * ring_sum dn_at) * 8) (coord exact new c hub) =
          rw kept (val-as (omega (arith, ap (λ (z : ℕ). C.den * z * 8) I.eight)) refl refl (val-scale 8 once)) in
          let ring-new = val-as {E = C.den * K} (omega arith) refl refl (val-scale (8 * p) new-ring-val) in
          let both = (blend-val (map (coord exact new c) (map (mid_of old_verts old_faces) cs)) N new-long (ring_rule limit N) I.whole own_new ring-new) in
          val-eq {D = C.den * K * W} (mul-pos (mul-pos C.above (omega (arith, I.some))) I.whole)
          (val-as refl (inner-sum o p N (up_at hub) (ring_sum up_at) q) (inner-sum o p N (dn_at hub) (ring_sum dn_at) q) both)
          (val-as (omega arith) refl refl (val-scale K old))
          refl

  -- ---- on the rim

  module _ (s : ℕ) (cs : List ℕ) (below : s < 3 * n) (r : Half n old_faces s cs) where
    -- the rim sides at the two ends of the fan, and what they lead to
    abbrev head_of : ℕ
    head_of = get_or cs 0 0

    abbrev tail_of : ℕ
    tail_of = backward (last_of 0 cs)

    abbrev head_end : ℕ
    head_end = corner old_faces (onward head_of)

    abbrev tail_end : ℕ
    tail_end = corner old_faces tail_of

    old-ends : ends (ring old_faces (rim cs)) ≡ head_end ∷ tail_end ∷ []
    old-ends = ap {B = List ℕ} (λ z. head_end ∷ z ∷ []) (last-map (λ x. corner old_faces (backward x)) head_end 0 cs r.filled)

    new-ends : ends (map (mid_of old_verts old_faces) (spokes (rim cs))) ≡ mid_of old_verts old_faces head_of ∷ mid_of old_verts old_faces tail_of ∷ []
    new-ends =
        ap {B = List ℕ} (λ z. mid_of old_verts old_faces head_of ∷ z ∷ [])
        (ap (last_of (mid_of old_verts old_faces head_of)) (map-map backward (mid_of old_verts old_faces) cs) ∙ last-map (λ x. mid_of old_verts old_faces (backward x)) (mid_of old_verts old_faces head_of) 0 cs r.filled)

    no-head : get_or (links old_faces) head_of none ≡ none
    no-head = go (get_or (links old_faces) head_of none) r.first
      where
        go : (o : Option ℕ) → through onward o ≡ none → o ≡ none
        go none e = refl
        go (some x) e = absurd (let z : ◌≡◌ {A = ℕ} 0 1 = cc in omega arith)

    head-val : Val (C.den * 8) ((up_at (corner old_faces s) + up_at head_end) * 4) ((dn_at (corner old_faces s) + dn_at head_end) * 4) (coord exact new c (mid_of old_verts old_faces head_of))
    head-val =
        let e = r.corners.at 0 r.filled in
        val-as (omega arith) (ap (λ (z : ℕ). (up_at z + up_at head_end) * 4) e) (ap (λ (z : ℕ). (dn_at z + dn_at head_end) * 4) e) (val-scale 4 (rim-spoke head_of (r.corners.below 0 r.filled) no-head))

    tail-val : Val (C.den * 8) ((up_at tail_end + up_at (corner old_faces s)) * 4) ((dn_at tail_end + dn_at (corner old_faces s)) * 4) (coord exact new c (mid_of old_verts old_faces tail_of))
    tail-val =
        let l = last-in old_verts n old_faces good s cs r.filled r.corners in
        let e : corner old_faces (onward tail_of) ≡ corner old_faces s = ap (corner old_faces) (on-back (last_of 0 cs)) ∙ l.1 in
        val-as (omega arith) (ap (λ (z : ℕ). (up_at tail_end + up_at z) * 4) e) (ap (λ (z : ℕ). (dn_at tail_end + dn_at z) * 4) e) (val-scale 4 (rim-spoke tail_of (back_below (last_of 0 cs) n l.0) r.last))

    pair-val : {D p m q k : ℕ} {y t : Fraction} → Val D p m y → Val D q k t → Val D (p + (q + 0)) (m + (k + 0)) (total (y ∷ t ∷ []))
    pair-val {D} h k = val_plus h (val_plus k (val-zero D))

    at-ends : (p : Stage) → blended exact p old_faces ys (corner old_faces s) (rim cs) c ≡ exact.blend (rim_rule p) (coord exact ys c (corner old_faces s)) (coord exact ys c head_end ∷ coord exact ys c tail_end ∷ [])
    at-ends p = ap (λ (l : List ℕ). exact.blend (rim_rule p) (coord exact ys c (corner old_faces s)) (map (coord exact ys c) l)) old-ends

    module _ (kept : coord exact new c (corner old_faces s) ≡ blended exact refining old_faces ys (corner old_faces s) (rim cs) c) where
      rim-stays : exact.blend (rim_rule limit) (coord exact new c (corner old_faces s)) (map (coord exact new c) (ends (map (mid_of old_verts old_faces) (spokes (rim cs))))) ≈F blended exact limit old_faces ys (corner old_faces s) (rim cs) c
      rim-stays =
          let u = corner old_faces s in
          let two = pair-val (at-val head_end) (at-val tail_end) in
          let old = blend-val (coord exact ys c head_end ∷ coord exact ys c tail_end ∷ []) 2 refl (rim_rule limit) (omega arith) (at-val u) two in
          let once = blend-val (coord exact ys c head_end ∷ coord exact ys c tail_end ∷ []) 2 refl (rim_rule refining) (omega arith) (at-val u) two in
          let own_new : Val (C.den * 8) (6 * up_at u + 1 * (up_at head_end + (up_at tail_end + 0))) (6 * dn_at u + 1 * (dn_at head_end + (dn_at tail_end + 0))) (coord exact new c u) = rw (kept ∙ at-ends refining) once in
          let both = blend-val (coord exact new c (mid_of old_verts old_faces head_of) ∷ coord exact new c (mid_of old_verts old_faces tail_of) ∷ []) 2 refl (rim_rule limit) (omega arith) own_new (pair-val head-val tail-val) in
          ≈F-as (ap (λ (l : List ℕ). exact.blend (rim_rule limit) (coord exact new c u) (map (coord exact new c) l)) new-ends) (at-ends limit)
          (val-eq {D = C.den * 8 * 6} (mul-pos (mul-pos C.above (omega arith)) (omega arith)) both (val-as (omega arith) refl refl (val-scale 8 old)) (omega arith))

  -- ---- either way

  stays_by : (s : ℕ) (f : Fan) → s < 3 * n → Turned n old_faces s f → ring (finer_of old_verts n old_faces) (map_fan restart f) ≡ map (mid_of old_verts old_faces) (spokes f) → coord exact new c (corner old_faces s) ≡ blended exact refining old_faces ys (corner old_faces s) f c
      → blended exact limit (finer_of old_verts n old_faces) new (corner old_faces s) (map_fan restart f) c ≈F blended exact limit old_faces ys (corner old_faces s) f c
  stays_by s _ h (round cs r) e k =
      ≈F-as
      (ap₂ {C = Fraction} (λ (i : ℕ) (l : List ℕ). exact.blend (ring_rule limit i) (coord exact new c (corner old_faces s)) (map (coord exact new c) l)) (length-map cs restart) e)
      refl
      (inner-stays s cs h r k)
  stays_by s _ h (fringe cs r) e k =
      ≈F-as (ap (λ (l : List ℕ). exact.blend (rim_rule limit) (coord exact new c (corner old_faces s)) (map (coord exact new c) (ends l))) e) refl (rim-stays s cs h r k)

  stays_at : (u : ℕ) → u < old_verts → coord exact (limits exact (refined m (links old_faces)) (links (refined m (links old_faces)).faces) new) c u ≈F coord exact (limits exact m (links old_faces) ys) c u
  unfolding refined
  stays_at u h =
      let s = get_or m.starts u 0 in
      let b = w.below u h in
      let a : length old_faces / 3 ≡ n = omega (arith, good.size) in
      let st : corner old_faces s ≡ u = w.starts u h in
      let fine = refined m (links old_faces) in
      let p : coord exact (limits exact fine (links fine.faces) new) c u ≡ blended exact limit (finer_of old_verts n old_faces) new (corner old_faces s) (map_fan restart (fan (links old_faces) s)) c =
      limit-at exact fine (links fine.faces) new u c (omega arith) axis
      ∙ rw (a, old-start old_verts n old_faces good m.starts w.sized u h, old-fan old_verts n old_faces good s b, st) refl in
      let q : coord exact (limits exact m (links old_faces) ys) c u ≡ blended exact limit old_faces ys (corner old_faces s) (fan (links old_faces) s) c = limit-at exact m (links old_faces) ys u c h axis ∙ rw st refl in
      ≈F-as p q
      (stays_by s (fan (links old_faces) s) b (turned old_verts n old_faces good s b) (ap (ring (finer_of old_verts n old_faces)) (sym (old-fan old_verts n old_faces good s b)) ∙ old-ring old_verts n old_faces good s b)
      (rw st (old-at exact m (links old_faces) ys u c h axis)))

-- a level applied first, and any number of levels
pub limit-stays : (n : ℕ) (a : Level exact) → Sound n a.mesh → (v c : ℕ) → v < a.mesh.verts → c < 3 → coord exact (positions exact (finer exact a)) c v ≈F coord exact (positions exact a) c v
unfolding positions finer
limit-stays n a w v c h k = stays_at n a.mesh w a.points (common a.points) c k v h

more-verts : (m : Mesh) (v : ℕ) → v < m.verts → v < (refined m (links m.faces)).verts
unfolding refined
more-verts m v h = omega arith

pub limits-stay : (l n : ℕ) (a : Level exact) → Sound n a.mesh → (v c : ℕ) → v < a.mesh.verts → c < 3 → coord exact (positions exact (levels exact l a)) c v ≈F coord exact (positions exact a) c v
unfolding levels finer
limits-stay zero n a w v c h k = ≈F-refl _
limits-stay (suc l) n a w v c h k =
    ≈F-trans (limits-stay l (4 * n) (finer exact a) (sound-refined n a.mesh w) v c (more-verts a.mesh v h) k) (limit-stays n a w v c h k)

-- ---- the whole answers for one control vertex at l and at k levels

-- the exact limit position at l levels is that at none
pub exact-stays : (l : ℕ) (fs : List ℕ) (xs : List ℤ) → Sound (length fs / 3) (cage (length xs / 3) fs) → (v c : ℕ) → v < length xs / 3 → c < 3
    → coord exact (exact_limits l fs xs) c v ≈F coord exact (exact_limits 0 fs xs) c v
unfolding levels cage
exact-stays l fs xs w v c h k = limits-stay l (length fs / 3) (first exact fs (map of_whole xs)) (rw (length-map xs of_whole) w) v c (rw (length-map xs of_whole) h) k

pub gap : {e : ℕ} (x z : ℤ) → Close e x (of_whole z) → nat_abs (x -ℤ z) * 2 ≤ e
unfolding of_whole
gap x z c = abs2-le (is-minus (is-self x) (is-self z)) (omega (arith, c.near.hi)) (omega (arith, c.near.lo))

pub proof-and-plate : (l k : ℕ) (fs : List ℕ) (xs : List ℤ) → refusal whole l fs xs ≡ none → (v c : ℕ) → v < length xs / 3 → c < 3
    → nat_abs (coord whole (positions whole (last whole l fs xs)) c v -ℤ coord whole (positions whole (last whole k fs xs)) c v) * 2 ≤ l + k + 2
proof-and-plate l k fs xs e v c h j =
    let w = (accepted whole l fs xs e).sound in
    let a = close-eq (near_of (demand-3 l fs xs c v)) (exact-stays l fs xs w v c h j) in
    let b = close-eq (near_of (demand-3 k fs xs c v)) (exact-stays k fs xs w v c h j) in
    omega (arith, gap (coord whole (positions whole (last whole l fs xs)) c v) (coord whole (positions whole (last whole k fs xs)) c v) (close-near a b))

-- rounding alone does it: the triangle (0,0,0), (3,0,0), (0,3,0) has vertex 0 at 1/2 in x and y, which level 0 rounds to 1, and level 1 to 0
abbrev small : List ℤ
small = zs (0 ∷ 0 ∷ 0 ∷ 3 ∷ 0 ∷ 0 ∷ 0 ∷ 3 ∷ 0 ∷ [])

pub rounding-moves : vertex 0 (limits_of 0 T-faces small) ++ vertex 0 (limits_of 1 T-faces small) ≡ zs (1 ∷ 1 ∷ 0 ∷ 0 ∷ 0 ∷ 0 ∷ [])
unfolding nearest links fan refined cage moved new_positions limits finer levels positions
rounding-moves = refl
