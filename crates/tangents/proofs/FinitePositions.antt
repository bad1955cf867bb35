-- No limit position of an accepted cage is a NaN or an infinity: sizes begin at 2 ^ 40 at most, and a level or the limit at most doubles them.
use mathlib.Core.Path.{◌≡◌, refl, sym, ap, ◌∙◌}
use Prim.Native.Nat.{ℕ, zero, suc, ◌+◌, ◌-◌, ◌*◌, ◌/◌, ◌%◌, ◌^◌, ◌≤◌, ◌<◌, zero-le, suc-le-suc, min, max}
use native.Mathlib.Nat.{le_trans, le_of_eq, le_of_lt, mul-le-mul_left, mul-le-mul_right, div-mul-le_self, div-le_self}
use native.Mathlib.Omega.{arith}
use native.Mathlib.Decide.{dec_lt}
use mathlib.Core.Bool.{Bool, true, false, ◌&&◌, ◌||◌}
use mathlib.Core.List.{List, [], ◌∷◌, map}
use mathlib.Core.Option.{Option, none, some}
use lib.Dec.{T, leb, ltb, eqb, leb→le, ltb→lt, eqb→eq, lit≤}
use lib.IntN.{pos}
use lib.Pow.{pow-add, pow_mono}
use lib.ListN.{length, get_or, replicate, length-map, get_or-replicate, get_or-eq_default}
use lib.Ieee.{Float, nan, inf, fin, binary32, up, down, neg, add, sub, mul, div, of_int, le, lt, eq}
use lib.Ieee.Fits.{and_l, and_r}
use lib.Ieee.Scale.{finite}
use Rattle.lists.specs.Lists.{count}
use Rattle.lists.proofs.Places.{get_d_map, get_or-count}
use Rattle.turns.specs.Turns.{most_valence}
use Rattle.rules.specs.Mesh.{onward, backward, corner, links, Fan, inner, rim, fan, valence, ring, Mesh, cage, firsts}
use Rattle.rules.specs.Position.{Stage, refining, limit, Rule, ring_rule, rim_rule, f32, weight, own_weight, onto, farthest, single}
use Rattle.rules.specs.Levels.{ends, coord, blended, edge_at, new_positions, limits, Level, first, finer, levels, last, positions}
use Rattle.rules.specs.Refusals.{refusal}
use Rattle.rules.proofs.Refine.{Good}
use Rattle.rules.proofs.Turns.{Turned, round, fringe, turned}
use Rattle.rules.proofs.Sound.{Sound, sound-refined}
use Rattle.rules.proofs.Levels.{faces_at, mesh-levels, sound-level, Small, small-refined, small-level}
use Rattle.rules.proofs.Spokes.{limit-at, length-limits, old-at, new-at, length-new}
use Rattle.rules.proofs.Cage.{accepted}
use Rattle.tangents.proofs.Sizes.{Size, add-size, mul-size}
use Rattle.tangents.proofs.Valence.{inner-three}

-- ---- sizes in steps of 2 ^ 18

abbrev pub Near : ℕ → Float → Type 0
Near j x = Size (262144 * 2 ^ j) 1 x

pub weaken : (a b c : ℕ) (x : Float) → a ≤ b → Size a c x → Size b c x
weaken a b c nan h p = p
weaken a b c (inf s) h p = p
weaken a b c (fin s m e) h p = le_trans p (mul-le-mul_right (down e) h)

-- twice as much
step : (a j : ℕ) (x : Float) → a ≤ 524288 → Size (a * 2 ^ j) 1 x → Near (j + 1) x
step a j x h p =
    let e : 2 ^ (j + 1) ≡ 2 ^ j * 2 = pow-add 2 j 1 in
    weaken (a * 2 ^ j) (262144 * 2 ^ (j + 1)) 1 x (omega (arith, e, mul-le-mul_right (2 ^ j) h)) p

pub zero-size : (a : ℕ) → Size a 1 (f32 0)
unfolding of_int
zero-size a = zero-le

-- a test that computes
abbrev pub sized : ℕ → ℕ → Float → Bool
sized a c nan = false
sized a c (inf s) = false
sized a c (fin s m e) = leb (m * up e * c) (a * down e)

pub tested : (a c : ℕ) (x : Float) → T (sized a c x) → Size a c x
tested a c nan t = t
tested a c (inf s) t = t
tested a c (fin s m e) t = leb→le (m * up e * c) (a * down e) t

-- ---- sums with weights that are at most c / 2 ^ 18

times : (b : Float) (c j : ℕ) (q : Float) → Size c 262144 b → c < 2 ^ 24 → j ≤ 100 → Near j q → Size (c * 2 ^ j) 1 (mul binary32 q b)
times b c j q p h k n = mul-size binary32 (262144 * 2 ^ j) 1 c 262144 c j q b n p (omega arith) (omega arith) (omega arith) h k

onto-size : (b : Float) (c j : ℕ) → Size c 262144 b → c < 2 ^ 24 → j ≤ 100 → (qs : List Float) → ((i : ℕ) → i < length qs → Near j (get_or qs i (f32 0))) →
    (a : ℕ) (x : Float) → Size (a * 2 ^ j) 1 x → a + length qs * c < 2 ^ 24 → Size ((a + length qs * c) * 2 ^ j) 1 (onto b x qs)
onto-size b c j p h k [] near a x s l = let e : a + 0 * c ≡ a = omega arith in rw e s
onto-size b c j p h k (q ∷ qs) near a x s l =
    let e : a + suc (length qs) * c ≡ a + c + length qs * c = omega arith in
    let y = add-size binary32 a c j x (mul binary32 q b) s (times b c j q p h k (near 0 (omega arith))) (omega arith) k in
    rw e (onto-size b c j p h k qs (λ i n. near (suc i) (suc-le-suc n)) (a + c) (add binary32 x (mul binary32 q b)) y (omega arith))

-- ---- the weights of the rules, each computed: that on n others is at most 7 / 10 n, and the own at most 1

abbrev weighs : Rule → ℕ → Bool
weighs r n = sized (183500 / n) 262144 (weight r) && sized 262144 262144 (own_weight (weight r) n)

rings-weigh : (s : Stage) → map (λ n. weighs (ring_rule s n) n) (count 3 (most_valence - 2)) ≡ replicate (most_valence - 2) true
unfolding of_int add sub mul div neg
rings-weigh refining = refl
rings-weigh limit = refl

rims-weigh : (s : Stage) → weighs (rim_rule s) 2 ≡ true
unfolding of_int add sub mul div neg
rims-weigh refining = refl
rims-weigh limit = refl

ring-weighs : (s : Stage) (n : ℕ) → 3 ≤ n → n ≤ most_valence → weighs (ring_rule s n) n ≡ true
ring-weighs s n a b =
    let e : 3 + (n - 3) ≡ n = omega arith in
    let f : ℕ → Bool = λ n. weighs (ring_rule s n) n in
    let h : n - 3 < most_valence - 2 = omega arith in
    sym (get_d_map f (count 3 (most_valence - 2)) (n - 3) 0 false h ∙ ap f (get_or-count 3 (most_valence - 2) (n - 3) 0 h ∙ e))
    ∙ ap (λ (l : List Bool). get_or l (n - 3) false) (rings-weigh s) ∙ get_or-replicate (most_valence - 2) (n - 3) true false h

blend-size : (r : Rule) (j : ℕ) (p : Float) (qs : List Float) → weighs r (length qs) ≡ true → 0 < length qs → j ≤ 99 → Near j p → ((i : ℕ) → i < length qs → Near j (get_or qs i (f32 0))) →
    Near (j + 1) (single.blend r p qs)
blend-size r j p qs w m k near all =
    let n = length qs in
    let t : T (weighs r n) = rw w tt in
    let c = tested (183500 / n) 262144 (weight r) (and_l (sized (183500 / n) 262144 (weight r)) _ t) in
    let o = tested 262144 262144 (own_weight (weight r) n) (and_r (sized (183500 / n) 262144 (weight r)) _ t) in
    let d = div-mul-le_self 183500 n in
    let s : 183500 / n ≤ 183500 = div-le_self 183500 n in
    step (262144 + n * (183500 / n)) j (single.blend r p qs) (omega arith)
    (onto-size (weight r) (183500 / n) j c (omega arith) (omega arith) qs all 262144 (mul binary32 p (own_weight (weight r) n)) (times (own_weight (weight r) n) 262144 j p o (omega arith) (omega arith) near) (omega arith))

half : Size 131072 262144 (div binary32 (f32 1) (f32 2))
unfolding of_int div
half = lit≤ tt

three-eighths : Size 98304 262144 (div binary32 (f32 3) (f32 8))
unfolding of_int div
three-eighths = lit≤ tt

eighth : Size 32768 262144 (div binary32 (f32 1) (f32 8))
unfolding of_int div
eighth = lit≤ tt

-- ---- lists of coordinates

pub record AllNear (j : ℕ) (xs : List Float) : Type 0 where
  pub at : (i : ℕ) → Near j (get_or xs i (f32 0))

one-near : (j : ℕ) (q : Float) → Near j q → (i : ℕ) → i < 1 → Near j (get_or (q ∷ []) i (f32 0))
one-near j q p zero h = p
one-near j q p (suc i) h = absurd (omega arith)

two-near : (j : ℕ) (q r : Float) → Near j q → Near j r → (i : ℕ) → i < 2 → Near j (get_or (q ∷ r ∷ []) i (f32 0))
two-near j q r p o zero h = p
two-near j q r p o (suc zero) h = o
two-near j q r p o (suc (suc i)) h = absurd (omega arith)

halves-size : (j : ℕ) (a b : Float) → j ≤ 99 → Near j a → Near j b → Near (j + 1) (single.halves a b)
halves-size j a b k p q =
    let w = div binary32 (f32 1) (f32 2) in
    step 262144 j (single.halves a b) (omega arith)
    (onto-size w 131072 j half (lit≤ tt) (omega arith) (b ∷ []) (one-near j b q) 131072 (mul binary32 a w) (times w 131072 j a half (lit≤ tt) (omega arith) p) (lit≤ tt))

eighths-size : (j : ℕ) (a b c d : Float) → j ≤ 99 → Near j a → Near j b → Near j c → Near j d → Near (j + 1) (single.eighths a b c d)
eighths-size j a b c d k p q r s =
    let w = div binary32 (f32 3) (f32 8) in
    let v = div binary32 (f32 1) (f32 8) in
    let e = onto-size w 98304 j three-eighths (lit≤ tt) (omega arith) (b ∷ []) (one-near j b q) 98304 (mul binary32 a w) (times w 98304 j a three-eighths (lit≤ tt) (omega arith) p) (lit≤ tt) in
    step 262144 j (single.eighths a b c d) (omega arith)
    (onto-size v 32768 j eighth (lit≤ tt) (omega arith) (c ∷ d ∷ []) (two-near j c d r s) 196608 (onto w (mul binary32 a w) (b ∷ [])) e (lit≤ tt))

module _ (j : ℕ) (k : j ≤ 99) (xs : List Float) (near : AllNear j xs) where
  picked : (c : ℕ) (vs : List ℕ) (i : ℕ) → i < length (map (coord single xs c) vs) → Near j (get_or (map (coord single xs c) vs) i (f32 0))
  picked c vs i h =
      let l : i < length vs = rw (length-map vs (coord single xs c)) at h in
      rw (get_d_map (coord single xs c) vs i 0 (f32 0) l) (near.at (3 * get_or vs i 0 + c))

  blended-size : (p : Stage) (v n : ℕ) (fs : List ℕ) (g : Good v n fs) (u s : ℕ) (f : Fan) → Turned n fs s f → valence f ≤ most_valence → (c : ℕ) → Near (j + 1) (blended single p fs xs u f c)
  blended-size p v n fs g u s _ (round cs r) few c =
      let vs = ring fs (inner cs) in
      let e : length (map (coord single xs c) vs) ≡ length cs = length-map vs (coord single xs c) ∙ length-map cs (λ s. corner fs (onward s)) in
      let t = inner-three v n fs g s cs r in
      blend-size (ring_rule p (length cs)) j (coord single xs c u) (map (coord single xs c) vs) (rw e (ring-weighs p (length cs) t few)) (rw e (omega arith)) k (near.at (3 * u + c)) (picked c vs)
  blended-size p v n fs g u s _ (fringe cs r) few c =
      blend-size (rim_rule p) j (coord single xs c u) (map (coord single xs c) (ends (ring fs (rim cs)))) (rims-weigh p) (lit≤ tt) k (near.at (3 * u + c)) (picked c (ends (ring fs (rim cs))))

  edge-size : (fs : List ℕ) (s : ℕ) (o : Option ℕ) (c : ℕ) → Near (j + 1) (edge_at single fs xs s o c)
  edge-size fs s none c =
      let a = corner fs s in
      let b = corner fs (onward s) in
      halves-size j (coord single xs c (min a b)) (coord single xs c (max a b)) k (near.at (3 * min a b + c)) (near.at (3 * max a b + c))
  edge-size fs s (some t) c =
      let a = corner fs s in
      let b = corner fs (onward s) in
      let d = corner fs (backward s) in
      let e = corner fs (backward t) in
      eighths-size j (coord single xs c (min a b)) (coord single xs c (max a b)) (coord single xs c d) (coord single xs c e) k
      (near.at (3 * min a b + c)) (near.at (3 * max a b + c)) (near.at (3 * d + c)) (near.at (3 * e + c))

  -- by vertex and coordinate
  by_place : (m : ℕ) (l : ℕ) (ys : List Float) → length ys ≡ 3 * m → ((u c : ℕ) → u < m → c < 3 → Near l (coord single ys c u)) → AllNear l ys
  by_place m l ys e h = record { at = λ i. go i (dec_lt i (3 * m)) }
    where
      go : (i : ℕ) → Dec (i < 3 * m) → Near l (get_or ys i (f32 0))
      go i (yes a) =
          let q : 3 * (i / 3) + i % 3 ≡ i = omega arith in
          rw q at (h (i / 3) (i % 3) (omega arith) (omega arith))
      go i (no a) = rw (get_or-eq_default ys (f32 0) {n = i} (omega arith)) (zero-size (262144 * 2 ^ l))

  module _ (n : ℕ) (m : Mesh) (p : Sound n m) (few : Small most_valence m) where
    vertex-size : (s : Stage) (u c : ℕ) → u < m.verts → Near (j + 1) (blended single s m.faces xs u (fan (links m.faces) (get_or m.starts u 0)) c)
    unfolding Small
    vertex-size s u c h =
        let a = get_or m.starts u 0 in
        blended-size s m.verts n m.faces p.good u a (fan (links m.faces) a) (turned m.verts n m.faces p.good a (p.below u h)) (few u h) c

    new-size : AllNear (j + 1) (new_positions single m (links m.faces) xs)
    new-size =
        let ls = links m.faces in
        by_place (m.verts + length (firsts ls)) (j + 1) (new_positions single m ls xs) (length-new single m ls xs) (λ u c h q. go u c h q (dec_lt u m.verts))
      where
        go : (u c : ℕ) → u < m.verts + length (firsts (links m.faces)) → c < 3 → Dec (u < m.verts) → Near (j + 1) (coord single (new_positions single m (links m.faces) xs) c u)
        go u c h q (yes a) = rw (old-at single m (links m.faces) xs u c a q) (vertex-size refining u c a)
        go u c h q (no a) =
            let i = u - m.verts in
            let e : m.verts + i ≡ u = omega arith in
            let s = get_or (firsts (links m.faces)) i 0 in
            let w : Near (j + 1) (coord single (new_positions single m (links m.faces) xs) c (m.verts + i)) =
            rw (new-at single m (links m.faces) xs i c (omega arith) q) (edge-size m.faces s (get_or (links m.faces) s none) c) in
            rw e at w

    limits-size : AllNear (j + 1) (limits single m (links m.faces) xs)
    limits-size = by_place m.verts (j + 1) (limits single m (links m.faces) xs) (length-limits single m (links m.faces) xs) (λ u c h q. rw (limit-at single m (links m.faces) xs u c h q) (vertex-size limit u c h))

levels-size : (l j n : ℕ) (a : Level single) → j + l ≤ 99 → Sound n a.mesh → Small most_valence a.mesh → AllNear j a.points → AllNear (j + l) (levels single l a).points
unfolding levels finer
levels-size zero j n a k p few h = let e : j + 0 ≡ j = omega arith in rw e h
levels-size (suc l) j n a k p few h =
    let ls = links a.mesh.faces in
    let e : j + suc l ≡ j + 1 + l = omega arith in
    rw e (levels-size l (j + 1) (4 * n) (finer single a) (omega arith) (sound-refined n a.mesh p) (small-refined most_valence n a.mesh (lit≤ tt) p few) (new-size j (omega arith) a.points h n a.mesh p few))

-- ---- an accepted cage's

either : (p q : Bool) {X : Type 0} → T (p || q) → (T p → X) → (T q → X) → X
either true q t f g = f t
either false q t f g = g t

at_most : (a b : ℕ) (d : Bool) → T (ltb a b || (eqb a b && d)) → a ≤ b
at_most a b d t = either (ltb a b) (eqb a b && d) t (λ h. le_of_lt (ltb→lt a b h)) (λ h. le_of_eq (eqb→eq a b (and_l (eqb a b) d h)))

at_least : (a b : ℕ) (d : Bool) → T (ltb b a || (eqb a b && d)) → b ≤ a
at_least a b d t = either (ltb b a) (eqb a b && d) t (λ h. le_of_lt (ltb→lt b a h)) (λ h. le_of_eq (sym (eqb→eq a b (and_l (eqb a b) d h))))

allowed-near : (x : Float) → T (single.allowed x) → Near 22 x
unfolding of_int le lt eq neg
allowed-near nan t = t
allowed-near (inf true) t = t
allowed-near (inf false) t = t
allowed-near (fin true m e) t = at_least (1 * up (pos 40) * down e) (m * up e * 1) _ (and_r (le (fin true m e) farthest) (le (neg farthest) (fin true m e)) t)
allowed-near (fin false m e) t = at_most (m * up e * 1) (1 * up (pos 40) * down e) _ (and_l (le (fin false m e) farthest) (le (neg farthest) (fin false m e)) t)

pub finite-of : (a c : ℕ) (x : Float) → Size a c x → T (finite x)
finite-of a c nan p = p
finite-of a c (inf s) p = p
finite-of a c (fin s m e) p = tt

widen : (j k : ℕ) (x : Float) → j ≤ k → Near j x → Near k x
widen j k x h p = weaken (262144 * 2 ^ j) (262144 * 2 ^ k) 1 x (mul-le-mul_left 262144 (pow_mono h)) p

module _ (l : ℕ) (fs : List ℕ) (xs : List Float) (ok : refusal single l fs xs ≡ none) where
  cage-near : AllNear 22 xs
  cage-near = record { at = λ i. go i (dec_lt i (length xs)) }
    where
      go : (i : ℕ) → Dec (i < length xs) → Near 22 (get_or xs i (f32 0))
      go i (yes h) = allowed-near (get_or xs i (f32 0)) ((accepted single l fs xs ok).allowed i h)
      go i (no h) = rw (get_or-eq_default xs (f32 0) {n = i} (omega arith)) (zero-size (262144 * 2 ^ 22))

  small-cage : Small most_valence (cage (length xs / 3) fs)
  unfolding Small cage
  small-cage = (accepted single l fs xs ok).fans.valences

  -- the last level
  pub last-sound : Sound (faces_at l (length fs / 3)) (last single l fs xs).mesh
  last-sound = rw (mesh-levels single l (first single fs xs)) (sound-level l (length fs / 3) (cage (length xs / 3) fs) (accepted single l fs xs ok).sound)

  pub last-small : Small most_valence (last single l fs xs).mesh
  last-small = rw (mesh-levels single l (first single fs xs)) (small-level most_valence l (length fs / 3) (cage (length xs / 3) fs) (lit≤ tt) (accepted single l fs xs ok).sound small-cage)

  pub positions-near : AllNear 30 (positions single (last single l fs xs))
  unfolding positions
  positions-near =
      let a = last single l fs xs in
      let k = (accepted single l fs xs ok).shape.levels in
      let p = levels-size l 22 (length fs / 3) (first single fs xs) (omega arith) (accepted single l fs xs ok).sound small-cage cage-near in
      let q = limits-size (22 + l) (omega arith) a.points p (faces_at l (length fs / 3)) a.mesh last-sound last-small in
      record { at = λ i. widen (22 + l + 1) 30 (get_or (limits single a.mesh (links a.mesh.faces) a.points) i (f32 0)) (omega arith) (q.at i) }

  -- every position is a number
  pub finite-positions : (i : ℕ) → T (finite (get_or (positions single (last single l fs xs)) i (f32 0)))
  finite-positions i = finite-of (262144 * 2 ^ 30) 1 (get_or (positions single (last single l fs xs)) i (f32 0)) (positions-near.at i)
