-- No normal of an accepted cage is a NaN or an infinity: from positions within 2 ^ 48, tangents are within 90 times that, and normals within 2 ^ 111.
use mathlib.Core.Path.{◌≡◌, refl, sym, ap, ◌∙◌}
use Prim.Native.Nat.{ℕ, zero, suc, ◌+◌, ◌-◌, ◌*◌, ◌/◌, ◌%◌, ◌^◌, ◌≤◌, ◌<◌, zero-le, suc-le-suc}
use native.Mathlib.Nat.{mul-le-mul_right}
use native.Mathlib.Omega.{arith}
use native.Mathlib.Decide.{dec_lt}
use mathlib.Core.Bool.{Bool, true, false}
use mathlib.Core.List.{List, [], ◌∷◌, map}
use mathlib.Core.Option.{none}
use lib.IntN.{ℤ, pos}
use lib.Dec.{T, leb, leb→le, nleb→lt, lit≤}
use lib.ListN.{length, get_or, replicate, length-map, length-replicate, get_or-replicate, get_or-eq_default}
use lib.Ieee.{Float, nan, inf, fin, binary32, binary64, up, down, neg, sub, mul, div, of_int, of_bits}
use lib.Ieee.Scale.{finite}
use lib.Ieee.Fits.{down_pos}
use Rattle.lists.specs.Lists.{count, gather, part, last_of}
use Rattle.lists.proofs.Places.{get_d_map, get_or-count, length-count, length-gather, get_or-gather}
use Rattle.lists.proofs.Stores.{get_d_part, length_part}
use Rattle.vectors.specs.declared.Vec3.{Vec3}
use Rattle.vectors.specs.Narrow.{narrowed}
use Rattle.vectors.specs.Vectors.{plus, minus, negated, scaled, origin, minor, cross}
use Rattle.rules.specs.Mesh.{links, Fan, inner, rim, fan, valence, ring}
use Rattle.rules.specs.Position.{f32, single}
use Rattle.rules.specs.Levels.{Level, last, positions}
use Rattle.rules.specs.Refusals.{refusal}
use Rattle.rules.specs.Tangents.{point, weighted, inner_tangents, rim_weight, rim_tangent, rim_tangents, tangents_at, normal, three_of, normal_at, normals}
use Rattle.rules.proofs.Refine.{Good}
use Rattle.rules.proofs.Turns.{Turned, round, fringe, turned}
use Rattle.rules.proofs.Levels.{faces_at, Small}
use Rattle.faces.proofs.Held.{length-ring}
use Rattle.turns.specs.Turns.{most_valence, entry, half_cosine, half_sine, folded, cosine, turned as signed, sine}
use Rattle.turns.specs.Table.{place, cos_table, sin_table}
use Rattle.turns.proofs.Rule.{cos-rule, sin-rule, placed}
use Rattle.tangents.proofs.Sizes.{Size, round-size, neg-size, add-size, sub-size, mul-size}
use Rattle.tangents.proofs.Sums.{last-is, rim-many}
use Rattle.tangents.proofs.FinitePositions.{AllNear, weaken, sized, tested, finite-of, last-sound, last-small, positions-near}
use Rattle.tangents.proofs.Valence.{inner-three}
use Rattle.tangents.proofs.Rings.{three-long}

-- ---- sine and cosine are at most 1, each entry computed

abbrev entries : ℕ
entries = place 0 (most_valence + 1)

cos-small : map (λ z. sized 1 1 (entry z)) cos_table ≡ replicate entries true
unfolding cos_table of_int div
cos-small = refl

sin-small : map (λ z. sized 1 1 (entry z)) sin_table ≡ replicate entries true
unfolding sin_table of_int div
sin-small = refl

small_at : (l : List ℤ) → map (λ z. sized 1 1 (entry z)) l ≡ replicate entries true → (i : ℕ) → i < entries → Size 1 1 (entry (get_or l i (pos 0)))
small_at l e i h =
    let n : length l ≡ entries = sym (length-map l (λ z. sized 1 1 (entry z))) ∙ ap length e ∙ length-replicate entries true in
    let q : sized 1 1 (entry (get_or l i (pos 0))) ≡ true =
    sym (get_d_map (λ z. sized 1 1 (entry z)) l i (pos 0) false (omega arith)) ∙ ap (λ (t : List Bool). get_or t i false) e ∙ get_or-replicate entries i true false h in
    tested 1 1 (entry (get_or l i (pos 0))) (rw q tt)

module _ (k m : ℕ) (a : 3 ≤ m) (b : m ≤ most_valence) (h : k ≤ m) where
  half-cosine-size : Size 1 1 (half_cosine k m)
  unfolding half_cosine
  half-cosine-size = rw (← cos-rule k m a b h) (small_at cos_table cos-small (place k m) (placed k m a b h).2)

  half-sine-size : Size 1 1 (half_sine k m)
  unfolding half_sine
  half-sine-size = rw (← sin-rule k m a b h) (small_at sin_table sin-small (place k m) (placed k m a b h).2)

module _ (i n : ℕ) (a : 3 ≤ n) (b : n ≤ most_valence) (h : i < n) where
  folded-within : (w : Bool) → leb (2 * i) n ≡ w → folded w i n ≤ n
  folded-within true e = leb→le (2 * i) n (rw e tt)
  folded-within false e = let q = nleb→lt (2 * i) n (rw e tt) in omega arith

  cosine-size : Size 1 1 (cosine i n)
  unfolding cosine
  cosine-size = half-cosine-size (folded (leb (2 * i) n) i n) n a b (folded-within (leb (2 * i) n) refl)

  signed-size : (w : Bool) (y : Float) → Size 1 1 y → Size 1 1 (signed w y)
  signed-size true y p = p
  signed-size false y p = neg-size 1 1 y p

  sine-size : Size 1 1 (sine i n)
  unfolding sine
  sine-size =
      let w = leb (2 * i) n in
      signed-size w (half_sine (folded w i n) n) (half-sine-size (folded w i n) n a b (folded-within w refl))

two : Size 2 1 (f32 2)
unfolding of_int
two = lit≤ tt

-- (2 cos theta - 2) sin(k theta) is at most 4
rim-weight-size : (m k : ℕ) → 3 ≤ m → m ≤ most_valence → k ≤ m → Size 4 1 (rim_weight m k)
rim-weight-size m k a b h =
    let c = mul-size binary32 2 1 1 1 2 0 (f32 2) (half_cosine 1 m) two (half-cosine-size 1 m a b (omega arith)) (lit≤ tt) (lit≤ tt) (lit≤ tt) (lit≤ tt) (lit≤ tt) in
    let d = sub-size binary32 2 2 0 (mul binary32 (f32 2) (half_cosine 1 m)) (f32 2) c two (lit≤ tt) (lit≤ tt) in
    mul-size binary32 4 1 1 1 4 0 (sub binary32 (mul binary32 (f32 2) (half_cosine 1 m)) (f32 2)) (half_sine k m) d (half-sine-size k m a b h) (lit≤ tt) (lit≤ tt) (lit≤ tt) (lit≤ tt) (lit≤ tt)

-- ---- points

abbrev Sized : ℕ → ℕ → Vec3 → Type 0
Sized a j p = Size (a * 2 ^ j) 1 p.x × (Size (a * 2 ^ j) 1 p.y × Size (a * 2 ^ j) 1 p.z)

-- of points of size at most 2 ^ 17: two with the weight 1 and the others on a rim with at most 4. It stays below 2 ^ 24
abbrev most : ℕ
most = (2 + 4 * (most_valence - 2)) * 131072

module _ (j : ℕ) (k : j ≤ 100) where
  plus-size : (a b : ℕ) (p q : Vec3) → a + b < 2 ^ 24 → Sized a j p → Sized b j q → Sized (a + b) j (plus p q)
  plus-size a b p q h s t =
      (add-size binary32 a b j p.x q.x s.0 t.0 h k, (add-size binary32 a b j p.y q.y s.1.0 t.1.0 h k, add-size binary32 a b j p.z q.z s.1.1 t.1.1 h k))

  minus-size : (a b : ℕ) (p q : Vec3) → a + b < 2 ^ 24 → Sized a j p → Sized b j q → Sized (a + b) j (minus p q)
  minus-size a b p q h s t =
      (sub-size binary32 a b j p.x q.x s.0 t.0 h k, (sub-size binary32 a b j p.y q.y s.1.0 t.1.0 h k, sub-size binary32 a b j p.z q.z s.1.1 t.1.1 h k))

  negated_size : (a : ℕ) (p : Vec3) → Sized a j p → Sized a j (negated p)
  negated_size a p s = (neg-size (a * 2 ^ j) 1 p.x s.0, (neg-size (a * 2 ^ j) 1 p.y s.1.0, neg-size (a * 2 ^ j) 1 p.z s.1.1))

  -- by a weight that is at most w
  scaled-size : (a w : ℕ) (p : Vec3) (y : Float) → a * w < 2 ^ 24 → Sized a j p → Size w 1 y → Sized (a * w) j (scaled p y)
  scaled-size a w p y h s t = (one p.x s.0, (one p.y s.1.0, one p.z s.1.1))
    where
      one : (x : Float) → Size (a * 2 ^ j) 1 x → Size (a * w * 2 ^ j) 1 (mul binary32 x y)
      one x q = mul-size binary32 (a * 2 ^ j) 1 w 1 (a * w) j x y q t (lit≤ tt) (lit≤ tt) (omega arith) h k

  weighted-size : (f : ℕ → Float) (a w : ℕ) → (rs : List Vec3) → ((i : ℕ) → i < length rs → Sized a j (get_or rs i origin)) → (i : ℕ) → ((n : ℕ) → n < length rs → Size w 1 (f (i + n))) →
      (b : ℕ) (t : Vec3) → Sized b j t → b + length rs * (a * w) < 2 ^ 24 → Sized (b + length rs * (a * w)) j (weighted f i t rs)
  weighted-size f a w [] near i small b t s l = let e : b + 0 * (a * w) ≡ b = omega arith in rw e s
  weighted-size f a w (r ∷ rs) near i small b t s l =
      let e : b + suc (length rs) * (a * w) ≡ b + a * w + length rs * (a * w) = omega arith in
      let z : i + 0 ≡ i = omega arith in
      let u = plus-size b (a * w) t (scaled r (f i)) (omega arith) s (scaled-size a w r (f i) (omega arith) (near 0 (omega arith)) (rw z at (small 0 (omega arith)))) in
      rw e
      (weighted-size f a w rs (λ n h. near (suc n) (suc-le-suc h)) (i + 1) (λ n h. let q : i + suc n ≡ i + 1 + n = omega arith in rw q at (small (suc n) (suc-le-suc h)))
      (b + a * w) (plus t (scaled r (f i))) u (omega arith))

  lesser : (a b : ℕ) (p : Vec3) → a ≤ b → Sized a j p → Sized b j p
  lesser a b p h s =
      let e : a * 2 ^ j ≤ b * 2 ^ j = mul-le-mul_right (2 ^ j) h in
      (weaken (a * 2 ^ j) (b * 2 ^ j) 1 p.x e s.0, (weaken (a * 2 ^ j) (b * 2 ^ j) 1 p.y e s.1.0, weaken (a * 2 ^ j) (b * 2 ^ j) 1 p.z e s.1.1))

  origin-size : (a : ℕ) → Sized a j origin
  unfolding of_bits
  origin-size a = (zero-le, (zero-le, zero-le))

  -- ---- the tangents from points of size at most 2 ^ (17 + j): at most 90 times as large

  module _ (rs : List Vec3) (few : length rs ≤ most_valence) (near : (i : ℕ) → i < length rs → Sized 131072 j (get_or rs i origin)) where
    inner-size : 3 ≤ length rs → Sized most j (inner_tangents rs).s × Sized most j (inner_tangents rs).t
    inner-size h =
        let n = length rs in
        let c : ℕ → Float = λ i. cosine i n in
        let d : ℕ → Float = λ i. sine i n in
        let z : (i : ℕ) → 0 + i ≡ i = λ i. omega arith in
        let o = origin-size 0 in
        let s = weighted-size c 131072 1 rs near 0 (λ i l. rw (z i) (cosine-size i n h few l)) 0 origin o (omega arith) in
        let t = weighted-size d 131072 1 rs near 0 (λ i l. rw (z i) (sine-size i n h few l)) 0 origin o (omega arith) in
        (lesser (0 + n * (131072 * 1)) most (weighted c 0 origin rs) (omega arith) s, lesser (0 + n * (131072 * 1)) most (weighted d 0 origin rs) (omega arith) t)

    many-size : (p : Vec3) (m : ℕ) → length rs ≡ suc m → 4 ≤ m → Sized most j (rim_tangent p rs)
    many-size p m e h =
        let a = get_or rs 0 origin in
        let b = get_or rs m origin in
        let y = scaled (plus a b) (half_sine 1 m) in
        let n = length_part rs 1 (m - 1) (omega arith) in
        let s = scaled-size 262144 1 (plus a b) (half_sine 1 m) (lit≤ tt) (plus-size 131072 131072 a b (lit≤ tt) (near 0 (omega arith)) (near m (omega arith))) (half-sine-size 1 m (omega arith) (omega arith) (omega arith)) in
        let at : (i : ℕ) → i < length (part 1 (m - 1) rs) → Sized 131072 j (get_or (part 1 (m - 1) rs) i origin) = λ i l. rw (get_d_part rs 1 (m - 1) i origin (omega arith)) (near (1 + i) (omega arith)) in
        let w : (i : ℕ) → i < length (part 1 (m - 1) rs) → Size 4 1 (rim_weight m (1 + i)) = λ i l. rim-weight-size m (1 + i) (omega arith) (omega arith) (omega arith) in
        let t = weighted-size (rim_weight m) 131072 4 (part 1 (m - 1) rs) at 1 w 262144 y s (omega arith) in
        rw (rim-many p origin rs m e h)
        (negated_size most (weighted (rim_weight m) 1 y (part 1 (m - 1) rs))
        (lesser (262144 + length (part 1 (m - 1) rs) * (131072 * 4)) most (weighted (rim_weight m) 1 y (part 1 (m - 1) rs)) (omega arith) t))

  one_size : Size 1 1 (neg (f32 1))
  unfolding of_int neg
  one_size = lit≤ tt

  minus-two : Size 2 1 (neg (f32 2))
  unfolding of_int neg
  minus-two = lit≤ tt

  rim-size : (p : Vec3) (rs : List Vec3) → length rs ≤ most_valence → Sized 131072 j p → ((i : ℕ) → i < length rs → Sized 131072 j (get_or rs i origin)) → Sized most j (rim_tangent p rs)
  rim-size p [] few s near = origin-size most
  rim-size p (a ∷ []) few s near = origin-size most
  rim-size p (a ∷ b ∷ []) few s near =
      lesser 524288 most (minus (plus a b) (scaled p (f32 2))) (lit≤ tt)
      (minus-size 262144 262144 (plus a b) (scaled p (f32 2)) (lit≤ tt) (plus-size 131072 131072 a b (lit≤ tt) (near 0 (lit≤ tt)) (near 1 (lit≤ tt))) (scaled-size 131072 2 p (f32 2) (lit≤ tt) s two))
  rim-size p (a ∷ b ∷ c ∷ []) few s near = lesser 262144 most (minus b p) (lit≤ tt) (minus-size 131072 131072 b p (lit≤ tt) (near 1 (lit≤ tt)) s)
  rim-size p (a ∷ b ∷ c ∷ d ∷ []) few s near =
      let f = scaled a (neg (f32 1)) in
      let g = plus f (scaled b (f32 2)) in
      let h = plus g (scaled c (f32 2)) in
      let i = plus h (scaled d (neg (f32 1))) in
      let F = scaled-size 131072 1 a (neg (f32 1)) (lit≤ tt) (near 0 (lit≤ tt)) one_size in
      let G = plus-size 131072 262144 f (scaled b (f32 2)) (lit≤ tt) F (scaled-size 131072 2 b (f32 2) (lit≤ tt) (near 1 (lit≤ tt)) two) in
      let H = plus-size 393216 262144 g (scaled c (f32 2)) (lit≤ tt) G (scaled-size 131072 2 c (f32 2) (lit≤ tt) (near 2 (lit≤ tt)) two) in
      let I = plus-size 655360 131072 h (scaled d (neg (f32 1))) (lit≤ tt) H (scaled-size 131072 1 d (neg (f32 1)) (lit≤ tt) (near 3 (lit≤ tt)) one_size) in
      lesser 1048576 most (plus i (scaled p (neg (f32 2)))) (lit≤ tt) (plus-size 786432 262144 i (scaled p (neg (f32 2))) (lit≤ tt) I (scaled-size 131072 2 p (neg (f32 2)) (lit≤ tt) s minus-two))
  rim-size p (a ∷ b ∷ c ∷ d ∷ e ∷ rs) few s near = many-size (a ∷ b ∷ c ∷ d ∷ e ∷ rs) few near p (suc (suc (suc (suc (length rs))))) refl (omega arith)

  -- S on the rim
  ends-size : (rs : List Vec3) → ((i : ℕ) → i < length rs → Sized 131072 j (get_or rs i origin)) → Sized most j (minus (last_of origin rs) (get_or rs 0 origin))
  ends-size [] near = lesser 0 most (minus origin origin) (lit≤ tt) (minus-size 0 0 origin origin (lit≤ tt) (origin-size 0) (origin-size 0))
  ends-size (a ∷ rs) near =
      lesser 262144 most (minus (last_of a rs) a) (lit≤ tt) (minus-size 131072 131072 (last_of a rs) a (lit≤ tt) (rw (last-is a origin rs) (near (length rs) (omega arith))) (near 0 (omega arith)))

-- ---- S cross T

narrowed-size : (x : Float) → Size (8388608 * 2 ^ 88) 1 x → Size (8388608 * 2 ^ 88) 1 (narrowed x)
unfolding narrowed
narrowed-size nan p = p
narrowed-size (inf s) p = p
narrowed-size (fin s m e) p = round-size binary32 s (m * up e) (down e) 8388608 88 (down_pos e) (omega arith) (lit≤ tt) (lit≤ tt)

minor-size : (a b c d : Float) → Size (most * 2 ^ 31) 1 a → Size (most * 2 ^ 31) 1 b → Size (most * 2 ^ 31) 1 c → Size (most * 2 ^ 31) 1 d → Size (8388608 * 2 ^ 88) 1 (minor a b c d)
minor-size a b c d p q r s =
    narrowed-size (sub binary64 (mul binary64 a b) (mul binary64 c d))
    (sub-size binary64 4194304 4194304 88 (mul binary64 a b) (mul binary64 c d) (product a b p q) (product c d r s) (lit≤ tt) (lit≤ tt))
  where
    product : (x y : Float) → Size (most * 2 ^ 31) 1 x → Size (most * 2 ^ 31) 1 y → Size (4194304 * 2 ^ 88) 1 (mul binary64 x y)
    product x y t u = mul-size binary64 (most * 2 ^ 31) 1 (most * 2 ^ 31) 1 4194304 88 x y t u (lit≤ tt) (lit≤ tt) (lit≤ tt) (lit≤ tt) (lit≤ tt)

cross-size : (a b : Vec3) → Sized most 31 a → Sized most 31 b → Sized 8388608 88 (cross a b)
cross-size a b s t = (
  minor-size a.y b.z a.z b.y s.1.0 t.1.1 s.1.1 t.1.0,
  (
    minor-size a.z b.x a.x b.z s.1.1 t.0 s.0 t.1.1,
    minor-size a.x b.y a.y b.x s.0 t.1.0 s.1.0 t.0,
  ),
)

-- ---- the normals

module _ (xs : List Float) (near : AllNear 30 xs) where
  point-size : (v : ℕ) → Sized 131072 31 (point xs v)
  point-size v =
      let e : 262144 * 2 ^ 30 ≡ 131072 * 2 ^ 31 = refl in
      rw (← e) (near.at (3 * v + 0), (near.at (3 * v + 1), near.at (3 * v + 2)))

  points-size : (vs : List ℕ) (i : ℕ) → i < length (map (point xs) vs) → Sized 131072 31 (get_or (map (point xs) vs) i origin)
  points-size vs i h = rw (get_d_map (point xs) vs i 0 origin (rw (length-map vs (point xs)) at h)) (point-size (get_or vs i 0))

  fan-size : (v n : ℕ) (fs : List ℕ) (g : Good v n fs) (u s : ℕ) (f : Fan) → Turned n fs s f → valence f ≤ most_valence → Sized 8388608 88 (normal (tangents_at fs xs u f))
  fan-size v n fs g u s _ (round cs r) few =
      let vs = ring fs (inner cs) in
      let rs = map (point xs) vs in
      let e : length rs ≡ length cs = length-map vs (point xs) ∙ length-ring fs (inner cs) in
      let p = inner-size 31 (lit≤ tt) rs (rw e few) (points-size vs) (rw e (inner-three v n fs g s cs r)) in
      cross-size (inner_tangents rs).s (inner_tangents rs).t p.0 p.1
  fan-size v n fs g u s _ (fringe cs r) few =
      let vs = ring fs (rim cs) in
      let rs = map (point xs) vs in
      let e : length rs ≡ suc (length cs) = length-map vs (point xs) ∙ length-ring fs (rim cs) in
      cross-size (rim_tangents (point xs u) rs).s (rim_tangents (point xs u) rs).t (ends-size 31 (lit≤ tt) rs (points-size vs)) (rim-size 31 (lit≤ tt) (point xs u) rs (rw e few) (point-size u) (points-size vs))

three-finite : (a : Vec3) → Sized 8388608 88 a → (c : ℕ) → c < 3 → T (finite (get_or (three_of a) c (f32 0)))
three-finite a s zero h = finite-of (8388608 * 2 ^ 88) 1 a.x s.0
three-finite a s (suc zero) h = finite-of (8388608 * 2 ^ 88) 1 a.y s.1.0
three-finite a s (suc (suc zero)) h = finite-of (8388608 * 2 ^ 88) 1 a.z s.1.1
three-finite a s (suc (suc (suc c))) h = absurd (omega arith)

module _ (l : ℕ) (fs : List ℕ) (xs : List Float) (ok : refusal single l fs xs ≡ none) where
  abbrev end : Level single
  end = last single l fs xs

  vertex-finite : (u c : ℕ) → u < end.mesh.verts → c < 3 → T (finite (get_or (normal_at end.mesh (links end.mesh.faces) (positions single end) u) c (f32 0)))
  unfolding normal_at Small
  vertex-finite u c h k =
      let m = end.mesh in
      let s = get_or m.starts u 0 in
      let p = last-sound l fs xs ok in
      let f = fan (links m.faces) s in
      let t = turned m.verts (faces_at l (length fs / 3)) m.faces p.good s (p.below u h) in
      three-finite (normal (tangents_at m.faces (positions single end) u f))
      (fan-size (positions single end) (positions-near l fs xs ok) m.verts (faces_at l (length fs / 3)) m.faces p.good u s f t (last-small l fs xs ok u h)) c k

  -- every normal is three numbers
  pub finite-normals : (i : ℕ) → T (finite (get_or (normals end) i (f32 0)))
  unfolding normals of_int
  finite-normals i = go (dec_lt i (3 * end.mesh.verts))
    where
      g : ℕ → List Float
      g = normal_at end.mesh (links end.mesh.faces) (positions single end)

      each : (u : ℕ) → length (g u) ≡ 3
      each = three-long end.mesh (links end.mesh.faces) (positions single end)

      long : length (gather g (count 0 end.mesh.verts)) ≡ 3 * end.mesh.verts
      long = length-gather g 3 each (count 0 end.mesh.verts) ∙ ap (λ (z : ℕ). 3 * z) (length-count 0 end.mesh.verts)

      go : Dec (i < 3 * end.mesh.verts) → T (finite (get_or (gather g (count 0 end.mesh.verts)) i (f32 0)))
      go (yes h) =
          let u = i / 3 in
          let c = i % 3 in
          let a : u < end.mesh.verts = omega arith in
          let q : 3 * u + c ≡ i = omega arith in
          let e : get_or (gather g (count 0 end.mesh.verts)) (3 * u + c) (f32 0) ≡ get_or (g u) c (f32 0) =
          get_or-gather g 3 each (count 0 end.mesh.verts) u c 0 (f32 0) (rw (length-count 0 end.mesh.verts) a) (omega arith)
          ∙ ap (λ (z : ℕ). get_or (g z) c (f32 0)) (get_or-count 0 end.mesh.verts u 0 a ∙ omega arith) in
          rw (← q, e) (vertex-finite u c a (omega arith))
      go (no h) = rw (get_or-eq_default (gather g (count 0 end.mesh.verts)) (f32 0) {n = i} (omega (arith, long))) tt
