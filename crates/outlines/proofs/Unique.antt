-- The request's relation holds of one list only: in a sound mesh, two lists of loops that are outlines of it are equal.
use mathlib.Core.Path.{◌≡◌, refl, sym, ap, ◌∙◌}
use Prim.Native.Nat.{ℕ, zero, suc, ◌+◌, ◌%◌, ◌<◌, ◌≤◌, zero-le, suc-le-suc}
use native.Mathlib.Nat.{not-suc-le-zero, mod-lt}
use native.Mathlib.Omega.{arith}
use native.Mathlib.Decide.{dec_lt}
use mathlib.Core.List.{List, [], ◌∷◌}
use lib.ListN.{length, get_or}
use Rattle.rules.specs.Mesh.{onward, corner, Mesh}
use Rattle.rules.proofs.Sound.{Sound}
use Rattle.outlines.specs.Loops.{outlines}
use Rattle.outlines.specs.IsOutline.{Runs, Stood, IsOutline}
use Rattle.outlines.proofs.Rims.{Rim, leave-one}
use Rattle.outlines.proofs.IsOutline.{mod-small, mod-all, is-outline}

-- ---- lists that are equal place by place

alike : {A : Type 0} (d : A) (a b : List A) → length a ≡ length b → ((i : ℕ) → i < length a → get_or a i d ≡ get_or b i d) → a ≡ b
alike d [] [] e f = refl
alike d [] (y ∷ b) e f = absurd (omega arith)
alike d (x ∷ a) [] e f = absurd (omega arith)
alike {A} d (x ∷ a) (y ∷ b) e f =
    ap (λ (z : A). z ∷ a) (f 0 (suc-le-suc zero-le)) ∙ ap (λ (z : List A). y ∷ z) (alike d a b (omega arith) (λ i h. f (suc i) (suc-le-suc h)))

-- ---- two rising sequences of the same numbers

record Met (g : ℕ → ℕ) (n x : ℕ) : Type 0 where
  spot : ℕ
  under : spot < n
  hit : g spot ≡ x

record Rising (f : ℕ → ℕ) (n : ℕ) : Type 0 where
  rise : (i k : ℕ) → i < k → k < n → f i < f k

up : (f : ℕ → ℕ) (n : ℕ) → Rising f n → (i k : ℕ) → i ≤ k → k < n → f i ≤ f k
up f n r i k h l = go (dec_lt i k)
  where
    go : Dec (i < k) → f i ≤ f k
    go (yes z) = omega (arith, r.rise i k z l)
    go (no z) = let e : i ≡ k = omega arith in rw e (omega arith)

-- what is met stands no earlier
no-earlier : (f g : ℕ → ℕ) (a b : ℕ) → Rising f a → Rising g b → ((i : ℕ) → i < a → Met g b (f i)) → (i : ℕ) → i < a → (k : ℕ) → k < b → g k ≡ f i → i ≤ k
no-earlier f g a b r s h zero l k u e = zero-le
no-earlier f g a b r s h (suc i) l k u e = go (h i (omega arith)) (no-earlier f g a b r s h i (omega arith))
  where
    go : Met g b (f i) → ((k : ℕ) → k < b → g k ≡ f i → i ≤ k) → suc i ≤ k
    go m rec = at (dec_lt m.spot k)
      where
        at : Dec (m.spot < k) → suc i ≤ k
        at (yes z) = omega (arith, rec m.spot m.under m.hit)
        at (no z) = absurd (omega (arith, up g b s k m.spot (omega arith) m.under, m.hit, e, r.rise i (suc i) (omega arith) l))

abbrev Both : (ℕ → ℕ) → (ℕ → ℕ) → ℕ → ℕ → Type 0
Both f g b i = (i < b) × (g i ≤ f i)

below-met : (f g : ℕ → ℕ) (a b : ℕ) → Rising f a → Rising g b → ((i : ℕ) → i < a → Met g b (f i)) → (i : ℕ) → i < a → Both f g b i
below-met f g a b r s h i l =
    let m = h i l in
    let z = no-earlier f g a b r s h i l m.spot m.under m.hit in
    (omega (arith, z, m.under), omega (arith, up g b s i m.spot z m.under, m.hit))

-- ---- the place reached from p by going on, round a loop of n

abbrev pos : ℕ → ℕ → ℕ → ℕ
pos n p zero = p
pos n p (suc j) = (pos n p j + 1) % n

pos-below : (n p : ℕ) → p < n → (j : ℕ) → pos n p j < n
pos-below n p h zero = h
pos-below n p h (suc j) = mod-lt (pos n p j + 1) {m = n} (omega arith)

pos-small : (n j : ℕ) → j < n → pos n 0 j ≡ j
pos-small n zero h = refl
pos-small n (suc j) h =
    let e : pos n 0 j + 1 ≡ suc j = omega (arith, pos-small n j (omega arith)) in
    ap (λ (z : ℕ). z % n) e ∙ mod-small (suc j) n h

pos-all : (n : ℕ) → 0 < n → pos n 0 n ≡ 0
pos-all zero h = absurd (not-suc-le-zero h)
pos-all (suc n) h =
    let e : pos (suc n) 0 n + 1 ≡ suc n = omega (arith, pos-small (suc n) n (omega arith)) in
    ap (λ (z : ℕ). z % suc n) e ∙ mod-all (suc n) h

-- ---- two outlines of one mesh

abbrev cell : List (List ℕ) → ℕ → ℕ → ℕ
cell rs i j = get_or (get_or rs i []) j 0

abbrev long : List (List ℕ) → ℕ → ℕ
long rs i = length (get_or rs i [])

module _ (n : ℕ) (m : Mesh) (w : Sound n m) where
  rim-of : (a b : ℕ) (p : Runs m a b) → Rim n m w p.side
  rim-of a b p = record { below = omega (arith, p.below, w.good.size); lone = p.lone }

  runs-one : (a c b d : ℕ) → a ≡ c → Runs m a b → Runs m c d → b ≡ d
  runs-one a c b d e p q =
      sym p.to ∙ ap (λ (s : ℕ). corner m.faces (onward s)) (leave-one n m w p.side q.side (rim-of a b p) (rim-of c d q) (p.from ∙ e ∙ sym q.from)) ∙ q.to

  low : (rs : List (List ℕ)) → IsOutline m rs → (i j : ℕ) → i < length rs → j < long rs i → cell rs i 0 ≤ cell rs i j
  low rs p i zero h k = omega arith
  low rs p i (suc j) h k = omega (arith, p.lowest i (suc j) h (suc-le-suc zero-le) k)

  -- each vertex of one stands in the other
  stand : (rs ts : List (List ℕ)) → IsOutline m rs → IsOutline m ts → (i j : ℕ) → i < length rs → j < long rs i → Stood ts (cell rs i j)
  stand rs ts p q i j h k =
      let r = p.follows i j h k in
      rw r.from at (q.each r.side r.below r.lone)

  -- a loop goes along the loop of the other in which its first vertex stands
  along : (rs ts : List (List ℕ)) → IsOutline m rs → IsOutline m ts → (i k x : ℕ) → i < length rs → k < length ts → x < long ts k → cell rs i 0 ≡ cell ts k x
      → (j : ℕ) → j < long rs i → cell rs i j ≡ cell ts k (pos (long ts k) x j)
  along rs ts p q i k x hi hk hx e zero h = e
  along rs ts p q i k x hi hk hx e (suc j) h =
      let a = p.follows i j hi (omega arith) in
      let b = q.follows k (pos (long ts k) x j) hk (pos-below (long ts k) x hx j) in
      let s : (j + 1) % long rs i ≡ suc j = mod-small (j + 1) (long rs i) (omega arith) ∙ omega arith in
      ap (cell rs i) (sym s) ∙ runs-one _ _ _ _ (along rs ts p q i k x hi hk hx e j (omega arith)) a b

  -- so both begin at one vertex
  record Fit (rs ts : List (List ℕ)) (i : ℕ) : Type 0 where
    at : ℕ
    among : at < length ts
    starts : cell ts at 0 ≡ cell rs i 0

  fit : (rs ts : List (List ℕ)) → IsOutline m rs → IsOutline m ts → (i : ℕ) → i < length rs → Fit rs ts i
  fit rs ts p q i h =
      let s = stand rs ts p q i 0 h (p.filled i h) in
      let t = stand ts rs q p s.loop 0 s.among (q.filled s.loop s.among) in
      let y = pos (long rs t.loop) t.place s.place in
      let g : cell rs t.loop y ≡ cell rs i 0 = sym (along ts rs q p s.loop t.loop t.place s.among t.among t.below (sym t.is) s.place s.below) ∙ s.is in
      let u : Stood rs (cell rs i 0) = record { loop = t.loop; place = y; among = t.among; below = pos-below (long rs t.loop) t.place t.below s.place; is = g } in
      let v : Stood rs (cell rs i 0) = record { loop = i; place = 0; among = h; below = p.filled i h; is = refl } in
      let o : t.loop ≡ i = (p.once (cell rs i 0) u v).0 in
      let f : cell rs t.loop 0 ≡ cell rs i 0 = ap (λ (z : ℕ). cell rs z 0) o in
      let a = low rs p t.loop t.place t.among t.below in
      let b = low ts q s.loop s.place s.among s.below in
      record { at = s.loop; among = s.among; starts = omega (arith, a, b, f, t.is, s.is) }

  no_longer : (rs ts : List (List ℕ)) → IsOutline m rs → IsOutline m ts → (i k : ℕ) → i < length rs → k < length ts → cell rs i 0 ≡ cell ts k 0 → long rs i ≤ long ts k
  no_longer rs ts p q i k hi hk e = go (dec_lt (long ts k) (long rs i))
    where
      go : Dec (long ts k < long rs i) → long rs i ≤ long ts k
      go (no l) = omega arith
      go (yes l) =
          let a = along rs ts p q i k 0 hi hk (q.filled k hk) e (long ts k) l in
          let b : cell rs i (long ts k) ≡ cell rs i 0 = a ∙ ap (cell ts k) (pos-all (long ts k) (q.filled k hk)) ∙ sym e in
          let u : Stood rs (cell rs i 0) = record { loop = i; place = long ts k; among = hi; below = l; is = b } in
          let v : Stood rs (cell rs i 0) = record { loop = i; place = 0; among = hi; below = p.filled i hi; is = refl } in
          absurd (omega (arith, (p.once (cell rs i 0) u v).1, q.filled k hk))

  same-loop : (rs ts : List (List ℕ)) → IsOutline m rs → IsOutline m ts → (i k : ℕ) → i < length rs → k < length ts → cell rs i 0 ≡ cell ts k 0 → get_or rs i [] ≡ get_or ts k []
  same-loop rs ts p q i k hi hk e =
      let a = no_longer rs ts p q i k hi hk e in
      let b = no_longer ts rs q p k i hk hi (sym e) in
      alike 0 (get_or rs i []) (get_or ts k []) (omega arith)
      (λ j h. along rs ts p q i k 0 hi hk (q.filled k hk) e j h ∙ ap (cell ts k) (pos-small (long ts k) j (omega arith)))

  meets : (rs ts : List (List ℕ)) → IsOutline m rs → IsOutline m ts → (i : ℕ) → i < length rs → Met (λ k. cell ts k 0) (length ts) (cell rs i 0)
  meets rs ts p q i h = let f = fit rs ts p q i h in record { spot = f.at; under = f.among; hit = f.starts }

  rising : (rs : List (List ℕ)) → IsOutline m rs → Rising (λ k. cell rs k 0) (length rs)
  rising rs p = record { rise = λ i k h l. p.order i k h l }

  both : (rs ts : List (List ℕ)) → IsOutline m rs → IsOutline m ts → (i : ℕ) → i < length rs → Both (λ k. cell rs k 0) (λ k. cell ts k 0) (length ts) i
  both rs ts p q = below-met (λ k. cell rs k 0) (λ k. cell ts k 0) (length rs) (length ts) (rising rs p) (rising ts q) (meets rs ts p q)

  no_more : (rs ts : List (List ℕ)) → IsOutline m rs → IsOutline m ts → length rs ≤ length ts
  no_more rs ts p q = go (dec_lt (length ts) (length rs))
    where
      go : Dec (length ts < length rs) → length rs ≤ length ts
      go (no l) = omega arith
      go (yes l) = absurd (omega (arith, (both rs ts p q (length ts) l).0))

  pub outlines-agree : (rs ts : List (List ℕ)) → IsOutline m rs → IsOutline m ts → rs ≡ ts
  outlines-agree rs ts p q =
      let a = no_more rs ts p q in
      let b = no_more ts rs q p in
      alike [] rs ts (omega arith)
      (λ i h.
      let x = both rs ts p q i h in
      let y = both ts rs q p i x.0 in
      same-loop rs ts p q i i h x.0 (omega (arith, x.1, y.1)))

  -- what the request states of the list holds of `outlines m` and of nothing else
  pub one-outline : (rs : List (List ℕ)) → IsOutline m rs → rs ≡ outlines m
  one-outline rs p = outlines-agree rs (outlines m) p (is-outline n m w)
