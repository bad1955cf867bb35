-- One level keeps the vertex at which a loop begins, and so the order of the loops; no loop begins at a new vertex.
use mathlib.Core.Path.{◌≡◌, refl, sym, ap, ◌∙◌}
use mathlib.Core.Logic.{◌≢◌}
use Prim.Native.Nat.{ℕ, zero, suc, ◌+◌, ◌-◌, ◌*◌, ◌<◌, ◌≤◌}
use native.Mathlib.Omega.{arith}
use mathlib.Core.Bool.{Bool, true, false, not, ◌&&◌}
use mathlib.Core.List.{List, [], ◌∷◌, ◌++◌, map, append-nil}
use mathlib.Core.Option.{Option, none, some}
use lib.Dec.{T, ltb, ltb→lt, lt→ltb}
use lib.ListN.{length, get_or}
use Rattle.lists.specs.Lists.{pick, count, find, found, keep, gather, later}
use Rattle.lists.proofs.Places.{keep-suc}
use Rattle.rules.specs.Mesh.{corner, links, through, here, walk, passed, step_to, Mesh, refined}
use Rattle.rules.proofs.Refine.{Good, finer_of, mid_of, edges, Kind, first, second, cut, core, kind, at-restart, length-finer, old-new}
use Rattle.rules.proofs.Links.{half1, half2, half2-from, link-half1, link-half2, link-cut, link-core}
use Rattle.rules.proofs.Number.{middle-range}
use Rattle.rules.proofs.Fans.{eqb-false}
use Rattle.rules.proofs.Sound.{Sound, sound-refined}
use Rattle.outlines.specs.Loops.{leaving, next_rim, around, loop_of, begins}
use Rattle.outlines.proofs.Rims.{Rim, leaving-some, leaving-is, next-is, rim-of}
use Rattle.outlines.proofs.Finer.{halves, m', faces-are, corner-as, rim1, next2, around-finer}

none-some : {X : Type 0} {i : ℕ} → none ≡ some i → X
none-some e = absurd (let z : ◌≡◌ {A = ℕ} 0 1 = cc in omega arith)

through-none : (f : ℕ → ℕ) (o : Option ℕ) → through f o ≡ none → o ≡ none
through-none f none e = refl
through-none f (some t) e = none-some (sym e)

-- ---- lists

found-later : (o : Option ℕ) → found (later o) ≡ found o
found-later none = refl
found-later (some i) = refl

ltb-false : (a b : ℕ) → b ≤ a → ltb a b ≡ false
ltb-false a b h = go (ltb a b) refl
  where
    go : (c : Bool) → ltb a b ≡ c → c ≡ false
    go true e = absurd (let l = ltb→lt a b (rw e tt) in omega arith)
    go false e = refl

-- a list in which each x becomes f x and one more that fails the test
found-pairs : (p : ℕ → Bool) (f g k : ℕ → ℕ) (xs : List ℕ) → ((i : ℕ) → i < length xs → (f (get_or xs i 0) ≡ k (get_or xs i 0)) × (p (g (get_or xs i 0)) ≡ false))
    → found (find p (gather (λ x. f x ∷ g x ∷ []) xs)) ≡ found (find p (map k xs))
found-pairs p f g k [] h = refl
found-pairs p f g k (x ∷ xs) h =
    let z = h 0 (omega arith) in
    rw (z.0, z.1) (go (p (k x)) (found-pairs p f g k xs (λ i l. h (suc i) (omega arith))))
  where
    go : (b : Bool) → found (find p (gather (λ x. f x ∷ g x ∷ []) xs)) ≡ found (find p (map k xs))
        → found (pick b (some zero) (later (later (find p (gather (λ x. f x ∷ g x ∷ []) xs))))) ≡ found (pick b (some zero) (later (find p (map k xs))))
    go true e = refl
    go false e = found-later (later (find p (gather (λ x. f x ∷ g x ∷ []) xs))) ∙ found-later (find p (gather (λ x. f x ∷ g x ∷ []) xs)) ∙ e ∙ sym (found-later (find p (map k xs)))

second-found : (p q : Bool) → T q → (o : Option ℕ) → found (pick p (some zero) (later (pick q (some zero) (later o)))) ≡ true
second-found true q k o = refl
second-found false true k o = refl
second-found false false k o = absurd k

second-in : (p : ℕ → Bool) (a b : ℕ) (l : List ℕ) → T (p b) → found (find p (a ∷ b ∷ l)) ≡ true
second-in p a b l k = second-found (p a) (p b) k (find p l)

map-halves : (c : ℕ → ℕ) (xs : List ℕ) → map c (gather halves xs) ≡ gather (λ x. c (half1 x) ∷ c (half2 x) ∷ []) xs
map-halves c [] = refl
map-halves c (x ∷ xs) = ap {B = List ℕ} (λ l. c (half1 x) ∷ c (half2 x) ∷ l) (map-halves c xs)

keep_same : (p q : ℕ → Bool) (n : ℕ) → ((u : ℕ) → u < n → p u ≡ q u) → keep p (count 0 n) ≡ keep q (count 0 n)
keep_same p q zero h = refl
keep_same p q (suc n) h =
    keep-suc p 0 n
    ∙ ap (λ (l : List ℕ). l ++ pick (p (0 + n)) ((0 + n) ∷ []) []) (keep_same p q n (λ u l. h u (omega arith)))
    ∙ ap (λ (b : Bool). keep q (count 0 n) ++ pick b ((0 + n) ∷ []) []) (h (0 + n) (omega arith))
    ∙ sym (keep-suc q 0 n)

keep-front : (p : ℕ → Bool) (v e : ℕ) → ((u : ℕ) → v ≤ u → u < v + e → p u ≡ false) → keep p (count 0 (v + e)) ≡ keep p (count 0 v)
keep-front p v zero h = let q : v + 0 ≡ v = omega arith in ap (λ (z : ℕ). keep p (count 0 z)) q
keep-front p v (suc e) h =
    let q : v + suc e ≡ suc (v + e) = omega arith in
    ap (λ (z : ℕ). keep p (count 0 z)) q
    ∙ keep-suc p 0 (v + e)
    ∙ ap (λ (b : Bool). keep p (count 0 (v + e)) ++ pick b ((0 + (v + e)) ∷ []) []) (h (0 + (v + e)) (omega arith) (omega arith))
    ∙ append-nil (keep p (count 0 (v + e)))
    ∙ keep-front p v e (λ u a b. h u a (omega arith))

-- ---- the refined mesh

module _ (n : ℕ) (m : Mesh) (w : Sound n m) where
  abbrev mm : Mesh
  mm = m' n m w

  abbrev ww : Sound (4 * n) mm
  ww = sound-refined n m w

  abbrev v : ℕ
  v = m.verts

  abbrev fs : List ℕ
  fs = m.faces

  abbrev ls : List (Option ℕ)
  ls = links fs

  abbrev fs' : List ℕ
  fs' = mm.faces

  abbrev ls' : List (Option ℕ)
  ls' = links fs'

  abbrev g : Good v n fs
  g = w.good

  -- a rim side of the refined mesh is a half of a rim side
  data Half (x : ℕ) : Type 0 where
    one : (s : ℕ) → Rim n m w s → x ≡ half1 s → Half x
    two : (s : ℕ) → Rim n m w s → x ≡ half2 s → Half x

  half_of : (x : ℕ) → Rim (4 * n) mm ww x → Half x
  half_of x r = go (kind v n fs g x r.below)
    where
      lone : get_or (links (finer_of v n fs)) x none ≡ none
      lone = sym (ap (λ (l : List ℕ). get_or (links l) x none) (faces-are n m w)) ∙ r.lone

      go : Kind v n fs g x → Half x
      go (first s h q p) =
          one s (record { below = h; lone = through-none half2 (get_or ls s none) (sym (link-half1 v n fs g s h) ∙ ap (λ (z : ℕ). get_or (links (finer_of v n fs)) z none) (sym q) ∙ lone) }) q
      go (second s h q p) =
          two s (record { below = h; lone = through-none half1 (get_or ls s none) (sym (link-half2 v n fs g s h) ∙ ap (λ (z : ℕ). get_or (links (finer_of v n fs)) z none) (sym q) ∙ lone) }) q
      go (cut s h q p) = none-some (sym lone ∙ ap (λ (z : ℕ). get_or (links (finer_of v n fs)) z none) q ∙ link-cut v n fs g s h)
      go (core s h q p) = none-some (sym lone ∙ ap (λ (z : ℕ). get_or (links (finer_of v n fs)) z none) q ∙ link-core v n fs g s h)

  at1 : (s : ℕ) → s < 3 * n → corner fs' (half1 s) ≡ corner fs s
  at1 s h = corner-as n m w (half1 s) _ (at-restart v n fs g s h)

  at2 : (s : ℕ) → s < 3 * n → corner fs' (half2 s) ≡ mid_of v fs s
  at2 s h = corner-as n m w (half2 s) _ (half2-from v n fs g s h)

  -- ---- old vertices

  pub leaving-old : (u : ℕ) → u < v → leaving fs' ls' u ≡ through half1 (leaving fs ls u)
  leaving-old u h = go (leaving fs ls u) refl
    where
      none_left : leaving fs ls u ≡ none → (o : Option ℕ) → leaving fs' ls' u ≡ o → o ≡ none
      none_left e none q = refl
      none_left e (some x) q = at (half_of x a.0)
        where
          a : Rim (4 * n) mm ww x × (corner fs' x ≡ u)
          a = leaving-some (4 * n) mm ww u x q

          at : Half x → some x ≡ none
          at (one s r z) =
              let c : corner fs s ≡ u = sym (at1 s r.below) ∙ ap (corner fs') (sym z) ∙ a.1 in
              none-some (sym e ∙ ap (leaving fs ls) (sym c) ∙ leaving-is n m w s r)
          at (two s r z) =
              let c : mid_of v fs s ≡ u = sym (at2 s r.below) ∙ ap (corner fs') (sym z) ∙ a.1 in
              absurd (omega (arith, (middle-range v n fs g s r.below).0))

      go : (o : Option ℕ) → leaving fs ls u ≡ o → leaving fs' ls' u ≡ through half1 o
      go none e = none_left e (leaving fs' ls' u) refl
      go (some s) e =
          let a = leaving-some n m w u s e in
          ap (leaving fs' ls') (sym (at1 s a.0.below ∙ a.1)) ∙ leaving-is (4 * n) mm ww (half1 s) (rim1 n m w s a.0)

  found-through : (o : Option ℕ) → found (through half1 o) ≡ found o
  found-through none = refl
  found-through (some s) = refl

  -- the vertices of an old loop and those between them
  loop_old : (s : ℕ) → Rim n m w s → map (corner fs') (around fs' ls' (half1 s)) ≡ gather (λ x. corner fs' (half1 x) ∷ corner fs' (half2 x) ∷ []) (around fs ls s)
  loop_old s r = ap (map (corner fs')) (around-finer n m w s r) ∙ map-halves (corner fs') (around fs ls s)

  below_of : (s : ℕ) → Rim n m w s → (i : ℕ) → i < length (around fs ls s) → get_or (around fs ls s) i 0 < 3 * n
  unfolding around
  below_of s r i h = (rim-of n m w s r (length fs) i h).below

  begins-old : (u : ℕ) → u < v → begins fs' ls' u ≡ begins fs ls u
  begins-old u h = rw (leaving-old u h) (go (leaving fs ls u) refl)
    where
      go : (o : Option ℕ) → leaving fs ls u ≡ o
          → (found (through half1 o) && not (found (find (λ z. ltb z u) (loop_of fs' ls' (through half1 o))))) ≡ (found o && not (found (find (λ z. ltb z u) (loop_of fs ls o))))
      go none e = refl
      go (some s) e =
          let a = (leaving-some n m w u s e).0 in
          ap not (ap (λ (l : List ℕ). found (find (λ z. ltb z u) l)) (loop_old s a)
          ∙ found-pairs (λ z. ltb z u) (λ x. corner fs' (half1 x)) (λ x. corner fs' (half2 x)) (corner fs) (around fs ls s)
          (λ i l.
          let b = below_of s a i l in
          (at1 (get_or (around fs ls s) i 0) b, ltb-false _ u (rw (at2 (get_or (around fs ls s) i 0) b) (omega (arith, (middle-range v n fs g (get_or (around fs ls s) i 0) b).0))))))

  -- ---- new vertices

  two-on : (y t k : ℕ) → next_rim fs' ls' y ≡ some t → t ≢ y → (st : ℕ) → st ≡ suc (suc k)
      → passed (walk (λ x. step_to y (next_rim fs' ls' x)) st (here y)) ≡ y ∷ t ∷ passed (walk (λ x. step_to y (next_rim fs' ls' x)) k (step_to y (next_rim fs' ls' t)))
  two-on y t k e d st q = rw (q, e, eqb-false t y d)

  not-begun : (u s : ℕ) → Rim n m w s → v ≤ u → found (find (λ z. ltb z u) (map (corner fs') (around fs' ls' (half2 s)))) ≡ true
  unfolding around
  not-begun u s r h =
      let x = next-is n m w s r in
      let t = x.0 in
      let e = next2 n m w s t r x.1 x.3 in
      let d : half1 t ≢ half2 s = λ q. old-new v n fs g t s x.1.below (sym (at1 t x.1.below) ∙ ap (corner fs') q ∙ at2 s r.below) in
      let l : length fs' ≡ suc (suc (length fs' - 2)) = omega (arith, ap (λ (z : List ℕ). length z) (faces-are n m w), length-finer v n fs g, r.below) in
      let a = two-on (half2 s) (half1 t) (length fs' - 2) e d (length fs') l in
      let b : T (ltb (corner fs' (half1 t)) u) = rw (at1 t x.1.below) (lt→ltb (corner fs t) u (omega (arith, g.below t x.1.below))) in
      ap (λ (z : List ℕ). found (find (λ z. ltb z u) (map (corner fs') z))) a ∙ second-in (λ z. ltb z u) (corner fs' (half2 s)) (corner fs' (half1 t)) (map (corner fs') (passed (walk (λ x. step_to (half2 s) (next_rim fs' ls' x)) (length fs' - 2) (step_to (half2 s) (next_rim fs' ls' (half1 t)))))) b

  begins-new : (u : ℕ) → v ≤ u → begins fs' ls' u ≡ false
  begins-new u h = go (leaving fs' ls' u) refl
    where
      go : (o : Option ℕ) → leaving fs' ls' u ≡ o → (found o && not (found (find (λ z. ltb z u) (loop_of fs' ls' o)))) ≡ false
      go none e = refl
      go (some x) e = at (half_of x a.0)
        where
          a : Rim (4 * n) mm ww x × (corner fs' x ≡ u)
          a = leaving-some (4 * n) mm ww u x e

          at : Half x → not (found (find (λ z. ltb z u) (map (corner fs') (around fs' ls' x)))) ≡ false
          at (one s r z) =
              let c : corner fs s ≡ u = sym (at1 s r.below) ∙ ap (corner fs') (sym z) ∙ a.1 in
              absurd (omega (arith, g.below s r.below))
          at (two s r z) = ap not (ap (λ (y : ℕ). found (find (λ z. ltb z u) (map (corner fs') (around fs' ls' y)))) z ∙ not-begun u s r h)

  verts-are : mm.verts ≡ v + edges v n fs g
  unfolding refined
  verts-are = refl

  -- the loops begin where they began, in the same order
  pub starts-kept : keep (begins fs' ls') (count 0 mm.verts) ≡ keep (begins fs ls) (count 0 v)
  starts-kept =
      ap (λ (k : ℕ). keep (begins fs' ls') (count 0 k)) verts-are
      ∙ keep-front (begins fs' ls') v (edges v n fs g) (λ u a b. begins-new u a)
      ∙ keep_same (begins fs' ls') (begins fs ls) v (λ u h. begins-old u h)
