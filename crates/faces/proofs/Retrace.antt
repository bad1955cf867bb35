-- A walk that runs off the rim, taken back from its end, passes the same corners the other way, and goes on from where it began.
use mathlib.Core.Path.{◌≡◌, refl, sym, ap, ap₂, ◌∙◌}
use mathlib.Core.Logic.{◌≢◌}
use Prim.Native.Nat.{ℕ, zero, suc, ◌+◌, ◌-◌, ◌≤◌, ◌<◌}
use native.Mathlib.Omega.{arith}
use mathlib.Core.Bool.{Bool, true, false}
use mathlib.Core.List.{List, [], ◌∷◌, ◌++◌, reverse}
use mathlib.Core.Option.{Option, none, some}
use lib.Dec.{eqb, eqb→eq}
use lib.ListN.{length, get_or, take, drop}
use lib.Seq.{sets, sets-eq, take-suc}
use Rattle.std.proofs.lemmas.List.{reverse-append}
use Rattle.lists.specs.Lists.{last_of, pick}
use Rattle.lists.proofs.Places.{last-at}
use Rattle.rules.specs.Mesh.{onward, backward, corner, Step, home, off, here, ended, walk, passed, stop_of, step_to, through, next_corner, prev_corner}
use Rattle.faces.specs.Rings.{inners, backs, down_from}
use Rattle.lists.proofs.Places.{get_d_map}
use Rattle.rules.proofs.Sides.{back_on}
use Rattle.rules.proofs.Walks.{trail, chain, last-stop}

-- ---- any walk whose steps lead back along cs

module _ (prev : ℕ → Step) (cs : List ℕ) (k : ℕ) (back : (i : ℕ) → i < k → prev (get_or cs (suc i) 0) ≡ here (get_or cs i 0)) where
  pub retraced : (j m : ℕ) → j ≤ k → passed (walk prev (suc (m + j)) (here (get_or cs j 0))) ≡ down_from cs j ++ passed (walk prev m (prev (get_or cs 0 0)))
  retraced zero m h = let e : m + 0 ≡ m = omega arith in rw e
  retraced (suc j) m h =
      let e : m + suc j ≡ suc (m + j) = omega arith in
      ap (λ (l : List ℕ). get_or cs (suc j) 0 ∷ l) (rw (back j (omega arith), e) (retraced j m (omega arith)))

  pub retraced-stop : (j m : ℕ) → j ≤ k → stop_of (walk prev (suc (m + j)) (here (get_or cs j 0))) ≡ stop_of (walk prev m (prev (get_or cs 0 0)))
  retraced-stop zero m h = let e : m + 0 ≡ m = omega arith in rw e
  retraced-stop (suc j) m h = let e : m + suc j ≡ suc (m + j) = omega arith in rw (back j (omega arith), e) (retraced-stop j m (omega arith))

-- ---- links that lead back, over a walk on that ends

record Across (o : Option ℕ) (h t : ℕ) : Type 0 where
  link : ℕ
  is : o ≡ some link
  to : onward link ≡ t

-- a step to a further corner
across : (h t : ℕ) (o : Option ℕ) → step_to h (through onward o) ≡ here t → Across o h t
across h t none e = absurd (let z : ◌≡◌ {A = ℕ} 0 1 = cc in omega arith)
across h t (some x) e = go (eqb (onward x) h) e
  where
    go : (b : Bool) → pick b home (here (onward x)) ≡ here t → Across (some x) h t
    go true q = absurd (let z : ◌≡◌ {A = ℕ} 0 1 = cc in omega arith)
    go false q = record { link = x; is = refl; to = cc }

-- the way back from the corner that a step led to
step_back : (ls : List (Option ℕ)) → ((x t : ℕ) → get_or ls x none ≡ some t → get_or ls t none ≡ some x)
    → (h e x y : ℕ) → next_corner ls h x ≡ here y → x ≢ e → prev_corner ls e y ≡ here x
step_back ls leads h e x y q d =
    let a = across h y (get_or ls x none) q in
    let b : backward y ≡ a.link = ap backward (sym a.to) ∙ back_on a.link in
    ap (λ (z : ℕ). step_to e (get_or ls z none)) b ∙ ap (step_to e) (leads x a.link a.is) ∙ not_home (eqb x e) refl
  where
    not_home : (b : Bool) → eqb x e ≡ b → pick (eqb x e) home (here x) ≡ here x
    not_home true z = absurd (d (eqb→eq x e (rw z tt)))
    not_home false z = rw z

-- the walk on from s runs off the rim at e; its corners but the last have a face across
module _ (ls : List (Option ℕ)) (leads : (x t : ℕ) → get_or ls x none ≡ some t → get_or ls t none ≡ some x) (n s : ℕ)
    (ends : stop_of (walk (next_corner ls s) n (here s)) ≡ ended) where
  abbrev on : List ℕ
  on = trail (next_corner ls s) n (here s)

  pub off-last : next_corner ls s (last_of 0 on) ≡ off
  off-last = rw ends at (last-stop (next_corner ls s) n s 0)

  not_last : (i : ℕ) → suc i < length on → get_or on i 0 ≢ last_of 0 on
  not_last i h q =
      let a = sym (chain (next_corner ls s) n (here s) i h) ∙ ap (next_corner ls s) q ∙ off-last in
      let z : ◌≡◌ {A = ℕ} 0 1 = cc in
      omega arith

  leads-back : (i : ℕ) → i < length on - 1 → prev_corner ls (last_of 0 on) (get_or on (suc i) 0) ≡ here (get_or on i 0)
  leads-back i h = step_back ls leads s (last_of 0 on) (get_or on i 0) (get_or on (suc i) 0) (chain (next_corner ls s) n (here s) i (omega arith)) (not_last i (omega arith))

  -- the walk back from the end: the walk on, the other way, and then on from s
  pub back-trail : (m : ℕ) → 0 < length on
      → passed (walk (prev_corner ls (last_of 0 on)) (suc (m + (length on - 1))) (here (last_of 0 on))) ≡ down_from on (length on - 1) ++ passed (walk (prev_corner ls (last_of 0 on)) m (prev_corner ls (last_of 0 on) (get_or on 0 0)))
  back-trail m h =
      let e : last_of 0 on ≡ get_or on (length on - 1) 0 = last-at 0 on h in
      ap (λ (z : ℕ). passed (walk (prev_corner ls (last_of 0 on)) (suc (m + (length on - 1))) (here z))) e
      ∙ retraced (prev_corner ls (last_of 0 on)) on (length on - 1) leads-back (length on - 1) m (omega arith)

  pub back-stop : (m : ℕ) → 0 < length on
      → stop_of (walk (prev_corner ls (last_of 0 on)) (suc (m + (length on - 1))) (here (last_of 0 on))) ≡ stop_of (walk (prev_corner ls (last_of 0 on)) m (prev_corner ls (last_of 0 on) (get_or on 0 0)))
  back-stop m h =
      let e : last_of 0 on ≡ get_or on (length on - 1) 0 = last-at 0 on h in
      ap (λ (z : ℕ). stop_of (walk (prev_corner ls (last_of 0 on)) (suc (m + (length on - 1))) (here z))) e
      ∙ retraced-stop (prev_corner ls (last_of 0 on)) on (length on - 1) leads-back (length on - 1) m (omega arith)

  -- the side that a further corner's vertex is come to by
  pub came-by : (i : ℕ) → i < length on - 1 → get_or ls (get_or on i 0) none ≡ some (backward (get_or on (suc i) 0))
  came-by i h =
      let a = across s (get_or on (suc i) 0) (get_or ls (get_or on i 0) none) (chain (next_corner ls s) n (here s) i (omega arith)) in
      a.is ∙ ap some (sym (ap backward (sym a.to) ∙ back_on a.link))

-- ---- `down_from`, entry by entry

pub length-down : (l : List ℕ) (j : ℕ) → length (down_from l j) ≡ suc j
length-down l zero = refl
length-down l (suc j) = ap suc (length-down l j)

pub get_or-down : (l : List ℕ) (j i : ℕ) → i ≤ j → get_or (down_from l j) i 0 ≡ get_or l (j - i) 0
get_or-down l zero zero h = let e : 0 - 0 ≡ 0 = omega arith in rw e
get_or-down l zero (suc i) h = absurd (omega arith)
get_or-down l (suc j) zero h = let e : suc j - 0 ≡ suc j = omega arith in rw e
get_or-down l (suc j) (suc i) h = let e : suc j - suc i ≡ j - i = omega arith in rw e (get_or-down l j i (omega arith))

pub down-same : (l k : List ℕ) (j : ℕ) → ((i : ℕ) → i ≤ j → get_or l i 0 ≡ get_or k i 0) → down_from l j ≡ down_from k j
down-same l k zero h = ap (λ (x : ℕ). x ∷ []) (h 0 (omega arith))
down-same l k (suc j) h = ap₂ (λ (x : ℕ) (xs : List ℕ). x ∷ xs) (h (suc j) (omega arith)) (down-same l k j (λ i g. h i (omega arith)))

-- the first n, reversed
front-down : (l : List ℕ) (j : ℕ) → j < length l → reverse (take (suc j) l) ≡ down_from l j
front-down [] j h = absurd (omega arith)
front-down (x ∷ l) zero h = refl
front-down (x ∷ l) (suc j) h =
    ap reverse (take-suc (x ∷ l) (suc j) 0 h) ∙ reverse-append (take (suc j) (x ∷ l)) (get_or (x ∷ l) (suc j) 0 ∷ [])
    ∙ ap (λ (k : List ℕ). get_or (x ∷ l) (suc j) 0 ∷ k) (front-down (x ∷ l) j (omega arith))

pub reversed_front : (l : List ℕ) (n : ℕ) → 0 < n → n ≤ length l → reverse (take n l) ++ drop n l ≡ sets l 0 (down_from l (n - 1))
reversed_front l n h k =
    let e : suc (n - 1) ≡ n = omega arith in
    let d : length (down_from l (n - 1)) ≡ n = length-down l (n - 1) ∙ e in
    let f : reverse (take n l) ≡ down_from l (n - 1) = ap (λ (z : ℕ). reverse (take z l)) (sym e) ∙ front-down l (n - 1) (omega arith) in
    let z : 0 + length (down_from l (n - 1)) ≡ n = omega (arith, d) in
    ap (λ (x : List ℕ). x ++ drop n l) f ∙ sym (sets-eq (down_from l (n - 1)) l 0 (omega (arith, d)) ∙ ap (λ (i : ℕ). down_from l (n - 1) ++ drop i l) z)

-- ---- the ring of a rim vertex from what the walk on gathered: `prev_vert` of each corner is `next_vert` of the one before

module _ (fs cs : List ℕ) (k : ℕ) (long : length cs ≡ suc k) (mates : (i : ℕ) → i < k → corner fs (backward (get_or cs (suc i) 0)) ≡ corner fs (onward (get_or cs i 0))) where
  next_of : (j : ℕ) → j ≤ k → get_or (inners fs cs) j 0 ≡ corner fs (onward (get_or cs j 0))
  next_of j h = get_d_map (λ s. corner fs (onward s)) cs j 0 0 (omega arith)

  pub ring-turned : (j : ℕ) → j ≤ k → corner fs (onward (get_or cs j 0)) ∷ backs fs (down_from cs j) ≡ down_from (inners fs cs) j ++ (corner fs (backward (get_or cs 0 0)) ∷ [])
  ring-turned zero h = ap (λ (x : ℕ). x ∷ corner fs (backward (get_or cs 0 0)) ∷ []) (sym (next_of 0 h))
  ring-turned (suc j) h =
      ap₂ (λ (x : ℕ) (xs : List ℕ). x ∷ xs) (sym (next_of (suc j) h))
      (ap (λ (x : ℕ). x ∷ backs fs (down_from cs j)) (mates j (omega arith)) ∙ ring-turned j (omega arith))
