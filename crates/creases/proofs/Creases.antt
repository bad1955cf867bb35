-- Request 6: the sharp edges at a vertex as the passage round it meets them.
use mathlib.Core.Path.{◌≡◌, refl, sym, ap, ◌∙◌}
use Prim.Native.Nat.{ℕ, zero, suc, ◌+◌, ◌≤◌, ◌<◌}
use native.Mathlib.Omega.{arith}
use native.Mathlib.Numerals.{add-one}
use mathlib.Core.Bool.{Bool, true, false}
use mathlib.Core.List.{List, [], ◌∷◌, ◌++◌, map-append, append-nil}
use lib.ListN.{length, get_or, take, length-map, length-append}
use borrow.Author.Tests.{ne_eqb}
use lib.Seq.{take-suc, take_all, length-take-le}
use Rattle.lists.specs.Lists.{pick, bit, keep, tally}
use Rattle.lists.proofs.Places.{length-keep}
use Rattle.lists.proofs.Counting.{tally-append}
use Rattle.rules.specs.Mesh.{onward, corner}
use Rattle.faces.specs.Rings.{inners, down_from}
use Rattle.creases.specs.declared.rings.Met.{Met}
use Rattle.creases.specs.Rings.{met_of, noted}

-- ---- those that pass, one corner more

keep_append : (p : ℕ → Bool) (a b : List ℕ) → keep p (a ++ b) ≡ keep p a ++ keep p b
keep_append p [] b = refl
keep_append p (x ∷ a) b = go (p x) (keep_append p a b)
  where
    go : (c : Bool) → keep p (a ++ b) ≡ keep p a ++ keep p b → pick c (x ∷ keep p (a ++ b)) (keep p (a ++ b)) ≡ pick c (x ∷ keep p a) (keep p a) ++ keep p b
    go true q = ap (λ (l : List ℕ). x ∷ l) q
    go false q = q

keep-take : (p : ℕ → Bool) (cs : List ℕ) (n : ℕ) → n < length cs → keep p (take (n + 1) cs) ≡ keep p (take n cs) ++ pick (p (get_or cs n 0)) (get_or cs n 0 ∷ []) []
keep-take p cs n h =
    ap (λ (z : ℕ). keep p (take z cs)) (add-one n) ∙ ap (λ (l : List ℕ). keep p l) (take-suc cs n 0 h) ∙ keep_append p (take n cs) (get_or cs n 0 ∷ [])

pub tally-few : (p : ℕ → Bool) (l : List ℕ) → tally p l ≤ length l
tally-few p [] = omega arith
tally-few p (x ∷ l) = go (p x) (tally-few p l)
  where
    go : (b : Bool) → tally p l ≤ length l → bit b + tally p l ≤ suc (length l)
    go true h = omega arith
    go false h = omega arith

pub tally-take : (p : ℕ → Bool) (cs : List ℕ) (n : ℕ) → n < length cs → tally p (take (n + 1) cs) ≡ tally p (take n cs) + bit (p (get_or cs n 0))
tally-take p cs n h =
    ap (λ (z : ℕ). tally p (take z cs)) (add-one n) ∙ ap (λ (l : List ℕ). tally p l) (take-suc cs n 0 h) ∙ tally-append p (take n cs) (get_or cs n 0 ∷ []) ∙ omega arith

pub tally-few-of : (p : ℕ → Bool) (cs : List ℕ) (n : ℕ) → n ≤ length cs → tally p (take n cs) ≤ n
tally-few-of p cs n h = omega (arith, tally-few p (take n cs), length-take-le n cs h)

abbrev met3 : ℕ → ℕ → ℕ → Met
met3 n a b = record { n = n; a = a; b = b }

noted_more : (vs : List ℕ) (v : ℕ) → noted (met_of vs) v ≡ met_of (vs ++ (v ∷ []))
noted_more [] v = refl
noted_more (x ∷ []) v = refl
noted_more (x ∷ y ∷ vs) v =
    let q = length-append vs (v ∷ []) in
    let e : suc (suc (length vs)) + 1 ≡ suc (suc (length (vs ++ (v ∷ [])))) = omega arith in
    let s : noted (met_of (x ∷ y ∷ vs)) v ≡ met3 (suc (suc (length vs)) + 1) x y =
    simp (ne_eqb (suc (suc (length vs))) 0 (λ z. omega arith), ne_eqb (suc (suc (length vs))) 1 (λ z. omega arith)) in
    s ∙ ap (λ (n : ℕ). met3 n x y) e

module _ (fs cs : List ℕ) (p : ℕ → Bool) (n : ℕ) where
  abbrev far : List ℕ
  far = inners fs (keep p (take n cs))

  -- not more than there are corners
  pub met-few : n ≤ length cs → length far ≤ n
  met-few h = rw (length-map (keep p (take n cs)) (λ s. corner fs (onward s)), length-keep p (take n cs)) (tally-few-of p cs n h)

  pub met-more : (x v : ℕ) → n < length cs → x ≡ get_or cs n 0 → corner fs (onward x) ≡ v → pick (p x) (noted (met_of far) v) (met_of far) ≡ met_of (inners fs (keep p (take (n + 1) cs)))
  met-more x v h e q =
      go (p x) ∙ sym (ap (λ (l : List ℕ). met_of (inners fs l)) (keep-take p cs n h ∙ ap (λ (z : ℕ). keep p (take n cs) ++ pick (p z) (z ∷ []) []) (sym e)))
    where
      go : (b : Bool) → pick b (noted (met_of far) v) (met_of far) ≡ met_of (inners fs (keep p (take n cs) ++ pick b (x ∷ []) []))
      go true =
          noted_more far v ∙ ap (λ (z : ℕ). met_of (far ++ (z ∷ []))) (sym q)
          ∙ ap (λ (l : List ℕ). met_of l) (sym (map-append (λ s. corner fs (onward s)) (keep p (take n cs)) (x ∷ [])))
      go false = ap (λ (l : List ℕ). met_of (inners fs l)) (sym (append-nil (keep p (take n cs))))

pub met_all : (fs cs : List ℕ) (p : ℕ → Bool) (n : ℕ) → n ≡ length cs → met_of (inners fs (keep p (take n cs))) ≡ met_of (inners fs (keep p cs))
met_all fs cs p n e = ap (λ (l : List ℕ). met_of (inners fs (keep p l))) (take_all n cs (omega arith))

-- ---- on the rim, where the sides that come are asked and not those that leave

pub tally-down : (p q : ℕ → Bool) (cs : List ℕ) (k : ℕ) → ((i : ℕ) → i < k → q (get_or cs (suc i) 0) ≡ p (get_or cs i 0)) → k < length cs
    → (j : ℕ) → j ≤ k → tally q (down_from cs j) ≡ tally p (take j cs) + bit (q (get_or cs 0 0))
tally-down p q cs k same long zero h = omega arith
tally-down p q cs k same long (suc j) h =
    let a = tally-down p q cs k same long j (omega arith) in
    let b = tally-take p cs j (omega arith) in
    let c = ap bit (same j (omega arith)) in
    omega (arith, a, ap (λ (z : ℕ). tally p (take z cs)) (add-one j), b, c)
