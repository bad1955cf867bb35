-- What goes into the list, and where.
use mathlib.Core.Path.{◌≡◌, refl, sym, ap, ◌∙◌}
use Prim.Native.Nat.{ℕ, zero, suc, ◌+◌, ◌-◌, ◌*◌, ◌^◌, ◌<◌, ◌≤◌}
use native.Mathlib.Omega.{arith}
use mathlib.Core.Bool.{Bool, true, false}
use mathlib.Core.List.{List, [], ◌∷◌, ◌++◌, append-nil}
use mathlib.Core.Option.{Option, none, some}
use lib.ListN.{length, get_or, set, length-append}
use lib.Seq.{sets, set_comm}
use borrow.Author.Tests.{eq-eqb, ne_eqb}
use Rattle.lists.specs.Lists.{pick, count, keep, gather}
use Rattle.lists.proofs.Places.{count_next, gather_append, length-gather}
use Rattle.lists.proofs.Stores.{sets-next}
use Rattle.rules.specs.Mesh.{links}
use Rattle.outlines.specs.Loops.{leaving, around, begins}
use Rattle.outlines.specs.Pieces.{sides_of, stored, entry, entry_at, Firsts}
use Rattle.outlines.proofs.Steps.{length-stored}

-- ---- sizes

pow-up : (l d : ℕ) → 2 ^ l ≤ 2 ^ (l + d)
pow-up l zero = let e : l + 0 ≡ l = omega arith in rw e (omega arith)
pow-up l (suc d) =
    let e : l + suc d ≡ suc (l + d) = omega arith in
    let q : 2 ^ suc (l + d) ≡ 2 * 2 ^ (l + d) = omega arith in
    rw (e, q) (omega (arith, pow-up l d))

pub pow_small : (l : ℕ) → l ≤ 7 → 2 ^ l ≤ 128
pow_small l h = let e : l + (7 - l) ≡ 7 = omega arith in let q : 2 ^ 7 ≡ 128 = omega arith in rw (e, q) at (pow-up l (7 - l))

pub mul_small : (a n : ℕ) → a ≤ 128 → n ≤ 12288 → a * n ≤ 1572864
mul_small a n h k = go (128 - a) (omega arith)
  where
    go : (d : ℕ) → 128 ≡ a + d → a * n ≤ 1572864
    go d e = let q : 128 * n ≡ (a + d) * n = ap (λ (z : ℕ). z * n) e in omega (arith, q, k)

-- ---- one vertex

set_before : (xs l : List ℕ) (i j y : ℕ) → j < i → set (sets l i xs) j y ≡ sets (set l j y) i xs
set_before [] l i j y h = refl
set_before (x ∷ xs) l i j y h = set_before xs (set l i x) (suc i) j y (omega arith) ∙ ap (λ (z : List ℕ). sets z (suc i) xs) (set_comm l i j x y (λ e. omega arith))

pub entry-store : (xs l : List ℕ) (at k : ℕ) → k ≡ length xs → set (sets l (at + 1) xs) at k ≡ sets l at (entry xs)
entry-store xs l at k e =
    let q : at + 1 ≡ suc at = omega arith in
    set_before xs l (at + 1) at k (omega arith) ∙ ap (λ (z : ℕ). sets (set l at k) z xs) q ∙ ap (λ (z : ℕ). sets (set l at z) (suc at) xs) e

pub length-loop : (l : ℕ) (out xs : List ℕ) → length (gather (stored l out) xs) ≡ 2 ^ l * length xs
length-loop l out xs = length-gather (stored l out) (2 ^ l) (length-stored out l) xs

pub entry-none : (l : ℕ) (fs out : List ℕ) (u : ℕ) → begins fs (links fs) u ≡ false → entry_at l fs out u ≡ []
entry-none l fs out u e = rw e refl

pub entry-some : (l : ℕ) (fs out : List ℕ) (u s : ℕ) → begins fs (links fs) u ≡ true → leaving fs (links fs) u ≡ some s → entry_at l fs out u ≡ entry (gather (stored l out) (around fs (links fs) s))
entry-some l fs out u s e q = ap (λ (c : Bool). pick c (entry (gather (stored l out) (sides_of fs (links fs) (leaving fs (links fs) u)))) []) e ∙ ap (λ (o : Option ℕ). entry (gather (stored l out) (sides_of fs (links fs) o))) q

pub begins-not : (v : ℕ) (fs ms : List ℕ) (u : ℕ) → Firsts v fs ms → u < v → (get_or ms u 0 ≡ u + 1 → ⊥) → begins fs (links fs) u ≡ false
begins-not v fs ms u f h z = sym (f.is u h) ∙ ne_eqb (get_or ms u 0) (u + 1) z

pub begins-is : (v : ℕ) (fs ms : List ℕ) (u : ℕ) → Firsts v fs ms → u < v → get_or ms u 0 ≡ u + 1 → begins fs (links fs) u ≡ true
begins-is v fs ms u f h z = sym (f.is u h) ∙ eq-eqb (get_or ms u 0) (u + 1) z

pub begins-some : (fs : List ℕ) (u : ℕ) → begins fs (links fs) u ≡ true → leaving fs (links fs) u ≡ none → ⊥
begins-some fs u e q = let f : begins fs (links fs) u ≡ false = rw q refl in let z : ◌≡◌ {A = Bool} true false = sym e ∙ f in clash z
  where
    clash : ◌≡◌ {A = Bool} true false → ⊥
    clash j = let z : ◌≡◌ {A = ℕ} 0 1 = cc in omega arith

-- ---- one vertex more

gather-next : (g : ℕ → List ℕ) (n : ℕ) → gather g (count 0 (n + 1)) ≡ gather g (count 0 n) ++ g n
gather-next g n = ap (gather g) (count_next n) ∙ gather_append g (count 0 n) (n ∷ []) ∙ ap (λ (z : List ℕ). gather g (count 0 n) ++ z) (append-nil (g n))

pub length-next : (g : ℕ → List ℕ) (n : ℕ) → length (gather g (count 0 (n + 1))) ≡ length (gather g (count 0 n)) + length (g n)
length-next g n = ap (λ (z : List ℕ). length z) (gather-next g n) ∙ length-append (gather g (count 0 n)) (g n)

length_up : (g : ℕ → List ℕ) (n d : ℕ) → length (gather g (count 0 n)) ≤ length (gather g (count 0 (n + d)))
length_up g n zero = let e : n + 0 ≡ n = omega arith in rw e (omega arith)
length_up g n (suc d) = let e : n + suc d ≡ (n + d) + 1 = omega arith in rw e (omega (arith, length_up g n d, length-next g (n + d)))

pub room_next : (g : ℕ → List ℕ) (n v : ℕ) → n < v → length (gather g (count 0 n)) + length (g n) ≤ length (gather g (count 0 v))
room_next g n v h =
    let e : (n + 1) + (v - (n + 1)) ≡ v = omega arith in
    omega (arith, rw e at (length_up g (n + 1) (v - (n + 1))), length-next g n)

pub sets_more : (g : ℕ → List ℕ) (l : List ℕ) (at n : ℕ) → at ≡ length (gather g (count 0 n)) → sets (sets l 0 (gather g (count 0 n))) at (g n) ≡ sets l 0 (gather g (count 0 (n + 1)))
sets_more g l at n e = sets-next (gather g (count 0 n)) (g n) l 0 at (omega (arith, e)) ∙ ap (sets l 0) (sym (gather-next g n))

-- ---- all that pass, one after the other

pub gather-keep : {A : Type 0} (p : A → Bool) (h : A → List ℕ) (xs : List A) → gather (λ u. pick (p u) (h u) []) xs ≡ gather h (keep p xs)
gather-keep p h [] = refl
gather-keep {A} p h (x ∷ xs) = ap (λ (z : List ℕ). pick (p x) (h x) [] ++ z) (gather-keep p h xs) ∙ go (p x)
  where
    go : (b : Bool) → pick b (h x) [] ++ gather h (keep p xs) ≡ gather h (pick b (x ∷ keep p xs) (keep p xs))
    go true = refl
    go false = refl
