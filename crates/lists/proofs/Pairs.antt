-- Two lists whose elements are related one by one.
use mathlib.Core.Path.{◌≡◌, refl, ap}
use Prim.Native.Nat.{ℕ, zero, suc, ◌<◌, suc-le-suc, zero-le}
use native.Mathlib.Omega.{arith}
use mathlib.Core.List.{List, [], ◌∷◌, ◌++◌, map}
use lib.ListN.{length, get_or}
use Rattle.lists.specs.Lists.{gather}

pub data Pairs {A B : Type 0} (R : A → B → Type 0) : List A → List B → Type 0 where
  nil : Pairs R [] []
  cons : {x : A} {y : B} {xs : List A} {ys : List B} → R x y → Pairs R xs ys → Pairs R (x ∷ xs) (y ∷ ys)

module _ {A B : Type 0} (R : A → B → Type 0) where
  pub pairs-at : {xs : List A} {ys : List B} (d : A) (e : B) → R d e → Pairs R xs ys → (i : ℕ) → R (get_or xs i d) (get_or ys i e)
  pairs-at d e r nil i = r
  pairs-at d e r (cons h p) zero = h
  pairs-at d e r (cons h p) (suc i) = pairs-at d e r p i

  pub pairs_of : (d : A) (e : B) (xs : List A) (ys : List B) → length xs ≡ length ys → ((i : ℕ) → i < length xs → R (get_or xs i d) (get_or ys i e)) → Pairs R xs ys
  pairs_of d e [] [] q h = nil
  pairs_of d e [] (y ∷ ys) q h = absurd (omega arith)
  pairs_of d e (x ∷ xs) [] q h = absurd (omega arith)
  pairs_of d e (x ∷ xs) (y ∷ ys) q h = cons (h 0 (suc-le-suc zero-le)) (pairs_of d e xs ys (omega arith) (λ i k. h (suc i) (suc-le-suc k)))

  pub pairs-length : {xs : List A} {ys : List B} → Pairs R xs ys → length xs ≡ length ys
  pairs-length nil = refl
  pairs-length (cons h p) = ap suc (pairs-length p)

  pub pairs-append : {xs us : List A} {ys vs : List B} → Pairs R xs ys → Pairs R us vs → Pairs R (xs ++ us) (ys ++ vs)
  pairs-append nil q = q
  pairs-append (cons h p) q = cons h (pairs-append p q)

  pub pairs-map : {C : Type 0} (f : C → A) (g : C → B) → ((x : C) → R (f x) (g x)) → (l : List C) → Pairs R (map f l) (map g l)
  pairs-map f g h [] = nil
  pairs-map f g h (x ∷ l) = cons (h x) (pairs-map f g h l)

  pub pairs-gather : {C : Type 0} (f : C → List A) (g : C → List B) → ((x : C) → Pairs R (f x) (g x)) → (l : List C) → Pairs R (gather f l) (gather g l)
  pairs-gather f g h [] = nil
  pairs-gather f g h (x ∷ l) = pairs-append (h x) (pairs-gather f g h l)
