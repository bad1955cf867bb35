-- Lists as docs/RULES.md uses them: places counted from 0, the lowest place where a test passes, how many pass, lists put together from pieces,
-- and stores at the front of a lent buffer.
use Rattle.std.specs.Prelude.{◌≡◌, ℕ, zero, suc, ◌+◌, ◌<◌, Bool, true, false, List, [], ◌∷◌, ◌++◌, take, drop, replicate}
use Rattle.std.proofs.Math.Option.{Option, none, some}

abbrev pub pick {ℓ} : {A : Type ℓ} → Bool → A → A → A
pick true a b = a
pick false a b = b

-- i, i + 1, ..: n numbers
abbrev pub count : ℕ → ℕ → List ℕ
count i zero = []
count i (suc n) = i ∷ count (suc i) n

abbrev pub later : Option ℕ → Option ℕ
later none = none
later (some i) = some (suc i)

-- the lowest place where p passes
abbrev pub find {ℓ} : {A : Type ℓ} → (A → Bool) → List A → Option ℕ
find p [] = none
find p (x ∷ xs) = let r = later (find p xs) in pick (p x) (some zero) r

-- the lowest number below n at which p passes
abbrev pub lowest : (ℕ → Bool) → ℕ → Option ℕ
lowest p n = find p (count 0 n)

abbrev pub found : Option ℕ → Bool
found none = false
found (some i) = true

-- those that pass, and how many
abbrev pub keep {ℓ} : {A : Type ℓ} → (A → Bool) → List A → List A
keep p [] = []
keep p (x ∷ xs) = let r = keep p xs in pick (p x) (x ∷ r) r

abbrev pub bit : Bool → ℕ
bit true = 1
bit false = 0

abbrev pub tally {ℓ} : {A : Type ℓ} → (A → Bool) → List A → ℕ
tally p [] = 0
tally p (x ∷ xs) = bit (p x) + tally p xs

-- the piece of each element, one after the other
abbrev pub gather {ℓ κ} : {A : Type ℓ} {B : Type κ} → (A → List B) → List A → List B
gather f [] = []
gather f (x ∷ xs) = f x ++ gather f xs

-- the last element, and d where there is none
abbrev pub last_of {ℓ} : {A : Type ℓ} → A → List A → A
last_of d [] = d
last_of d (x ∷ xs) = last_of x xs

-- ---- as loops go: g 0, then g 1, .., then g (n - 1)
unfoldable pub rows {ℓ} : {A : Type ℓ} → (ℕ → List A) → ℕ → List A
rows g zero = []
rows g (suc n) = rows g n ++ g n

-- f 0 first, f (n - 1) last
unfoldable pub turns {ℓ} : {A : Type ℓ} → (ℕ → A → A) → ℕ → A → A
turns f zero s = s
turns f (suc n) s = f n (turns f n s)

-- n entries from `at` on
abbrev pub part {ℓ} : {A : Type ℓ} → ℕ → ℕ → List A → List A
part at n l = take n (drop at l)

-- the first n entries z, the rest as it was
abbrev pub cleared {ℓ} : {A : Type ℓ} → A → ℕ → List A → List A
cleared z n l = replicate n z ++ drop n l

-- x is among the first m values of f
pub record At (f : ℕ → ℕ) (m x : ℕ) : Type 0 where
  pub place : ℕ
  pub below : place < m
  pub is : f place ≡ x
