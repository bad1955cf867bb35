-- Laws of places, searches, pieces and ranks.
use mathlib.Core.Path.{◌≡◌, refl, sym, ap, ap₂, ◌∙◌}
use Prim.Native.Nat.{ℕ, zero, suc, ◌+◌, ◌-◌, ◌*◌, ◌≤◌, ◌<◌, min, max, zero-le, suc-le-suc}
use native.Mathlib.Nat.{add-zero, zero-add, add-suc, le_of_suc-le-suc, not-suc-le-zero, mul-zero, mul-suc}
use native.Mathlib.Numerals.{add-one}
use native.Mathlib.Omega.{arith}
use native.Mathlib.Decide.{dec_lt}
use mathlib.Core.Bool.{Bool, true, false, not}
use mathlib.Core.List.{List, [], ◌∷◌, ◌++◌, map, map-append, append_assoc}
use mathlib.Core.Option.{Option, none, some}
use lib.Dec.{T, T_not, leb, leb→le, nleb→lt}
use lib.ListN.{length, get_or, length-append, get_or-append}
use lib.Seq.{get_or-append-add}
use Rattle.lists.specs.Lists.{pick, bit, count, later, find, lowest, found, keep, tally, gather, last_of}

pub length-count : (i n : ℕ) → length (count i n) ≡ n
length-count i zero = refl
length-count i (suc n) = ap suc (length-count (suc i) n)

pub get_or-count : (i n k d : ℕ) → k < n → get_or (count i n) k d ≡ i + k
get_or-count i zero k d h = absurd (not-suc-le-zero h)
get_or-count i (suc n) zero d h = sym (add-zero i)
get_or-count i (suc n) (suc k) d h = get_or-count (suc i) n k d (le_of_suc-le-suc h) ∙ omega arith

module _ {A B : Type 0} (f : A → B) where
  pub get_d_map : (l : List A) (n : ℕ) (d : A) (e : B) → n < length l → get_or (map f l) n e ≡ f (get_or l n d)
  get_d_map [] n d e h = absurd (not-suc-le-zero h)
  get_d_map (x ∷ xs) zero d e h = refl
  get_d_map (x ∷ xs) (suc n) d e h = get_d_map xs n d e (le_of_suc-le-suc h)

-- what is found at a place: the test passes there, and at no place before
pub record Found {A : Type 0} (p : A → Bool) (l : List A) (d : A) (i : ℕ) : Type 0 where
  pub below : i < length l
  pub passes : T (p (get_or l i d))
  pub before : (j : ℕ) → j < i → T (not (p (get_or l j d)))

-- what `find` says, with what it means
pub data Look {A : Type 0} (p : A → Bool) (l : List A) (d : A) : Option ℕ → Type 0 where
  nowhere : ((j : ℕ) → j < length l → T (not (p (get_or l j d)))) → Look p l d none
  there : (i : ℕ) → Found p l d i → Look p l d (some i)

module _ {A : Type 0} (p : A → Bool) (d : A) where
  here : (x : A) (xs : List A) → p x ≡ true → Found p (x ∷ xs) d 0
  here x xs e = record { below = suc-le-suc zero-le; passes = rw e tt; before = λ j h. absurd (not-suc-le-zero h) }

  none_before : (x : A) (xs : List A) (n : ℕ) → p x ≡ false → ((j : ℕ) → j < n → T (not (p (get_or xs j d)))) → (j : ℕ) → j < suc n → T (not (p (get_or (x ∷ xs) j d)))
  none_before x xs n e b zero h = rw e tt
  none_before x xs n e b (suc j) h = b j (le_of_suc-le-suc h)

  look-step : (x : A) (xs : List A) (b : Bool) → p x ≡ b → (o : Option ℕ) → Look p xs d o → Look p (x ∷ xs) d (pick b (some zero) (later o))
  look-step x xs true e o w = there 0 (here x xs e)
  look-step x xs false e o (nowhere n) = nowhere (none_before x xs (length xs) e n)
  look-step x xs false e o (there i f) =
      there (suc i) (record { below = suc-le-suc f.below; passes = f.passes; before = none_before x xs i e f.before })

  pub look : (l : List A) → Look p l d (find p l)
  look [] = nowhere (λ j h. absurd (not-suc-le-zero h))
  look (x ∷ xs) = look-step x xs (p x) refl (find p xs) (look xs)

  at_none : (l : List A) (o : Option ℕ) → Look p l d o → o ≡ none → (j : ℕ) → j < length l → T (not (p (get_or l j d)))
  at_none l o (nowhere n) e = n
  at_none l o (there i f) e = absurd (let z : ◌≡◌ {A = ℕ} 0 1 = cc in omega arith)

  at_some : (l : List A) (o : Option ℕ) → Look p l d o → (i : ℕ) → o ≡ some i → Found p l d i
  at_some l o (nowhere n) i e = absurd (let z : ◌≡◌ {A = ℕ} 0 1 = cc in omega arith)
  at_some l o (there k f) i e = let k≡i : k ≡ i = cc in rw k≡i at f

  pub find_none : (l : List A) → find p l ≡ none → (j : ℕ) → j < length l → T (not (p (get_or l j d)))
  find_none l e = at_none l (find p l) (look l) e

  pub find-some : (l : List A) (i : ℕ) → find p l ≡ some i → Found p l d i
  find-some l i e = at_some l (find p l) (look l) i e

  -- there is one place at most that is first
  pub one-first : (l : List A) (i k : ℕ) → Found p l d i → Found p l d k → i ≡ k
  one-first l i k f g =
      let a : ¬ (i < k) = λ h. T_not (p (get_or l i d)) (g.before i h) f.passes in
      let b : ¬ (k < i) = λ h. T_not (p (get_or l k d)) (f.before k h) g.passes in
      omega arith

  is-there : (l : List A) (o : Option ℕ) → Look p l d o → (i : ℕ) → Found p l d i → o ≡ some i
  is-there l o (nowhere n) i f = absurd (T_not (p (get_or l i d)) (n i f.below) f.passes)
  is-there l o (there k g) i f = ap some (one-first l k i g f)

  pub find-is : (l : List A) (i : ℕ) → Found p l d i → find p l ≡ some i
  find-is l i f = is-there l (find p l) (look l) i f

-- ---- lists put together from pieces of one length

module _ {A B : Type 0} (f : A → List B) (n : ℕ) (each : (a : A) → length (f a) ≡ n) where
  pub length-gather : (l : List A) → length (gather f l) ≡ n * length l
  length-gather [] = sym (mul-zero n)
  length-gather (x ∷ xs) = length-append (f x) (gather f xs) ∙ omega (arith, each x, length-gather xs, mul-suc n (length xs))

  pub get_or-gather : (l : List A) (k j : ℕ) (d : A) (e : B) → k < length l → j < n → get_or (gather f l) (n * k + j) e ≡ get_or (f (get_or l k d)) j e
  get_or-gather [] k j d e h h2 = absurd (not-suc-le-zero h)
  get_or-gather (x ∷ xs) zero j d e h h2 =
      let i : n * 0 + j ≡ j = omega (arith, mul-zero n) in
      let b : j < length (f x) = omega (arith, each x) in
      rw i (get_or-append (f x) (gather f xs) e j b)
  get_or-gather (x ∷ xs) (suc k) j d e h h2 =
      let i : n * suc k + j ≡ length (f x) + (n * k + j) = omega (arith, each x, mul-suc n k) in
      rw i (get_or-append-add (f x) (gather f xs) (n * k + j) e ∙ get_or-gather xs k j d e (le_of_suc-le-suc h) h2)

-- ---- how many numbers below a pass

bit-yes : (b : Bool) → T b → bit b ≡ 1
bit-yes true t = refl
bit-yes false t = absurd t

module _ (p : ℕ → Bool) where
  tally-last : (i n : ℕ) → tally p (count i (suc n)) ≡ tally p (count i n) + bit (p (i + n))
  tally-last i zero = rw (add-zero i) (omega arith)
  tally-last i (suc n) =
      let e : suc i + n ≡ i + suc n = omega arith in
      let r = rw e at (tally-last (suc i) n) in
      omega (arith, r)

  pub rank-suc : (n : ℕ) → tally p (count 0 (suc n)) ≡ tally p (count 0 n) + bit (p n)
  rank-suc n = rw (zero-add n) at (tally-last 0 n)

  rank-more : (a k : ℕ) → T (p a) → tally p (count 0 a) < tally p (count 0 (a + suc k))
  rank-more a zero t = rw (add-suc a 0, add-zero a, rank-suc a, bit-yes (p a) t) (omega arith)
  rank-more a (suc k) t = rw (add-suc a (suc k), rank-suc (a + suc k)) (omega (arith, rank-more a k t))

  pub rank_lt : (a b : ℕ) → T (p a) → a < b → tally p (count 0 a) < tally p (count 0 b)
  rank_lt a b t h =
      let e : a + suc (b - suc a) ≡ b = omega arith in
      rw e at (rank-more a (b - suc a) t)

  pub rank-inj : (a b : ℕ) → T (p a) → T (p b) → tally p (count 0 a) ≡ tally p (count 0 b) → a ≡ b
  rank-inj a b ta tb e =
      let x : ¬ (a < b) = λ h. omega (arith, rank_lt a b ta h) in
      let y : ¬ (b < a) = λ h. omega (arith, rank_lt b a tb h) in
      omega arith

module _ {A : Type 0} (p : A → Bool) where
  keep-step : (x : A) (r : List A) (b : Bool) → length (pick b (x ∷ r) r) ≡ bit b + length r
  keep-step x r true = omega arith
  keep-step x r false = omega arith

  pub length-keep : (l : List A) → length (keep p l) ≡ tally p l
  length-keep [] = refl
  length-keep (x ∷ xs) = keep-step x (keep p xs) (p x) ∙ ap (λ (k : ℕ). bit (p x) + k) (length-keep xs)

-- those that pass, one more number on
pub keep-suc : (p : ℕ → Bool) (i n : ℕ) → keep p (count i (suc n)) ≡ keep p (count i n) ++ pick (p (i + n)) ((i + n) ∷ []) []
keep-suc p i zero = let e : i + 0 ≡ i = omega arith in rw e refl
keep-suc p i (suc n) =
    let e : suc i + n ≡ i + suc n = omega arith in
    go (p i) (rw e at (keep-suc p (suc i) n))
  where
    go : (b : Bool) → keep p (count (suc i) (suc n)) ≡ keep p (count (suc i) n) ++ pick (p (i + suc n)) ((i + suc n) ∷ []) []
        → pick b (i ∷ keep p (count (suc i) (suc n))) (keep p (count (suc i) (suc n))) ≡ pick b (i ∷ keep p (count (suc i) n)) (keep p (count (suc i) n)) ++ pick (p (i + suc n)) ((i + suc n) ∷ []) []
    go true q = ap {B = List ℕ} (λ l. i ∷ l) q
    go false q = q

-- ---- the last of a list

last_cons : (d x : ℕ) (cs : List ℕ) → last_of d (x ∷ cs) ≡ get_or (x ∷ cs) (length cs) 0
last_cons d x [] = refl
last_cons d x (y ∷ ys) = last_cons x y ys

pub last-at : (d : ℕ) (cs : List ℕ) → 0 < length cs → last_of d cs ≡ get_or cs (length cs - 1) 0
last-at d [] h = absurd (not-suc-le-zero h)
last-at d (x ∷ cs) h = let e : suc (length cs) - 1 ≡ length cs = omega arith in rw e (last_cons d x cs)

pub last-map : (f : ℕ → ℕ) (d e : ℕ) (cs : List ℕ) → 0 < length cs → last_of d (map f cs) ≡ f (last_of e cs)
last-map f d e [] h = absurd (not-suc-le-zero h)
last-map f d e (x ∷ cs) h = go x cs
  where
    go : (y : ℕ) (l : List ℕ) → last_of (f y) (map f l) ≡ f (last_of y l)
    go y [] = refl
    go y (z ∷ l) = go z l

-- ---- two numbers, the lower first

pub either_way : (f : ℕ → ℕ) (a b : ℕ) → f (min a b) + f (max a b) ≡ f a + f b
either_way f a b = go (leb a b) refl
  where
    go : (t : Bool) → leb a b ≡ t → f (min a b) + f (max a b) ≡ f a + f b
    go true e =
        let l : a ≤ b = leb→le a b (rw e tt) in
        let x : min a b ≡ a = omega arith in
        let y : max a b ≡ b = omega arith in
        rw (x, y)
    go false e =
        let l : b < a = nleb→lt a b (rw e tt) in
        let x : min a b ≡ b = omega arith in
        let y : max a b ≡ a = omega arith in
        rw (x, y) (omega arith)

-- ---- a list mapped twice

pub map-as : (f h r : ℕ → ℕ) (cs : List ℕ) → ((k : ℕ) → k < length cs → f (r (get_or cs k 0)) ≡ h (get_or cs k 0)) → map f (map r cs) ≡ map h cs
map-as f h r [] e = refl
map-as f h r (x ∷ cs) e = ap₂ {C = List ℕ} (λ y ys. y ∷ ys) (e 0 (suc-le-suc zero-le)) (map-as f h r cs (λ k l. e (suc k) (suc-le-suc l)))

-- ---- the lowest number that passes

-- at every number below n the test fails
pub lowest-none : (p : ℕ → Bool) (n : ℕ) → lowest p n ≡ none → (i : ℕ) → i < n → T (not (p i))
lowest-none p n e i h =
    let r = find_none p 0 (count 0 n) e i (rw (length-count 0 n) h) in
    let q : get_or (count 0 n) i 0 ≡ i = get_or-count 0 n i 0 h ∙ omega arith in
    rw q at r

pub lowest-all : (p : ℕ → Bool) (n : ℕ) → ((i : ℕ) → i < n → T (not (p i))) → lowest p n ≡ none
lowest-all p n h = go (lowest p n) (look p 0 (count 0 n))
  where
    go : (o : Option ℕ) → Look p (count 0 n) 0 o → o ≡ none
    go _ (nowhere k) = refl
    go _ (there i f) =
        let b : i < n = rw (length-count 0 n) at f.below in
        let q : get_or (count 0 n) i 0 ≡ i = get_or-count 0 n i 0 b ∙ omega arith in
        absurd (T_not (p i) (h i b) (rw q at f.passes))

-- at i it passes, and at no number before
pub lowest-is : (p : ℕ → Bool) (n i : ℕ) → i < n → T (p i) → ((j : ℕ) → j < i → T (not (p j))) → lowest p n ≡ some i
lowest-is p n i h t b =
    find-is p 0 (count 0 n) i (record {
      below = rw (length-count 0 n) h;
      passes = rw (at i h) t;
      before = λ j k. rw (at j (omega arith)) (b j k);
    })
  where
    at : (j : ℕ) → j < n → get_or (count 0 n) j 0 ≡ j
    at j k = get_or-count 0 n j 0 k ∙ omega arith

-- tests that agree at every number have one lowest place
find-from : (p q : ℕ → Bool) (i n : ℕ) → ((k : ℕ) → i ≤ k → k < i + n → p k ≡ q k) → find p (count i n) ≡ find q (count i n)
find-from p q i zero h = refl
find-from p q i (suc n) h =
    ap₂ (λ (b : Bool) (o : Option ℕ). pick b (some 0) (later o)) (h i (omega arith) (omega arith)) (find-from p q (suc i) n (λ k l m. h k (omega arith) (omega arith)))

pub lowest-same : (p q : ℕ → Bool) (n : ℕ) → ((k : ℕ) → k < n → p k ≡ q k) → lowest p n ≡ lowest q n
lowest-same p q n h = find-from p q 0 n (λ k l m. h k (omega arith))

pub not_found : (o : Option ℕ) → T (not (found o)) → o ≡ none
not_found none t = refl
not_found (some i) t = absurd t

-- ---- what a choice implies: the case that cannot be was passed by

pub skip : {A : Type 0} (b : Bool) {x y z : A} → (x ≡ z → ⊥) → pick b x y ≡ z → (b ≡ false) × (y ≡ z)
skip true n p = absurd (n p)
skip false n p = (refl, p)

pub taken : {A : Type 0} (b : Bool) {x y z : A} → (y ≡ z → ⊥) → pick b x y ≡ z → (b ≡ true) × (x ≡ z)
taken true n p = (refl, p)
taken false n p = absurd (n p)

-- ---- one more at the end

pub count-suc : (i n : ℕ) → count i (suc n) ≡ count i n ++ ((i + n) ∷ [])
count-suc i zero = let e : i + 0 ≡ i = omega arith in rw e refl
count-suc i (suc n) =
    let e : suc i + n ≡ i + suc n = omega arith in
    ap {B = List ℕ} (λ l. i ∷ l) (rw e at (count-suc (suc i) n))

pub count_next : (n : ℕ) → count 0 (n + 1) ≡ count 0 n ++ (n ∷ [])
count_next n = ap (count 0) (add-one n) ∙ count-suc 0 n ∙ ap (λ (z : ℕ). count 0 n ++ (z ∷ [])) (zero-add n)

pub keep-next : (p : ℕ → Bool) (n : ℕ) → keep p (count 0 (n + 1)) ≡ keep p (count 0 n) ++ pick (p n) (n ∷ []) []
keep-next p n = ap (λ (z : ℕ). keep p (count 0 z)) (add-one n) ∙ keep-suc p 0 n ∙ ap (λ (z : ℕ). keep p (count 0 n) ++ pick (p z) (z ∷ []) []) (zero-add n)

pub tally-next : (p : ℕ → Bool) (n : ℕ) → tally p (count 0 (n + 1)) ≡ tally p (count 0 n) + bit (p n)
tally-next p n = ap (λ (z : ℕ). tally p (count 0 z)) (add-one n) ∙ rank-suc p n

bit_below : (b : Bool) → bit b ≤ 1
bit_below true = omega arith
bit_below false = omega arith

pub tally-below : (p : ℕ → Bool) (n : ℕ) → tally p (count 0 n) ≤ n
tally-below p zero = omega arith
tally-below p (suc n) = rw (rank-suc p n) (omega (arith, tally-below p n, bit_below (p n)))

pub rank-le : (p : ℕ → Bool) (a b : ℕ) → a ≤ b → tally p (count 0 a) ≤ tally p (count 0 b)
rank-le p a zero h = let e : a ≡ 0 = omega arith in rw e (omega arith)
rank-le p a (suc b) h = rw (rank-suc p b) (go (λ l. rank-le p a b l) (dec_lt b a))
  where
    go : (a ≤ b → tally p (count 0 a) ≤ tally p (count 0 b)) → Dec (b < a) → tally p (count 0 a) ≤ tally p (count 0 b) + bit (p b)
    go r (yes l) = let e : a ≡ suc b = omega arith in rw (e, rank-suc p b) (omega arith)
    go r (no l) = omega (arith, r (omega arith))

pub gather-one : {A B : Type 0} (f : A → B) (l : List A) → gather (λ x. f x ∷ []) l ≡ map f l
gather-one f [] = refl
gather-one {B} f (x ∷ l) = ap {B = List B} (λ r. f x ∷ r) (gather-one f l)

pub gather_append : {A B : Type 0} (f : A → List B) (a b : List A) → gather f (a ++ b) ≡ gather f a ++ gather f b
gather_append f [] b = refl
gather_append {B} f (x ∷ a) b = ap (λ (l : List B). f x ++ l) (gather_append f a b) ∙ sym (append_assoc (f x) (gather f a) (gather f b))

-- pieces that are the same at every number of a count
gather-from : {B : Type 0} (f g : ℕ → List B) (i n : ℕ) → ((k : ℕ) → i ≤ k → k < i + n → f k ≡ g k) → gather f (count i n) ≡ gather g (count i n)
gather-from f g i zero h = refl
gather-from {B} f g i (suc n) h = ap₂ {C = List B} (λ a b. a ++ b) (h i (omega arith) (omega arith)) (gather-from f g (suc i) n (λ k l m. h k (omega arith) (omega arith)))

pub gather-same : {B : Type 0} (f g : ℕ → List B) (n : ℕ) → ((k : ℕ) → k < n → f k ≡ g k) → gather f (count 0 n) ≡ gather g (count 0 n)
gather-same f g n h = gather-from f g 0 n (λ k l m. h k (omega arith))

pub map-gather : {A B C : Type 0} (h : B → C) (f : A → List B) (l : List A) → map h (gather f l) ≡ gather (λ x. map h (f x)) l
map-gather h f [] = refl
map-gather {C} h f (x ∷ l) = map-append h (f x) (gather f l) ∙ ap (λ (r : List C). map h (f x) ++ r) (map-gather h f l)

-- an entry that is there, whatever stands past the end
pub get_d_any : {A : Type 0} (l : List A) (i : ℕ) (d e : A) → i < length l → get_or l i d ≡ get_or l i e
get_d_any [] i d e h = absurd (not-suc-le-zero h)
get_d_any (x ∷ l) zero d e h = refl
get_d_any (x ∷ l) (suc i) d e h = get_d_any l i d e (le_of_suc-le-suc h)

pub map-map : {A B C : Type 0} (f : A → B) (g : B → C) (l : List A) → map g (map f l) ≡ map (λ x. g (f x)) l
map-map f g [] = refl
map-map {C} f g (x ∷ l) = ap (λ (r : List C). g (f x) ∷ r) (map-map f g l)
