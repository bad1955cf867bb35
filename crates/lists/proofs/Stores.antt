-- Laws of stores: runs of them, rows, parts and clearing.
use Prim.Native.Nat.{ℕ, zero, suc, ◌+◌, ◌-◌, ◌*◌, ◌≤◌, ◌<◌}
use mathlib.Core.Path.{◌≡◌, refl, sym, ap, ◌∙◌}
use mathlib.Core.Logic.{◌⊎◌, ⊎_elim, inl, inr}
use mathlib.Core.Bool.{Bool, true, false}
use mathlib.Core.List.{List, [], ◌∷◌, ◌++◌, append_assoc, append-nil, map, map-append}
use native.Mathlib.Omega.{arith}
use native.Mathlib.Numerals.{add-one}
use native.Mathlib.Nat.{add-zero, zero-add, mul-zero, mul-suc, mul-le-mul_left}
use lib.ListN.{length, get_or, set, take, drop, replicate, length-append, length-drop, length-replicate}
use lib.Seq.{sets, sets-eq, take-suc, length-take-le, get_or-set_other, get_or-take, get_or-drop, drop-set-lt, drop-set-add, take-set-le, take_at, take-add, drop_at, drop-drop}
use Rattle.lists.specs.Lists.{pick, bit, rows, part, cleared, count, keep, tally, gather}
use Rattle.lists.proofs.Places.{length-count, length-gather, length-keep, rank_lt, rank-le, count_next, keep-next, tally-next, gather_append}

module _ {ℓ} {A : Type ℓ} where
  pub sets-append : (xs vs l : List A) (at : ℕ) → sets (sets l at xs) (at + length xs) vs ≡ sets l at (xs ++ vs)
  sets-append [] vs l at = rw add-zero
  sets-append (x ∷ xs) vs l at =
      let e : at + suc (length xs) ≡ suc at + length xs = omega arith in
      rw e (sets-append xs vs (set l at x) (suc at))

  pub sets-next : (xs vs l : List A) (at i : ℕ) → at + length xs ≡ i → sets (sets l at xs) i vs ≡ sets l at (xs ++ vs)
  sets-next xs vs l at i e = rw (← e) (sets-append xs vs l at)

  pub length-rows : (g : ℕ → List A) (m : ℕ) → ((k : ℕ) → length (g k) ≡ m) → (n : ℕ) → length (rows g n) ≡ m * n
  unfolding rows
  length-rows g m h zero = rw mul-zero
  length-rows g m h (suc n) = simp (length-append, mul-suc, length-rows g m h n, h n)

  -- one more row
  pub sets-row : (g : ℕ → List A) (l : List A) (at n i : ℕ) → at + length (rows g n) ≡ i →
      sets (sets l at (rows g n)) i (g n) ≡ sets l at (rows g (n + 1))
  unfolding rows
  sets-row g l at n i e = rw (add-one, ← e) (sets-append (rows g n) (g n) l at)

  -- what lies before or after a run is not touched
  pub get_or-outside : (xs l : List A) (at i : ℕ) (d : A) → (i < at) ⊎ (at + length xs ≤ i) → get_or (sets l at xs) i d ≡ get_or l i d
  get_or-outside [] l at i d h = refl
  get_or-outside (x ∷ xs) l at i d h =
      get_or-outside xs (set l at x) (suc at) i d (⊎_elim (λ p. inl (omega arith)) (λ p. inr (omega arith)) h) ∙
      get_or-set_other l at i x d (λ e. ⊎_elim (λ p. omega arith) (λ p. omega arith) h)

  pub drop-after : (xs l : List A) (at k : ℕ) → at + length xs ≤ k → drop k (sets l at xs) ≡ drop k l
  drop-after [] l at k h = refl
  drop-after (x ∷ xs) l at k h = drop-after xs (set l at x) (suc at) k (omega arith) ∙ drop-set-lt k l at x (omega arith)

  -- the part that was written
  pub part_of : (xs l : List A) (at n : ℕ) → length xs ≡ n → at + n ≤ length l → part at n (sets l at xs) ≡ xs
  part_of xs l at n e h =
      let h' : at + length xs ≤ length l = omega arith in
      ap (λ (y : List A). part at n y) (sets-eq xs l at h' ∙ append_assoc (take at l) xs (drop (at + length xs) l)) ∙
      ap (take n) (drop_at (take at l) (xs ++ drop (at + length xs) l) at (length-take-le at l (omega arith))) ∙
      take_at xs (drop (at + length xs) l) n e

  pub get_d_part : (l : List A) (at n i : ℕ) (d : A) → i < n → get_or (part at n l) i d ≡ get_or l (at + i) d
  get_d_part l at n i d h = get_or-take n (drop at l) i d h ∙ get_or-drop at l i d

  pub length_part : (l : List A) (at n : ℕ) → at + n ≤ length l → length (part at n l) ≡ n
  length_part l at n h = length-take-le n (drop at l) (rw length-drop (omega arith))

  -- one entry of a copy
  pub copy_more : (l w : List A) (k : ℕ) (d : A) → k < length w → set (sets l 0 (take k w)) k (get_or w k d) ≡ sets l 0 (take (k + 1) w)
  copy_more l w k d h =
      let e : 0 + length (take k w) ≡ k = zero-add _ ∙ length-take-le k w (omega arith) in
      rw (add-one, take-suc w k d h) (rw e at (sets-append (take k w) (get_or w k d ∷ []) l 0))

  -- one entry cleared
  clear-suc : (n : ℕ) (v : A) (d : List A) → n < length d → set (replicate n v ++ drop n d) n v ≡ replicate (suc n) v ++ drop (suc n) d
  clear-suc n v [] l = absurd (omega arith)
  clear-suc zero v (x ∷ d) l = refl
  clear-suc (suc n) v (x ∷ d) l = ap (λ (t : List A). v ∷ t) (clear-suc n v d (omega arith))

  pub clear-more : (n : ℕ) (v : A) (d : List A) → n < length d → set (cleared v n d) n v ≡ cleared v (n + 1) d
  clear-more n v d l = rw add-one (clear-suc n v d l)

  pub length-cleared : (n : ℕ) (v : A) (d : List A) → n ≤ length d → length (cleared v n d) ≡ length d
  length-cleared n v d h = simp (length-append, length-replicate, length-drop) (omega arith)

  part-set : (l : List A) (at i n : ℕ) (x : A) → (i + n ≤ at) ⊎ (at < i) → part i n (set l at x) ≡ part i n l
  part-set l at i n x h =
      ⊎_elim
      (λ (p : i + n ≤ at).
      let e : at ≡ i + (at - i) = omega arith in
      rw e (ap (take n) (drop-set-add i l (at - i) x) ∙ take-set-le n (drop i l) (at - i) x (omega arith)))
      (λ (p : at < i). ap (take n) (drop-set-lt i l at x p))
      h

  -- a part before or after a run is not touched
  pub part-outside : (xs l : List A) (at i n : ℕ) → (i + n ≤ at) ⊎ (at + length xs ≤ i) → part i n (sets l at xs) ≡ part i n l
  part-outside [] l at i n h = refl
  part-outside (x ∷ xs) l at i n h =
      part-outside xs (set l at x) (suc at) i n (⊎_elim (λ p. inl (omega arith)) (λ p. inr (omega arith)) h) ∙
      part-set l at i n x (⊎_elim (λ p. inl (omega arith)) (λ p. inr (omega arith)) h)

  -- an entry of a part before or after a run, and an entry of the run
  pub get_d_beside : (xs l : List A) (at i n k : ℕ) (d : A) → k < n → (i + n ≤ at) ⊎ (at + length xs ≤ i) → get_or (sets l at xs) (i + k) d ≡ get_or (part i n l) k d
  get_d_beside xs l at i n k d h o =
      get_or-outside xs l at (i + k) d (⊎_elim (λ p. inl (omega arith)) (λ p. inr (omega arith)) o) ∙ (let e = get_d_part l i n k d h in rw e refl)

  pub get_or-within : (xs l : List A) (at k : ℕ) (d : A) → k < length xs → at + length xs ≤ length l → get_or (sets l at xs) (at + k) d ≡ get_or xs k d
  get_or-within xs l at k d h r =
      let e = get_d_part (sets l at xs) at (length xs) k d h in
      rw (← e, part_of xs l at (length xs) refl r)

-- one more entry, and one more piece, after those that stand
module _ {A B : Type 0} where
  pub sets-map : (f : A → B) (xs : List A) (x : A) (l : List B) (at i : ℕ) → at + length (map f xs) ≡ i →
      set (sets l at (map f xs)) i (f x) ≡ sets l at (map f (xs ++ (x ∷ [])))
  sets-map f xs x l at i e = rw (← e, map-append) (sets-append (map f xs) (f x ∷ []) l at)

  pub sets-gather : (g : A → List B) (xs : List A) (x : A) (l : List B) (at i : ℕ) → at + length (gather g xs) ≡ i →
      sets (sets l at (gather g xs)) i (g x) ≡ sets l at (gather g (xs ++ (x ∷ [])))
  sets-gather g xs x l at i e =
      rw (← e, gather_append g xs (x ∷ []), append-nil (g x)) (sets-append (gather g xs) (g x) l at)

module _ {ℓ} {A : Type ℓ} where
  -- one entry of a copy from `at` on
  pub copy_at : (l w : List A) (at k : ℕ) (d : A) → k < length w → set (sets l at (take k w)) (at + k) (get_or w k d) ≡ sets l at (take (k + 1) w)
  copy_at l w at k d h =
      let e : at + length (take k w) ≡ at + k = ap (λ (n : ℕ). at + n) (length-take-le k w (omega arith)) in
      rw (add-one, take-suc w k d h) (rw e at (sets-append (take k w) (get_or w k d ∷ []) l at))

-- pieces of m entries each, stored one after the other from `at` on by a loop of n turns
module _ {B : Type 0} (g : ℕ → List B) (m : ℕ) (each : (k : ℕ) → length (g k) ≡ m) (l : List B) (at n f : ℕ) (h : f < n) where
  pieces-long : length (gather g (count 0 f)) ≡ m * f
  pieces-long = length-gather g m each (count 0 f) ∙ ap (λ (z : ℕ). m * z) (length-count 0 f)

  -- what is read before or after them
  pub piece-read : (i r k : ℕ) (d : B) → k < r → (i + r ≤ at) ⊎ (at + m * n ≤ i) → get_or (sets l at (gather g (count 0 f))) (i + k) d ≡ get_or (part i r l) k d
  piece-read i r k d b o =
      let u : m * f ≤ m * n = mul-le-mul_left m (omega arith) in
      get_d_beside (gather g (count 0 f)) l at i r k d b (⊎_elim (λ p. inl p) (λ p. inr (omega (arith, pieces-long))) o)

  pub piece-more : (i : ℕ) → at + m * f ≡ i → sets (sets l at (gather g (count 0 f))) i (g f) ≡ sets l at (gather g (count 0 (f + 1)))
  piece-more i e =
      sets-gather g (count 0 f) f l at i (ap (λ (z : ℕ). at + z) pieces-long ∙ e)
      ∙ sym (ap (λ (xs : List ℕ). sets l at (gather g xs)) (count_next f))

-- the same, of the numbers that pass: turn s stores its piece only where s passes
module _ {B : Type 0} (g : ℕ → List B) (m : ℕ) (each : (k : ℕ) → length (g k) ≡ m) (p : ℕ → Bool) (l : List B) (at n s : ℕ) (h : s < n) where
  kept-long : length (gather g (keep p (count 0 s))) ≡ m * length (keep p (count 0 s))
  kept-long = length-gather g m each (keep p (count 0 s))

  kept-rank : (k : ℕ) → length (keep p (count 0 k)) ≡ tally p (count 0 k)
  kept-rank k = length-keep p (count 0 k)

  pub kept_read : (i r k : ℕ) (d : B) → k < r → (i + r ≤ at) ⊎ (at + m * length (keep p (count 0 n)) ≤ i)
      → get_or (sets l at (gather g (keep p (count 0 s)))) (i + k) d ≡ get_or (part i r l) k d
  kept_read i r k d b o =
      let u : m * length (keep p (count 0 s)) ≤ m * length (keep p (count 0 n)) = mul-le-mul_left m (omega (arith, kept-rank s, kept-rank n, rank-le p s n (omega arith))) in
      get_d_beside (gather g (keep p (count 0 s))) l at i r k d b (⊎_elim (λ q. inl q) (λ q. inr (omega (arith, kept-long))) o)

  -- there is room for one more
  pub kept-room : p s ≡ true → length (keep p (count 0 s)) < length (keep p (count 0 n))
  kept-room e = omega (arith, kept-rank s, kept-rank n, rank_lt p s n (rw e tt) h)

  pub kept_more : (i : ℕ) → p s ≡ true → at + m * length (keep p (count 0 s)) ≡ i
      → sets (sets l at (gather g (keep p (count 0 s)))) i (g s) ≡ sets l at (gather g (keep p (count 0 (s + 1))))
  kept_more i e q =
      sets-gather g (keep p (count 0 s)) s l at i (ap (λ (z : ℕ). at + z) kept-long ∙ q)
      ∙ sym (ap (λ (xs : List ℕ). sets l at (gather g xs)) (keep-next p s ∙ ap (λ (b : Bool). keep p (count 0 s) ++ pick b (s ∷ []) []) e))

  pub kept_same : p s ≡ false → keep p (count 0 (s + 1)) ≡ keep p (count 0 s)
  kept_same e = keep-next p s ∙ ap (λ (b : Bool). keep p (count 0 s) ++ pick b (s ∷ []) []) e ∙ append-nil (keep p (count 0 s))

  pub kept-count : p s ≡ true → length (keep p (count 0 (s + 1))) ≡ length (keep p (count 0 s)) + 1
  kept-count e = kept-rank (s + 1) ∙ tally-next p s ∙ omega (arith, kept-rank s, ap bit e)

-- a part in two
pub part-add : {A : Type 0} (l : List A) (at n m : ℕ) → part at (n + m) l ≡ part at n l ++ part (at + n) m l
part-add {A} l at n m = take-add n m (drop at l) ∙ ap (λ (r : List A). part at n l ++ take m r) (drop-drop n at l)
