-- Laws of the text: a numeral is the fewest digits that hold its number, and pieces put one after the other are one piece.
use Prim.Native.Nat.{ℕ, zero, suc, ◌+◌, ◌-◌, ◌/◌, ◌%◌, ◌^◌, ◌≤◌, ◌<◌}
use mathlib.Core.Path.{◌≡◌, refl, ap₂, ◌∙◌}
use mathlib.Core.Bool.{Bool, true, false}
use mathlib.Core.List.{List, [], ◌∷◌, ◌++◌}
use native.Mathlib.Omega.{arith}
use native.Mathlib.Numerals.{add-one}
use native.Mathlib.Nat.{pow-suc, pow-zero, pow-le-pow_right, lt_irrefl, lt_of_lt_of_le, lt_trans, le_trans}
use lib.Dec.{ltb, leb, lit<}
use lib.IntN.{ℤ, pos, negsuc, ◌+ℤ◌}
use lib.Signed.{mag}
use lib.ListN.{length, length-append}
use borrow.Author.Tests.{lt-ltb, le-ltb, leb-true, leb-false}
use mir.Syntax.{w32, w64}
use mir.Val.{SFits}
use Rattle.io.specs.Digits.{last_digits, hex_digit_ascii}
use Rattle.lists.specs.Lists.{pick, rows}
use Rattle.lists.proofs.Stores.{sets-append}
use Rattle.listing.specs.Text.{digit, decimal, numeral, signed_numeral, bias, Put}

-- ---- numerals

last-digit : (n : ℕ) → hex_digit_ascii (n % 10) ∷ [] ≡ digit n
last-digit n = let h : n % 10 < 10 = omega arith in rw (lt-ltb (n % 10) 10 h)

decimal-is : (t k n : ℕ) → k ≤ t → n < 10 ^ suc k → (0 < k → 10 ^ k ≤ n) → last_digits 10 (suc k) n ≡ decimal t n
unfolding decimal
decimal-is zero zero n h b f = last-digit n
decimal-is zero (suc k) n h b f = absurd (omega arith)
decimal-is (suc t) zero n h b f =
    let l : n < 10 = omega (arith, pow-suc 10 0, pow-zero 10) in
    rw (lt-ltb n 10 l) (last-digit n)
decimal-is (suc t) (suc k) n h b f =
    let e = pow-suc 10 (suc k) in
    let g = pow-suc 10 k in
    let p : 1 ≤ 10 ^ k = pow-le-pow_right {n = 10} (lit< tt) {i = 0} {j = k} (omega arith) in
    let l : 10 ^ suc k ≤ n = f (omega arith) in
    let w : 10 ≤ n = omega arith in
    rw (le-ltb n 10 w) (ap₂ {C = List ℕ} (λ x y. x ++ y) (decimal-is t k (n / 10) (omega arith) (omega arith) (λ z. omega arith)) (last-digit n))

-- a number of 64 bits has at most 20 digits
digits-by : (t : Bool) (n k : ℕ) → leb k 20 ≡ t → (1 < k → 10 ^ (k - 1) ≤ n) → n < 2 ^ 64 → k ≤ 20
digits-by true n k e f h = leb-true k 20 e
digits-by false n k e f h =
    let l : 20 < k = leb-false k 20 e in
    let p : 10 ^ 20 ≤ 10 ^ (k - 1) = pow-le-pow_right {n = 10} (lit< tt) {i = 20} {j = k - 1} (omega arith) in
    let q : 10 ^ (k - 1) ≤ n = f (omega arith) in
    let b : 2 ^ 64 < 10 ^ 20 = lit< tt in
    absurd (lt_irrefl _ (lt_of_lt_of_le (lt_trans h b) (le_trans p q)))

pub numeral-is : (n k : ℕ) → 1 ≤ k → n < 10 ^ k → (1 < k → 10 ^ (k - 1) ≤ n) → n < 2 ^ 64 → last_digits 10 k n ≡ numeral n
unfolding numeral
numeral-is n zero l b f h = absurd (omega arith)
numeral-is n (suc k) l b f h =
    let e : suc k - 1 ≡ k = omega arith in
    decimal-is 19 k n (omega (arith, digits-by (leb (suc k) 20) n (suc k) refl f h)) b (λ z. rw e at (f (omega arith)))

decimal-few : (t n : ℕ) → length (decimal t n) ≤ suc t
unfolding decimal
decimal-few zero n = omega arith
decimal-few (suc t) n = go (ltb n 10) (decimal-few t (n / 10))
  where
    go : (b : Bool) → length (decimal t (n / 10)) ≤ suc t → length (pick b (digit n) (decimal t (n / 10) ++ digit n)) ≤ suc (suc t)
    go true h = omega arith
    go false h = simp length-append (omega arith)

pub numeral-few : (n : ℕ) → length (numeral n) ≤ 20
unfolding numeral
numeral-few n = decimal-few 19 n

pub signed-few : (z : ℤ) → length (signed_numeral z) ≤ 21
unfolding signed_numeral
signed-few (pos n) = omega (arith, numeral-few n)
signed-few (negsuc n) = omega (arith, numeral-few (suc n))

-- ---- pieces

pub put-put : {a b c p q : List ℕ} {at n m : ℕ} → Put a at p b n → Put b n q c m → Put a at (p ++ q) c m
put-put {a} {b} {c} {p} {q} {at} {n} {m} x y = record {
  text = y.text ∙ rw (x.text, x.next-is) (sets-append p q a at);
  next-is = y.next-is ∙ rw (x.next-is, length-append p q) (omega arith);
}

pub row_more : {a b c : List ℕ} {at n m : ℕ} (g : ℕ → List ℕ) (k : ℕ) → Put a at (rows g k) b n → Put b n (g k) c m → Put a at (rows g (k + 1)) c m
unfolding rows
row_more g k x y = rw add-one (put-put x y)

-- ---- signs

small : (z : ℤ) → SFits w32 z → mag z < 2147483648
small z h = h.sfits

pub wide-64 : (z : ℤ) → SFits w32 z → SFits w64 z
wide-64 z h = record { sfits = omega (arith, small z h) }

pub bias-add : (z : ℤ) → SFits w32 z → z +ℤ pos 2147483648 ≡ pos (bias z)
bias-add (pos n) h = refl
bias-add (negsuc n) h = rw (le-ltb 2147483648 (suc n) (small (negsuc n) h))

pub bias-lt : (z : ℤ) → SFits w32 z → bias z < 4294967296
bias-lt (pos n) h = omega (arith, small (pos n) h)
bias-lt (negsuc n) h = omega arith

pub negative : (z : ℤ) → SFits w32 z → bias z < 2147483648 → signed_numeral z ≡ 45 ∷ numeral (2147483648 - bias z)
unfolding signed_numeral
negative (pos n) h l = absurd (omega arith)
negative (negsuc n) h l = let e : 2147483648 - (2147483648 - suc n) ≡ suc n = omega (arith, small (negsuc n) h) in rw e

pub positive : (z : ℤ) → 2147483648 ≤ bias z → signed_numeral z ≡ numeral (bias z - 2147483648)
unfolding signed_numeral
positive (pos n) l = let e : n + 2147483648 - 2147483648 ≡ n = omega arith in rw e
positive (negsuc n) l = absurd (omega arith)
