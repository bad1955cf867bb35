-- Laws of numerals: one digit more, and a numeral read back.
use Prim.Native.Nat.{ℕ, zero, suc, ◌+◌, ◌*◌, ◌/◌, ◌%◌, ◌^◌, ◌≤◌, ◌<◌}
use mathlib.Core.Path.{◌≡◌, sym, ap}
use mathlib.Core.List.{List, [], ◌∷◌, ◌++◌}
use native.Mathlib.Omega.{arith}
use native.Mathlib.Nat.{pow-suc, pow-zero}
use lib.Dec.{ltb}
use borrow.Author.Tests.{lt-ltb, le-ltb}
use Rattle.lists.specs.Lists.{pick}
use Rattle.listing.specs.Text.{digit, decimal, numeral}

-- a turn more than enough changes nothing
enough : (t n : ℕ) → n < 10 ^ suc t → decimal (suc t) n ≡ decimal t n
unfolding decimal
enough zero n h = let l : n < 10 = omega (arith, pow-suc 10 0, pow-zero 10) in rw (lt-ltb n 10 l)
enough (suc t) n h =
    let e = pow-suc 10 (suc t) in
    ap (λ (m : List ℕ). pick (ltb n 10) (digit n) (m ++ digit n)) (enough t (n / 10) (omega arith))

-- one digit more
pub numeral-more : (n d : ℕ) → 0 < n → n < 10 ^ 19 → d < 10 → numeral (10 * n + d) ≡ numeral n ++ ((48 + d) ∷ [])
unfolding decimal numeral
numeral-more n d h b s =
    let q : (10 * n + d) / 10 ≡ n = omega arith in
    let r : (10 * n + d) % 10 ≡ d = omega arith in
    let w : 10 ≤ 10 * n + d = omega arith in
    rw (le-ltb (10 * n + d) 10 w, q, r) (ap (λ (m : List ℕ). m ++ ((48 + d) ∷ [])) (sym (enough 18 n b)))

pub numeral-one : (d : ℕ) → d < 10 → numeral d ≡ (48 + d) ∷ []
unfolding decimal numeral
numeral-one d h = let r : d % 10 ≡ d = omega arith in rw (lt-ltb d 10 h, r)
