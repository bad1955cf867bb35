-- The arithmetic of the two round trips.
use Prim.Native.Nat.{ℕ, ◌+◌, ◌-◌, ◌*◌, ◌/◌, ◌%◌, ◌≤◌, ◌<◌}
use mathlib.Core.Path.{◌≡◌, refl}
use mathlib.Core.Bool.{Bool, true, false}
use mathlib.Core.List.{List, [], ◌∷◌, ◌++◌}
use native.Mathlib.Omega.{arith}
use lib.Dec.{ltb}
use lib.IntN.{ℤ, pos, negsuc, nat_abs}
use borrow.Author.Tests.{lt-ltb, le-ltb}
use Rattle.lists.specs.Lists.{pick}
use Rattle.rules.specs.Sheets.{word_at, signed, bytes_of, unsigned}

-- four bytes are one number
pub word_back : (w : ℕ) (more : List ℕ) → w < 4294967296 → word_at (bytes_of w ++ more) 0 ≡ w
word_back w more h =
    let a : w / 256 ≡ 256 * (w / 65536) + w / 256 % 256 = omega arith in
    let b : w / 65536 ≡ 256 * (w / 16777216) + w / 65536 % 256 = omega arith in
    let c : w / 16777216 % 256 ≡ w / 16777216 = omega arith in
    omega arith

-- and one number four bytes
pub bytes_back : (a b c d : ℕ) → a < 256 → b < 256 → c < 256 → d < 256 → bytes_of (a + 256 * b + 65536 * c + 16777216 * d) ≡ a ∷ b ∷ c ∷ d ∷ []
bytes_back a b c d p q r s =
    let w = a + 256 * b + 65536 * c + 16777216 * d in
    let e : w % 256 ≡ a = omega arith in
    let x : w / 256 ≡ b + 256 * c + 65536 * d = omega arith in
    let y : w / 65536 ≡ c + 256 * d = omega arith in
    let z : w / 16777216 ≡ d = omega arith in
    let f : w / 256 % 256 ≡ b = rw x (omega arith) in
    let g : w / 65536 % 256 ≡ c = rw y (omega arith) in
    let h : w / 16777216 % 256 ≡ d = rw z (omega arith) in
    simp (e, f, g, h)

pub signed_back : (z : ℤ) → nat_abs z ≤ 1000000000 → signed (unsigned z) ≡ z
signed_back (pos n) h = rw (lt-ltb n 2147483648 (omega arith))
signed_back (negsuc n) h =
    let e : 4294967295 - (4294967295 - n) ≡ n = omega arith in
    rw (le-ltb (4294967295 - n) 2147483648 (omega arith), e)

pub unsigned_back : (w : ℕ) → w < 4294967296 → unsigned (signed w) ≡ w
unsigned_back w h = go (ltb w 2147483648) refl
  where
    go : (t : Bool) → ltb w 2147483648 ≡ t → unsigned (pick t (pos w) (negsuc (4294967295 - w))) ≡ w
    go true e = refl
    go false e = omega arith
