-- Where a byte leads, test by test as the code makes them.
use Prim.Native.Nat.{ℕ, ◌+◌, ◌-◌, ◌*◌, ◌≤◌, ◌<◌}
use mathlib.Core.Path.{◌≡◌, refl}
use Rattle.std.proofs.Common.{None, Some}
use mathlib.Core.Bool.{Bool, true, false, ◌&&◌}
use native.Mathlib.Omega.{arith}
use lib.Dec.{ltb, leb}
use borrow.Author.Tests.{ltb-true, leb-true}
use Rattle.lists.specs.Lists.{pick}
use Rattle.spots.specs.Spots.{is_digit, grows}
use Rattle.spots.specs.declared.Spot.{Spot}

-- ---- tests
pub both : (a b : Bool) → (a && b) ≡ true → (a ≡ true) × (b ≡ true)
both true b e = (refl, e)
both false b e = absurd (let z : ◌≡◌ {A = ℕ} 0 1 = cc in omega arith)

pub record Digit (n c most : ℕ) : Type 0 where
  pub low : 48 ≤ c
  pub high : c ≤ 57
  pub above : 0 < n
  pub within : 10 * n + (c - 48) ≤ most

pub digit-of : (n c most : ℕ) → grows n c most ≡ true → Digit n c most
digit-of n c most e =
    let p = both (is_digit c && ltb 0 n) (leb (10 * n + (c - 48)) most) e in
    let q = both (is_digit c) (ltb 0 n) p.0 in
    let r = both (leb 48 c) (leb c 57) q.0 in
    record { low = leb-true 48 c r.0; high = leb-true c 57 r.1; above = ltb-true 0 n q.1; within = leb-true _ most p.1 }

-- ---- a digit more

module _ (n c most : ℕ) where
  pub grown-some : (m : ℕ) → Some m ≡ pick (grows n c most) (Some (10 * n + (c - 48))) None → (grows n c most ≡ true) × (m ≡ 10 * n + (c - 48))
  grown-some m e = go (grows n c most) e
    where
      go : (t : Bool) → Some m ≡ pick t (Some (10 * n + (c - 48))) None → (t ≡ true) × (m ≡ 10 * n + (c - 48))
      go true e = (refl, cc)
      go false e = cc

-- ---- a number so far: it ends, goes on, or is stuck

pub chosen : (a b : Bool) (r x y z : Spot) → (a ≡ true → r ≡ x) → (a ≡ false → b ≡ true → r ≡ y) → (a ≡ false → b ≡ false → r ≡ z) → r ≡ pick a x (pick b y z)
chosen true b r x y z f g h = f refl
chosen false true r x y z f g h = g refl refl
chosen false false r x y z f g h = h refl refl
