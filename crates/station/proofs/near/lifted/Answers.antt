use mathlib.Core.Path.{◌≡◌, refl}
use Prim.Native.Nat.{suc, ◌<◌}
use native.Mathlib.Omega.{arith}
use lib.IntN.{ℤ, pos, negsuc, ◌+ℤ◌}
use lib.Signed.{mag}
use borrow.Author.Tests.{le-ltb}
use mir.Syntax.{w32, w64}
use mir.Val.{SFits, to_z, of_z}
use mir.ValLaws.{to_z-of_z}
use Rattle.station.specs.Lift.{lift}
use Rattle.station.proofs.near.lifted.Goals as goal

small : {z : ℤ} → SFits w32 z → mag z < 2147483648
small f = f.sfits

wide : {z : ℤ} → SFits w32 z → SFits w64 z
wide f = let s = small f in record { sfits = omega arith }

plus : {z : ℤ} → SFits w32 z → z +ℤ pos 2147483648 ≡ pos (lift z)
unfolding lift
plus {z = pos n} f = refl
plus {z = negsuc n} f = let s : n < 2147483648 = small f in rw (le-ltb 2147483648 (suc n) (omega arith))

most : {z : ℤ} → SFits w32 z → lift z < 4294967296
unfolding lift
most {z = pos n} f = let s : n < 2147483648 = small f in omega arith
most {z = negsuc n} f = omega arith

sum : {z : ℤ} → SFits w32 z → to_z w64 (of_z w64 (to_z w32 (of_z w32 z))) +ℤ pos 2147483648 ≡ pos (lift z)
sum {z} f = rw (to_z-of_z w32 z f, to_z-of_z w64 z (wide f)) (plus f)

sum_fits : {z : ℤ} → SFits w32 z → SFits w64 (pos (lift z))
sum_fits f = record { sfits = omega (arith, most f) }

read-sum : {z : ℤ} → SFits w32 z → to_z w64 (of_z w64 (to_z w64 (of_z w64 (to_z w32 (of_z w32 z))) +ℤ pos 2147483648)) ≡ pos (lift z)
read-sum {z} f = rw (sum f) (to_z-of_z w64 (pos (lift z)) (sum_fits f))

pub overflow_cast-result : goal.overflow_cast-result
overflow_cast-result c = rw (to_z-of_z w32 c.args.y c.ranges.y) (wide c.ranges.y)

pub overflow_add-result : goal.overflow_add-result
overflow_add-result c = rw (sum c.ranges.y) (sum_fits c.ranges.y)

pub overflow_cast-result-2 : goal.overflow_cast-result-2
overflow_cast-result-2 c = rw (read-sum c.ranges.y) (tt, record { fits = omega (arith, most c.ranges.y) })

pub returns : goal.returns
returns c = rw (read-sum c.ranges.y) (refl, most c.ranges.y)
