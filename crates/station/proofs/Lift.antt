-- What the code works out for a sender's number is the tolerance that it needs.
use mathlib.Core.Path.{◌≡◌, refl, sym, ap, ◌∙◌}
use Prim.Native.Nat.{ℕ, ◌+◌, ◌-◌, ◌*◌, ◌<◌}
use native.Mathlib.Omega.{arith}
use mathlib.Core.Bool.{Bool, true, false}
use lib.Dec.{ltb, ltb→lt, nltb→le}
use lib.IntN.{ℤ, pos, negsuc}
use lib.Signed.{mag}
use Rattle.lists.specs.Lists.{pick}
use Rattle.whole.specs.Whole.{reach}
use Rattle.whole.specs.Fraction.{Fraction}
use Rattle.whole.proofs.Reading.{Is}
use Rattle.station.specs.Acceptance.{needs}
use Rattle.station.specs.Lift.{lift, between, need_over}
use Rattle.station.proofs.Needs.{up-over, needs-over}
use Rattle.station.specs.Far.{Over}

lift-is : (y : ℤ) → mag y < 2147483648 → Is y (lift y) 2147483648
unfolding lift
lift-is (pos n) h = record { same = omega arith }
lift-is (negsuc n) h = let k : n < 2147483648 = h in record { same = omega arith }

between_is : (a b : ℕ) → between a b ≡ (a - b) + (b - a)
between_is a b = go (ltb a b) refl
  where
    go : (t : Bool) → ltb a b ≡ t → pick t (b - a) (a - b) ≡ (a - b) + (b - a)
    go true e = let l = ltb→lt a b (rw e tt) in omega arith
    go false e = let l = nltb→le a b (rw e tt) in omega arith

-- the same apart where both are moved alike
shift : (a b x y k : ℕ) → x ≡ a + k → y ≡ b + k → (a - b) + (b - a) ≡ (x - y) + (y - x)
shift a b x y k p q = omega arith

pub need-is : (D N : ℕ) (y : ℤ) (e : Fraction) → 0 < D → mag y < 2147483648 → Over D N e → need_over (lift y) N D ≡ needs y e
need-is D N y e h f o =
    ap (λ (x : ℕ). up-over x D) (between_is (lift y * D) (N + 1147483648 * D) ∙ shift (lift y * D) (N + 1147483648 * D) (lift y * D + D * reach) (2147483648 * D + N) (D * reach) refl (omega arith))
    ∙ sym (needs-over D N (D * reach) (lift y) 2147483648 y e h (lift-is y f) o.val)
