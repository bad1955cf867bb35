use mathlib.Core.Bool.{Bool, true, false, ◌&&◌}
use mathlib.Core.Path.{◌≡◌, refl}
use lib.Ieee.{binary32, of_bits, of_int, le}
use Rattle.rules.specs.Position.{farthest}
use Rattle.rules.proofs.numbers.F32Number.allowed.Goals as goal

bound : of_bits binary32 1400897536 ≡ farthest
unfolding of_bits of_int
bound = refl

and_left : (a b : Bool) → a ≡ false → a ≡ (a && b)
and_left true b e = cc
and_left false b e = refl

pub returns-then-self : goal.returns-then-self
returns-then-self c = let t : le c.args.self farthest ≡ true = rw bound at c.if-self.true in rw (bound, t)

pub returns-else-self : goal.returns-else-self
returns-else-self c = rw bound (and_left _ _ (rw bound at c.if-self.false))
