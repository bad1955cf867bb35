-- Demand 3's measure tells a number at the bound from one past it; and the bound is met.
use mathlib.Core.Path.{◌≡◌, refl}
use native.Mathlib.Omega.{arith}
use mathlib.Core.List.{List, [], ◌∷◌}
use lib.IntN.{ℤ, pos, negsuc}
use Rattle.whole.specs.Whole.{nearest}
use Rattle.whole.specs.Fraction.{Fraction, of_whole, halves, plus, minus, times, over, size, Within}
use Rattle.whole.proofs.Reading.{is_pos, is_le, le_is}
use Rattle.rules.specs.Mesh.{links, fan, cage}
use Rattle.rules.specs.Position.{whole, exact}
use Rattle.rules.specs.Levels.{coord, last, positions, limits, moved, levels, exact_limits}
use Rattle.rules.specs.Cases.{zs, T-faces}

-- T with one coordinate other than 0: its first vertex goes to 1/2, which is cut as 1
abbrev uneven : List ℤ
uneven = zs (0 ∷ 0 ∷ 0 ∷ 3 ∷ 0 ∷ 0 ∷ 0 ∷ 0 ∷ 0 ∷ [])

abbrev goes_to : Fraction
goes_to = coord exact (exact_limits 0 T-faces uneven) 0 0

pub cut_as : coord whole (positions whole (last whole 0 T-faces uneven)) 0 0 ≡ pos 1
unfolding nearest links fan cage moved limits positions levels
cut_as = refl

-- with no level the bound is 1/2: 1 is exactly there, as is 0; 2 is not, nor is -1
pub at-the-bound : Within 1 (pos 1) goes_to × Within 1 (pos 0) goes_to
unfolding links fan cage moved limits positions levels of_whole halves plus minus times over size
at-the-bound = (record { cross = is_le (is_pos _) (is_pos _) (omega arith) }, record { cross = is_le (is_pos _) (is_pos _) (omega arith) })

pub one-farther : Within 1 (pos 2) goes_to → ⊥
unfolding links fan cage moved limits positions levels of_whole halves plus minus times over size
one-farther c = omega (arith, le_is (is_pos _) (is_pos _) c.cross)

pub one_below : Within 1 (negsuc 0) goes_to → ⊥
unfolding links fan cage moved limits positions levels of_whole halves plus minus times over size
one_below c = omega (arith, le_is (is_pos _) (is_pos _) c.cross)

-- 1/2 and a thousandth of a micrometre is past it
pub a-thousandth-past : Within 1 (pos 1) (record { num = pos 499; den = 1000; above = omega arith }) → ⊥
unfolding of_whole halves minus size
a-thousandth-past c = omega (arith, le_is (is_pos _) (is_pos _) c.cross)
