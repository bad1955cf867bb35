-- Halves and quarters on both sides of zero, rounded.
use mathlib.Core.Path.{◌≡◌, refl}
use mathlib.Core.List.{List, [], ◌∷◌, map}
use Prim.Native.Nat.{ℕ}
use lib.IntN.{ℤ, pos, negsuc}
use Rattle.whole.specs.Whole.{nearest}

pub record Case : Type 0 where
  pub num : ℤ
  pub den : ℕ
  pub wanted : ℤ

-- first "the edge of -1 and 0 becomes -1; 0 and 1 stays 1"; then those of 1 and 2, and of -3 and 0
abbrev pub cases : List Case
cases =
    record { num = pos 1; den = 2; wanted = pos 1 } ∷ record { num = negsuc 0; den = 2; wanted = negsuc 0 }
    ∷ record { num = pos 3; den = 2; wanted = pos 2 } ∷ record { num = negsuc 2; den = 2; wanted = negsuc 1 }
    ∷ record { num = pos 1; den = 4; wanted = pos 0 } ∷ record { num = negsuc 0; den = 4; wanted = pos 0 }
    ∷ record { num = pos 3; den = 4; wanted = pos 1 } ∷ record { num = negsuc 2; den = 4; wanted = negsuc 0 }
    ∷ record { num = pos 5; den = 10; wanted = pos 1 } ∷ record { num = negsuc 4; den = 10; wanted = negsuc 0 }
    ∷ record { num = pos 9; den = 6; wanted = pos 2 } ∷ record { num = negsuc 8; den = 6; wanted = negsuc 1 } ∷ []

pub all_hold : map (λ c. nearest c.num c.den) cases ≡ map (λ c. c.wanted) cases
unfolding nearest
all_hold = refl
