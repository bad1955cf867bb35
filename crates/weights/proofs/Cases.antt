-- f32 weights as they come out step by step, each operation rounded.
use mathlib.Core.Path.{◌≡◌, refl}
use mathlib.Core.List.{List, [], ◌∷◌, map}
use Prim.Native.Nat.{ℕ}
use lib.Ieee.{Float, binary32, add, sub, mul, div, of_int, to_bits}
use Rattle.rules.specs.Position.{limit, rim_rule, weight, beta, loop_gamma, own_weight}

pub record Case : Type 0 where
  pub b : Float
  pub ring : ℕ
  pub wanted : ℕ

-- at the limit of valence 3 it is not 3ECCCCCD, the nearest f32 to 2/5
abbrev pub cases : List Case
cases = record { b = loop_gamma 3; ring = 3; wanted = 0x3ecc_cccc } ∷ record { b = beta 3; ring = 3; wanted = 0x3ee0_0000 } ∷ record { b = beta 4; ring = 4; wanted = 0x3f20_0000 }
    ∷ record { b = weight (rim_rule limit); ring = 2; wanted = 0x3f19_999a } ∷ []

pub all_hold : map (λ c. to_bits binary32 (own_weight c.b c.ring)) cases ≡ map (λ c. c.wanted) cases
unfolding add sub mul div of_int to_bits
all_hold = refl

-- "The f32 engine keeps 1/5, because it equals the Rust"
pub rim-limit : to_bits binary32 (weight (rim_rule limit)) ≡ 0x3e4c_cccd
unfolding div of_int to_bits
rim-limit = refl
