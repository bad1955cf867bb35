-- An f64 narrowed to f32: the nearest one, ties to even, with subnormals, and overflow to infinity. The logic has one NaN; its pattern is 7FC00000.
use Rattle.std.specs.Prelude.{ℕ, ◌*◌, ◌^◌, Bool, cond, Float}
use Rattle.std.specs.Float.{nan, inf, fin, binary32}
use Rattle.std.specs.Float.Ieee.{round, up, down}

unfoldable pub narrowed : Float → Float
narrowed nan = nan
narrowed (inf s) = inf s
narrowed (fin s m e) = round binary32 s (m * up e) (down e)

-- the sign's bit in the pattern of an f32
abbrev pub sign : Bool → ℕ
sign s = cond s (2 ^ 31) 0
