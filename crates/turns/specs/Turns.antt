-- Sine and cosine (docs/RULES.md, Turning): whole numbers scaled by 2 ^ 24, by the power series in fractions, and the f32 made of them.
use Rattle.std.specs.Prelude.{Bool, true, false, cond, ℕ, zero, suc, ◌+◌, ◌-◌, ◌*◌, ◌/◌, ◌^◌, ℤ, pos, neg_ℤ, leb, Float}
use Rattle.std.specs.Float.{binary32}
use Rattle.std.specs.Float.Ieee.{div, neg, of_int}
use Rattle.std.specs.Float.Ieee.Nearest.{closest}

-- valence to 24: no turn is cut into more parts
abbrev pub most_valence : ℕ
most_valence = 24

-- ---- the power series at a / b, its terms over the one denominator b ^ t * t!
abbrev pub factorial : ℕ → ℕ
factorial zero = 1
factorial (suc n) = factorial n * suc n

-- (a / b) ^ n / n!
abbrev pub term : ℕ → ℕ → ℕ → ℕ → ℕ
term t a b n = a ^ n * b ^ (t - n) * (factorial t / factorial n)

-- the powers n, n + 4, n + 8, ..: c of them, all with one sign
abbrev pub terms : ℕ → ℕ → ℕ → ℕ → ℕ → ℕ
terms t a b n zero = 0
terms t a b n (suc c) = term t a b n + terms t a b (n + 4) c

-- the whole number nearest to (plus - minus) / den, ties to even
abbrev pub nearest_to : Bool → ℕ → ℕ → ℕ → ℤ
nearest_to true plus minus den = pos (closest (plus - minus) den)
nearest_to false plus minus den = neg_ℤ (pos (closest (minus - plus) den))

-- 2 ^ 24 times the series from the power n through the power t
abbrev pub series : ℕ → ℕ → ℕ → ℕ → ℤ
series t a b n =
    let plus = 2 ^ 24 * terms t a b n 6 in
    let minus = 2 ^ 24 * terms t a b (n + 2) 5 in
    nearest_to (leb minus plus) plus minus (b ^ t * factorial t)

-- at k / m of a half turn, which is 0x3243F6A88 / 2 ^ 32
unfoldable pub cos_number : ℕ → ℕ → ℤ
cos_number k m = series 20 (k * 0x3243F6A88) (m * 2 ^ 32) 0

unfoldable pub sin_number : ℕ → ℕ → ℤ
sin_number k m = series 21 (k * 0x3243F6A88) (m * 2 ^ 32) 1

-- ---- in f32
-- a number of the table, divided by 2 ^ 24
abbrev pub entry : ℤ → Float
entry z = div binary32 (of_int binary32 z) (of_int binary32 (pos 16777216))

-- at k / m of a half turn
unfoldable pub half_cosine : ℕ → ℕ → Float
half_cosine k m = entry (cos_number k m)

unfoldable pub half_sine : ℕ → ℕ → Float
half_sine k m = entry (sin_number k m)

-- i / n of a whole turn as parts of a half turn: past it, those left to the whole turn
abbrev pub folded : Bool → ℕ → ℕ → ℕ
folded within i n = cond within (2 * i) (2 * (n - i))

-- at i / n of a whole turn: cos (2 pi - x) = cos x, sin (2 pi - x) = - sin x
unfoldable pub cosine : ℕ → ℕ → Float
cosine i n = half_cosine (folded (leb (2 * i) n) i n) n

abbrev pub turned : Bool → Float → Float
turned within y = cond within y (neg y)

unfoldable pub sine : ℕ → ℕ → Float
sine i n = turned (leb (2 * i) n) (half_sine (folded (leb (2 * i) n) i n) n)
