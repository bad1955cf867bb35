-- docs/RULES.md, Positions: the weights, and the three kinds of number that a position is worked in. What differs between the engines is here, and nothing
-- else. Every rule acts on x, y and z alike, so a rule is over numbers, not points.
use Rattle.std.specs.Prelude.{◌≡◌, refl, ℕ, ◌-◌, ◌*◌, Bool, true, ◌&&◌, List, [], ◌∷◌, eqb, length, ℤ, pos, ◌+ℤ◌, ◌*ℤ◌, Float}
use Rattle.std.specs.Float.{binary32}
use Rattle.std.specs.Float.Ieee.{add, sub, mul, div, of_int, le, neg}
use Rattle.lists.specs.Lists.{pick}
use Rattle.whole.specs.Whole.{nearest, in_range}
use Rattle.whole.specs.Fraction.{Fraction, of_whole, plus, times, over}

-- ---- the table of weights

pub data Stage : Type 0 where
  refining limit : Stage

-- "A vertex rule is either a ring weight or a rim weight": at an inner vertex of valence n, or on the rim
pub data Rule : Type 0 where
  ring_rule : Stage → ℕ → Rule
  rim_rule : Stage → Rule

-- the weight b as a fraction: its numerator and its denominator
abbrev pub each : Rule → ℕ
each (ring_rule refining n) = 3
each (ring_rule limit n) = 1
each (rim_rule refining) = 1
each (rim_rule limit) = 1

-- at the limit on the rim that of the cubic B-spline curve which the rim is refined to: "own weight 2/3 and 1/6 on each side". The f32 engine's 1/5 is the Rust's, and stands in `weight`
abbrev pub out_of : Rule → ℕ
out_of (ring_rule refining n) = pick (eqb n 3) 16 (8 * n)
out_of (ring_rule limit n) = pick (eqb n 3) 5 (2 * n)
out_of (rim_rule refining) = 8
out_of (rim_rule limit) = 6

-- the own weight beside n times b, out of the same
abbrev pub own : Rule → ℕ → ℕ
own r n = out_of r - n * each r

-- ---- a kind of number. `blend r p qs` weighs the vertex p and the numbers qs that have the weight b, in order: the ring, or its first and last.
-- `halves` is a rim edge; `eighths` an inner edge: lower end, higher end, far corner of the first face, of the other
pub record Numbers : Type 1 where
  pub N : Type 0
  pub nought : N
  pub allowed : N → Bool
  pub blend : Rule → N → List N → N
  pub halves : N → N → N
  pub eighths : N → N → N → N → N

-- the same over a given type of number, which code that is generic in its number names
pub record NumbersOn (N : Type 0) : Type 0 where
  pub nought : N
  pub allowed : N → Bool
  pub blend : Rule → N → List N → N
  pub halves : N → N → N
  pub eighths : N → N → N → N → N

abbrev pub numbers_of : {N : Type 0} → NumbersOn N → Numbers
numbers_of {N} k = record { N = N; nought = k.nought; allowed = k.allowed; blend = k.blend; halves = k.halves; eighths = k.eighths }

-- ---- whole micrometres: each new coordinate is the nearest whole number to its exact fraction

abbrev pub sum : List ℤ → ℤ
sum [] = pos 0
sum (x ∷ xs) = x +ℤ sum xs

-- by any way to round a whole number over another
abbrev pub whole_by : (ℤ → ℕ → ℤ) → Numbers
whole_by round =
    record {
      N = ℤ;
      nought = pos 0;
      allowed = in_range;
      blend = λ r p qs. round (pos (own r (length qs)) *ℤ p +ℤ pos (each r) *ℤ sum qs) (out_of r);
      halves = λ a b. round (a +ℤ b) 2;
      eighths = λ a b c d. round (pos 3 *ℤ a +ℤ pos 3 *ℤ b +ℤ c +ℤ d) 8;
    }

abbrev pub whole : Numbers
whole = whole_by nearest

abbrev pub whole_on : NumbersOn ℤ
whole_on = record { nought = whole.nought; allowed = whole.allowed; blend = whole.blend; halves = whole.halves; eighths = whole.eighths }

pub whole-on : numbers_of whole_on ≡ whole
whole-on = refl

-- ---- fractions: "these same rules .. worked with no rounding at all"

abbrev pub total : List Fraction → Fraction
total [] = of_whole (pos 0)
total (x ∷ xs) = plus x (total xs)

abbrev pub exact : Numbers
exact =
    record {
      N = Fraction;
      nought = of_whole (pos 0);
      allowed = λ x. true;
      blend = λ r p qs. over (plus (times (own r (length qs)) p) (times (each r) (total qs))) (out_of r);
      halves = λ a b. over (plus a b) 2;
      eighths = λ a b c d. over (plus (plus (plus (times 3 a) (times 3 b)) c) d) 8;
    }

-- ---- f32: each operation rounded once, in the written order; a product is point times number

abbrev pub f32 : ℕ → Float
f32 n = of_int binary32 (pos n)

abbrev pub beta : ℕ → Float
beta n = pick (eqb n 3) (div binary32 (f32 3) (f32 16)) (div binary32 (f32 3) (mul binary32 (f32 8) (f32 n)))

abbrev pub loop_gamma : ℕ → Float
loop_gamma n = div binary32 (f32 1) (add binary32 (f32 n) (div binary32 (f32 3) (mul binary32 (f32 8) (beta n))))

abbrev pub weight : Rule → Float
weight (ring_rule refining n) = beta n
weight (ring_rule limit n) = loop_gamma n
weight (rim_rule refining) = div binary32 (f32 1) (f32 8)
weight (rim_rule limit) = div binary32 (f32 1) (f32 5)

-- 1 - n b
abbrev pub own_weight : Float → ℕ → Float
own_weight b n = sub binary32 (f32 1) (mul binary32 (f32 n) b)

-- "own term first, then the ring in order"
abbrev pub onto : Float → Float → List Float → Float
onto b a [] = a
onto b a (q ∷ qs) = onto b (add binary32 a (mul binary32 q b)) qs

abbrev pub weighed : Float → Float → List Float → Float
weighed b p qs = onto b (mul binary32 p (own_weight b (length qs))) qs

-- size at most 2^40; a NaN or an infinity is not
abbrev pub farthest : Float
farthest = f32 1099511627776

abbrev pub single : Numbers
single =
    record {
      N = Float;
      nought = f32 0;
      allowed = λ x. le x farthest && le (neg farthest) x;
      blend = λ r p qs. weighed (weight r) p qs;
      halves = λ a b. onto (div binary32 (f32 1) (f32 2)) (mul binary32 a (div binary32 (f32 1) (f32 2))) (b ∷ []);
      eighths = λ a b c d.
          onto (div binary32 (f32 1) (f32 8))
          (onto (div binary32 (f32 3) (f32 8)) (mul binary32 a (div binary32 (f32 3) (f32 8))) (b ∷ []))
          (c ∷ d ∷ []);
    }

abbrev pub single_on : NumbersOn Float
single_on = record { nought = single.nought; allowed = single.allowed; blend = single.blend; halves = single.halves; eighths = single.eighths }

pub single-on : numbers_of single_on ≡ single
single-on = refl
