-- No coordinate of any level, nor of the limits, leaves the range that the cage's are in.
use mathlib.Core.Path.{◌≡◌, refl}
use Prim.Native.Nat.{ℕ, ◌+◌, ◌*◌, ◌<◌, ◌≤◌}
use native.Mathlib.Omega.{arith}
use native.Mathlib.Nat.{mul-le-mul_left}
use mathlib.Core.List.{List}
use mathlib.Core.Option.{none}
use lib.ListN.{length, get_or}
use lib.IntN.{ℤ, pos, nat_abs, ◌+ℤ◌, ◌*ℤ◌}
use Rattle.lists.proofs.Pairs.{Pairs, nil, cons, pairs-at, pairs_of}
use Rattle.whole.specs.Whole.{reach, in_range, Near, nearest}
use Rattle.whole.proofs.Reading.{is-self, is_pos, is-add, is_mul, abs-le, le-abs}
use Rattle.whole.proofs.Rounding.{Rounds, nearest-range}
use Rattle.whole.proofs.Half.{nearest-rounds}
use Rattle.whole.proofs.Sums.{in_range-near}
pub use Rattle.rules.specs.Sound.{AllNear}
use Rattle.rules.specs.Position.{Rule, each, out_of, own, sum, whole_by, whole}
use Rattle.rules.specs.Levels.{Level, first, last, levels, positions}
use Rattle.rules.specs.Refusals.{refusal}
use Rattle.rules.proofs.Fans.{T_true}
use Rattle.rules.proofs.Cage.{accepted}
use Rattle.rules.proofs.Weights.{AddsUp}
use Rattle.rules.proofs.Related.{Keeps, related-levels, related-positions}

-- ---- a sum of numbers in range, of weight w in all

record UpTo (w : ℕ) (z : ℤ) : Type 0 where
  size : nat_abs z ≤ w * reach

up-near : {z : ℤ} → Near z → UpTo 1 z
up-near h = record { size = omega (arith, h.size) }

up-plus : {v w : ℕ} {x y : ℤ} → UpTo v x → UpTo w y → UpTo (v + w) (x +ℤ y)
up-plus {x} {y} h k =
    let p = le-abs (is-self x) h.size in
    let q = le-abs (is-self y) k.size in
    record { size = abs-le (is-add (is-self x) (is-self y)) (omega (arith, p.0, q.0)) (omega (arith, p.1, q.1)) }

up-times : {v : ℕ} {x : ℤ} (w : ℕ) → UpTo v x → UpTo (w * v) (pos w *ℤ x)
up-times {x} w h =
    let p = le-abs (is-self x) h.size in
    record { size = abs-le (is_mul (is_pos w) (is-self x)) (omega (arith, mul-le-mul_left w p.0)) (omega (arith, mul-le-mul_left w p.1)) }

up-as : {v w : ℕ} {x : ℤ} → v ≡ w → UpTo v x → UpTo w x
up-as e h = rw e at h

-- one coordinate by itself, as a relation of two
abbrev pub In : ℤ → ℤ → Type 0
In x y = Near x

up-sum : {xs ys : List ℤ} → Pairs In xs ys → UpTo (length xs) (sum xs)
up-sum nil = record { size = omega arith }
up-sum (cons h p) = up-as (omega arith) (up-plus (up-near h) (up-sum p))

-- ---- the rules keep the range, however they round

module _ (round : ℤ → ℕ → ℤ) (N : Rounds round) where
  near-round : {z : ℤ} (w : ℕ) → 0 < w → UpTo w z → Near (round z w)
  near-round {z} w h k = record { size = nearest-range h (N.near z w h) k.size }

  near-blend : {x : ℤ} {xs ys : List ℤ} (r : Rule) → AddsUp r (length xs) → Near x → Pairs In xs ys → Near ((whole_by round).blend r x xs)
  near-blend {xs} r w h p =
      near-round (out_of r) w.above (up-as (omega (arith, w.all)) (up-plus (up-times (own r (length xs)) (up-near h)) (up-times (each r) (up-sum p))))

  pub keeps-range : Keeps (whole_by round) (whole_by round) (λ e. In)
  keeps-range =
      record {
        nought = λ e. record { size = omega arith };
        more = λ h. h;
        blend = λ r w h p. near-blend r w h p;
        halves = λ h k. near-round 2 (omega arith) (up-plus (up-near h) (up-near k));
        eighths = λ h i j k. near-round 8 (omega arith) (up-plus (up-plus (up-plus (up-times 3 (up-near h)) (up-times 3 (up-near i))) (up-near j)) (up-near k));
      }

-- ---- lists of coordinates

pub paired : {xs : List ℤ} → AllNear xs → Pairs In xs xs
paired {xs} h = pairs_of In (pos 0) (pos 0) xs xs refl (λ i k. h.at i)

pub unpaired : {xs ys : List ℤ} → Pairs In xs ys → AllNear xs
unpaired p = record { at = λ i. pairs-at In (pos 0) (pos 0) (record { size = omega arith }) p i }

abbrev pub keeps : Keeps whole whole (λ e. In)
keeps = keeps-range nearest nearest-rounds

pub near-levels : (l : ℕ) (a : Level whole) → AllNear a.points → AllNear (levels whole l a).points
near-levels l a h = unpaired (related-levels whole whole (λ e. In) keeps l 0 a.mesh a.points a.points (paired h))

pub near-positions : (l : ℕ) (a : Level whole) → AllNear a.points → AllNear (positions whole (levels whole l a))
near-positions l a h = unpaired (related-positions whole whole (λ e. In) keeps l 0 a.mesh a.points a.points (paired h))

-- ---- an accepted cage's

pub near-cage : (l : ℕ) (fs : List ℕ) (xs : List ℤ) → refusal whole l fs xs ≡ none → AllNear xs
near-cage l fs xs e =
    unpaired (pairs_of In (pos 0) (pos 0) xs xs refl (λ i k. in_range-near (get_or xs i (pos 0)) (T_true (in_range (get_or xs i (pos 0))) ((accepted whole l fs xs e).allowed i k))))

-- at every level k, and at the limit there
pub near-at : (l k : ℕ) (fs : List ℕ) (xs : List ℤ) → refusal whole l fs xs ≡ none → AllNear (last whole k fs xs).points × AllNear (positions whole (last whole k fs xs))
near-at l k fs xs e = let h = near-cage l fs xs e in (near-levels k (first whole fs xs) h, near-positions k (first whole fs xs) h)
