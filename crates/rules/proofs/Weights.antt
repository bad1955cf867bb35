-- The weights that the rules are worked with are the fractions of docs/RULES.md, Positions, at every accepted valence, and they add up.
use mathlib.Core.Path.{◌≡◌, refl}
use Prim.Native.Nat.{ℕ, ◌+◌, ◌-◌, ◌*◌, ◌≤◌, ◌<◌}
use native.Mathlib.Omega.{arith}
use mathlib.Core.Bool.{Bool, true, false, not, ◌&&◌}
use mathlib.Core.Option.{none}
use lib.Dec.{T, eqb, eqb→eq}
use lib.Ieee.Fits.{and_l, and_r}
use lib.IntN.{ℤ, pos, ◌*ℤ◌}
use Rattle.lists.specs.Lists.{pick, lowest}
use Rattle.lists.proofs.Places.{lowest-none}
use Rattle.whole.specs.Fraction.{Fraction, of_whole, plus, minus, times, over, inverse, ◌≈F◌}
use Rattle.whole.proofs.Reading.{up, dn, is-self, is_eq}
use Rattle.whole.proofs.Value.{share}
use Rattle.turns.specs.Turns.{most_valence}
use Rattle.rules.specs.Position.{Stage, refining, limit, Rule, ring_rule, rim_rule, each, out_of, own}
use Rattle.rules.proofs.Checks.{not-not}

-- ---- the table of docs/RULES.md, Positions, written out: the weight b on each, and the own weight beside n of them

abbrev pub beta_of : ℕ → Fraction
beta_of n = pick (eqb n 3) (over (of_whole (pos 3)) 16) (over (of_whole (pos 3)) (8 * n))

-- 1 / (n + 3 / (8 beta))
abbrev pub gamma_of : ℕ → Fraction
gamma_of n = inverse (plus (of_whole (pos n)) (times 3 (inverse (times 8 (beta_of n)))))

abbrev pub weight_of : Rule → Fraction
weight_of (ring_rule refining n) = beta_of n
weight_of (ring_rule limit n) = gamma_of n
weight_of (rim_rule refining) = over (of_whole (pos 1)) 8
weight_of (rim_rule limit) = over (of_whole (pos 1)) 6

-- 1 - n b
abbrev pub own_of : Rule → ℕ → Fraction
own_of r n = minus (of_whole (pos 1)) (times n (weight_of r))

pub record AsWritten (r : Rule) (n : ℕ) : Type 0 where
  pub each : share (each r) (out_of r) ≈F weight_of r
  pub own : share (own r n) (out_of r) ≈F own_of r n

-- ---- compared by cross products, at each valence from 3 on

abbrev same_whole : ℤ → ℤ → Bool
same_whole a b = eqb (up a) (up b) && eqb (dn a) (dn b)

same_whole_lem : (a b : ℤ) → T (same_whole a b) → a ≡ b
same_whole_lem a b t =
    let u : up a ≡ up b = eqb→eq (up a) (up b) (and_l (eqb (up a) (up b)) _ t) in
    let d : dn a ≡ dn b = eqb→eq (dn a) (dn b) (and_r (eqb (up a) (up b)) _ t) in
    is_eq (is-self a) (is-self b) (omega arith)

abbrev equal : Fraction → Fraction → Bool
equal a b = same_whole (a.num *ℤ pos b.den) (b.num *ℤ pos a.den)

equal_is : (a b : Fraction) → T (equal a b) → a ≈F b
equal_is a b t = record { cross = same_whole_lem _ _ t }

unfoldable as_written : Rule → ℕ → Bool
as_written r n = equal (share (each r) (out_of r)) (weight_of r) && equal (share (own r n) (out_of r)) (own_of r n)

as_written_lem : (r : Rule) (n : ℕ) → T (as_written r n) → AsWritten r n
unfolding as_written
as_written_lem r n t =
    record {
      each = equal_is _ _ (and_l (equal (share (each r) (out_of r)) (weight_of r)) _ t);
      own = equal_is _ _ (and_r (equal (share (each r) (out_of r)) (weight_of r)) _ t);
    }

-- no valence from 3 to the largest at which a weight differs
unfoldable differs : Stage → ℕ → Bool
differs p k = not (as_written (ring_rule p (3 + k)) (3 + k))

none-differs : (p : Stage) → lowest (differs p) (most_valence - 2) ≡ none
unfolding differs as_written share of_whole plus minus times over inverse
none-differs refining = refl
none-differs limit = refl

pub ring-weights : (p : Stage) (n : ℕ) → 3 ≤ n → n ≤ most_valence → AsWritten (ring_rule p n) n
unfolding differs
ring-weights p n h k =
    let e : 3 + (n - 3) ≡ n = omega arith in
    let t = not-not (as_written (ring_rule p (3 + (n - 3))) (3 + (n - 3))) (lowest-none (differs p) (most_valence - 2) (none-differs p) (n - 3) (omega arith)) in
    as_written_lem (ring_rule p n) n (rw e at t)

pub rim-weights : (p : Stage) → AsWritten (rim_rule p) 2
unfolding as_written share of_whole plus minus times over inverse
rim-weights refining = as_written_lem (rim_rule refining) 2 tt
rim-weights limit = as_written_lem (rim_rule limit) 2 tt

-- ---- the weights of a rule over n numbers add up, so that it takes a mean

pub record AddsUp (r : Rule) (n : ℕ) : Type 0 where
  pub above : 0 < out_of r
  pub all : own r n + n * each r ≡ out_of r

pub ring-adds-up : (p : Stage) (n : ℕ) → 0 < n → AddsUp (ring_rule p n) n
ring-adds-up p n h = go p (eqb n 3) refl
  where
    go : (p : Stage) (b : Bool) → eqb n 3 ≡ b → AddsUp (ring_rule p n) n
    go refining true e = let q : n ≡ 3 = eqb→eq n 3 (rw e tt) in rw q (record { above = omega arith; all = omega arith })
    go limit true e = let q : n ≡ 3 = eqb→eq n 3 (rw e tt) in rw q (record { above = omega arith; all = omega arith })
    go refining false e = record { above = rw e (omega arith); all = rw e (omega arith) }
    go limit false e = record { above = rw e (omega arith); all = rw e (omega arith) }

pub rim-adds-up : (p : Stage) → AddsUp (rim_rule p) 2
rim-adds-up refining = record { above = omega arith; all = omega arith }
rim-adds-up limit = record { above = omega arith; all = omega arith }
