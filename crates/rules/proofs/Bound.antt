-- Demand 3: at l levels the whole engine is within (l + 1) / 2 of the exact limit position, whichever nearest whole number it rounds to.
use mathlib.Core.Path.{◌≡◌, sym, ap}
use Prim.Native.Nat.{ℕ, suc, ◌+◌, ◌*◌, ◌/◌}
use native.Mathlib.Omega.{arith}
use mathlib.Core.List.{List, [], ◌∷◌, map}
use lib.ListN.{length, length-map}
use lib.IntN.{ℤ, pos}
use Rattle.lists.proofs.Pairs.{Pairs, nil, cons, pairs-at, pairs-length}
use Rattle.whole.specs.Fraction.{Fraction, of_whole, Within}
use Rattle.whole.proofs.Rounding.{Rounds}
use Rattle.whole.proofs.Nearness.{Close, within, close-zero, close-whole, close-plus, close-times, close-over}
use Rattle.rules.specs.Mesh.{cage}
use Rattle.rules.specs.Position.{Rule, each, out_of, own, sum, total, whole_by, exact}
use Rattle.rules.specs.Levels.{coord, last, positions, exact_limits}
use Rattle.rules.proofs.Weights.{AddsUp}
use Rattle.rules.proofs.Related.{Keeps, related-positions}

-- ---- the rules, one by one

pub close-as : {d e : ℕ} {x : ℤ} {y : Fraction} → d ≡ e → Close d x y → Close e x y
close-as q c = rw q at c

close_more : {e : ℕ} {x : ℤ} {y : Fraction} → Close e x y → Close (suc e) x y
close_more c = record { near = record { hi = omega (arith, c.near.hi); lo = omega (arith, c.near.lo) } }

close-sum : {e : ℕ} {xs : List ℤ} {ys : List Fraction} → Pairs (Close e) xs ys → Close (length xs * e) (sum xs) (total ys)
close-sum nil = close-zero
close-sum {e} (cons {xs} c p) = close-as (omega arith) (close-plus c (close-sum p))

pub close-blend : (round : ℤ → ℕ → ℤ) → Rounds round → {e : ℕ} {x : ℤ} {y : Fraction} {xs : List ℤ} {ys : List Fraction} (r : Rule) → AddsUp r (length xs) → Close e x y → Pairs (Close e) xs ys
    → Close (suc e) ((whole_by round).blend r x xs) (exact.blend r y ys)
close-blend round N {e} {x} {y} {xs} {ys} r w c p =
    let n : length ys ≡ length xs = sym (pairs-length (Close e) p) in
    let s = close-plus (close-times (own r (length xs)) c) (close-times (each r) (close-sum p)) in
    let q : own r (length xs) * e + each r * (length xs * e) ≡ out_of r * e = omega (arith, ap (λ (t : ℕ). t * e) w.all) in
    rw n (close-over (out_of r) w.above (close-as q s) (N.near _ (out_of r) w.above))

pub keeps-close : (round : ℤ → ℕ → ℤ) → Rounds round → Keeps (whole_by round) exact Close
keeps-close round N =
    record {
      nought = λ e. close-zero;
      more = λ c. close_more c;
      blend = λ r w c p. close-blend round N r w c p;
      halves = λ {e} a b. close-over 2 (omega arith) (close-as {e = 2 * e} (omega arith) (close-plus a b)) (N.near _ 2 (omega arith));
      eighths = λ {e} a b c d.
          close-over 8 (omega arith) (close-as {e = 8 * e} (omega arith) (close-plus (close-plus (close-plus (close-times 3 a) (close-times 3 b)) c) d)) (N.near _ 8 (omega arith));
    }

-- ---- the whole of it, from equal control points

pub control : (xs : List ℤ) → Pairs (Close 0) xs (map of_whole xs)
control [] = nil
control (x ∷ xs) = cons (close-whole x) (control xs)

-- coordinate c of vertex v
pub bound_by : (round : ℤ → ℕ → ℤ) → Rounds round → (l : ℕ) (fs : List ℕ) (xs : List ℤ) (c v : ℕ)
    → Within (l + 1) (coord (whole_by round) (positions (whole_by round) (last (whole_by round) l fs xs)) c v) (coord exact (exact_limits l fs xs) c v)
bound_by round N l fs xs c v =
    let p = related-positions (whole_by round) exact Close (keeps-close round N) l 0 (cage (length xs / 3) fs) xs (map of_whole xs) (control xs) in
    rw (length-map xs of_whole) (within (close-as (omega arith) (pairs-at (Close (suc (0 + l))) (pos 0) (of_whole (pos 0)) close-zero p (3 * v + c))))
