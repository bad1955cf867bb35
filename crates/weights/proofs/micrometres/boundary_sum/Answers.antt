use mathlib.Core.Path.{sym, ap, ◌∙◌}
use mathlib.Core.List.{List}
use Prim.Native.Nat.{ℕ, ◌+◌, ◌-◌, ◌<◌}
use native.Mathlib.Omega.{arith}
use lib.ListN.{length, get_or}
use lib.IntN.{ℤ}
use Rattle.whole.proofs.Sums.{raised-add, raised-zero, raised-as, lower-is}
use Rattle.rules.specs.Position.{whole}
use Rattle.rules.specs.Levels.{ends, coord}
use Rattle.weights.specs.Lent.{Stands, sum_of}
use Rattle.weights.proofs.Means.{raised_of, ends-are}
use Rattle.weights.proofs.micrometres.boundary_sum.Goals as goal

-- coordinate k of the first and of the last
both : (xs : List ℤ) (vs : List ℕ) (k : ℕ) {p q : ℕ} → 0 < length vs → Stands p 1 (coord whole xs k (get_or vs 0 0)) → Stands q 1 (coord whole xs k (get_or vs (length vs - 1) 0)) → Stands (p + q) 2 (sum_of xs (ends vs) k)
both xs vs k {p} {q} h x y =
    let two = raised-add (raised_of x.0 x.1) (raised-add (raised_of y.0 y.1) raised-zero) in
    let all = raised-as {t = p + q} {v = 2} two (omega arith) (omega arith) in
    (lower-is all ∙ sym (ap (λ (us : List ℕ). sum_of xs us k) (ends-are vs h)), all.most)

pub returns : goal.returns
returns c = let x = c.before.before.before.before.before.before in
    let xs = x.args.xs.now in
    let vs = x.args.ring.now in
    let h = x.requires.0 in (
      both xs vs 0 h x.at.ensures c.at-2.ensures,
      (both xs vs 1 h c.at-3.ensures c.at-4.ensures, both xs vs 2 h c.at-5.ensures c.at-6.ensures),
    )
