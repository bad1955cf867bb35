use Prim.Native.Nat.{ℕ, ◌*◌, ◌/◌}
use mathlib.Core.Path.{◌≡◌, sym, subst, ap, ◌∙◌}
use native.Mathlib.Omega.{arith}
use borrow.Author.Rules.{rules}
use lib.ListN.{length}
use Rattle.weights.specs.Weights.{staged}
use Rattle.weights.specs.Lent.{all_of, Shares}
use Rattle.weights.specs.declared.Rule.{Rule}
use Rattle.weights.specs.declared.micrometres.Share.{Share}
use Rattle.weights.proofs.Means.{shares_whole}
use Rattle.station.proofs.Points.{by-rule, shares-few, eighth-of}
use Rattle.station.proofs.fractions.ring_over.Lts
use Rattle.station.proofs.fractions.ring_over.Reads
use Rattle.station.proofs.fractions.ring_over.Tie
use Rattle.station.proofs.fractions.ring_over.Goals as goal

abbrev After-new-rule : Type 0
After-new-rule = Lts.After-new Tie.the-claims Reads.Pre Reads.Post Tie.handed_clauses

pub new-rule-requires : goal.new-rule-requires
new-rule-requires c = c.requires.1.1.1.few

all : (c : After-new-rule) → Shares c.new-rule.result (length c.args.ring.now)
all c =
    let a = c.args in
    let r = c.requires in
    subst (λ (w : Rule Share). Shares w (length a.ring.now)) (sym c.new-rule.ensures) (shares_whole (staged a.stage) a.rim (length a.ring.now) r.1.1.0 r.1.1.1.few)

pub weighted-requires : goal.weighted-requires
weighted-requires c = let r = c.requires in record { ring = (omega arith, (r.1.1.0, (r.1.0, r.1.1.1))); shares = all c.before }

pub weighted-requires-2 : goal.weighted-requires-2
weighted-requires-2 c = let r = c.requires in record { ring = (omega arith, (r.1.1.0, (r.1.0, r.1.1.1))); shares = all c.before.before }

pub weighted-requires-3 : goal.weighted-requires-3
weighted-requires-3 c = let r = c.requires in record { ring = (omega arith, (r.1.1.0, (r.1.0, r.1.1.1))); shares = all c.before.before.before }

pub returns : goal.returns
returns c = let a = c.args in
    let r = c.requires in
    let vs = a.ring.now in
    let p = staged a.stage in
    let w = c.new-rule.result in
    let e = c.new-rule.ensures in
    let d = c.all.result in
    let f = c.all.ensures in
    let few = rw (sym f) at (shares-few w (length vs) (all c.before.before.before.before.before)) in record {
      point = record {
        bounded = record { above = few.0; few = omega (arith, few.1); x = omega (arith, f, c.weighted.ensures.1); y = omega (arith, f, c.weighted-2.ensures.1); z = omega (arith, f, c.weighted-3.ensures.1) };
        x = by-rule a.xs.now r.0 0 p a.rim a.u vs r.1.1.0 w d c.weighted.result e f c.weighted.ensures.0;
        y = by-rule a.xs.now r.0 1 p a.rim a.u vs r.1.1.0 w d c.weighted-2.result e f c.weighted-2.ensures.0;
        z = by-rule a.xs.now r.0 2 p a.rim a.u vs r.1.1.0 w d c.weighted-3.result e f c.weighted-3.ensures.0;
      };
      den = record { few = few.1; eighth = λ q. subst (λ (k : ℕ). 8 * (k / 8) ≡ k) (sym (f ∙ ap all_of e)) (eighth-of p a.rim (length vs) q) };
    }
