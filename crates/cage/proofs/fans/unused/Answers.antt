use borrow.Author.Count.{below_more}
use native.Mathlib.Omega.{arith}
use Prim.Native.Nat.{ℕ}
use mathlib.Core.Path.{◌≡◌, sym, ap, ◌∙◌}
use mathlib.Core.Bool.{not}
use lib.ListN.{get_or}
use lib.Dec.{eqb}
use borrow.Author.Tests.{eq-eqb, ne_eqb}
use Rattle.lists.specs.Lists.{find, found}
use Rattle.limits.proofs.Search.{lowest-here, lowest-nowhere}
use Rattle.cage.proofs.Rounds.{unused-is}
use Rattle.cage.proofs.fans.unused.Lts
use Rattle.cage.proofs.fans.unused.Reads
use Rattle.cage.proofs.fans.unused.Tie
use Rattle.cage.proofs.fans.unused.Goals as goal

abbrev After-shared_slice_known-in-loop-u-1 : Type 0
After-shared_slice_known-in-loop-u-1 = Lts.After-shared_slice_known3 Tie.the-claims Reads.Pre Reads.Post goal.the-invariant-loop-u goal.the-decreases-loop-u

none-at :
    (k : After-shared_slice_known-in-loop-u-1) →
    (let u = k.loop-u.u in
    not (found (find (eqb u) k.args.indices.now)) ≡ eqb (get_or k.args.heads.now u 0) 0)
none-at k =
    let u = k.loop-u.u in
    unused-is k.args.indices.now u ∙ ap (λ (h : ℕ). eqb h 0) (sym (k.requires.0.head u (omega arith)))

pub returns-then-heads-u-eq0 : goal.returns-then-heads-u-eq0
returns-then-heads-u-eq0 c = let l = c.loop-u in
    c.no.ensures ∙ sym (lowest-here 9 (λ u. not (found (find (eqb u) c.args.indices.now))) c.args.v l.u (omega arith) (none-at c.before.before.before ∙ eq-eqb _ _ c.if-heads-u-eq0.true) l.invariant)

pub loop-u-preserved : goal.loop-u-preserved
loop-u-preserved c = below_more _ _ c.loop-u.invariant (none-at c.before.before ∙ ne_eqb _ _ c.if-heads-u-eq0.false)

pub returns : goal.returns
returns c = sym (lowest-nowhere 9 (λ u. not (found (find (eqb u) c.args.indices.now))) c.args.v (λ j h. c.loop-u.invariant j (omega arith)))
