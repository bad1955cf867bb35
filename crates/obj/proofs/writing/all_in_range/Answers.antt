use mathlib.Core.Path.{◌≡◌}
use mathlib.Core.Bool.{true, false, not}
use lib.IntN.{pos}
use borrow.Author.Rules.{rules}
use borrow.Author.Tests.{tests}
use Rattle.std.proofs.lemmas.Iterator.{cases_from_all, YieldsList-from_slice}
use Rattle.whole.specs.Whole.{in_range}
use Rattle.obj.proofs.Lines.{by_all}
use Rattle.obj.proofs.writing.all_in_range.Goals as goal

pub returns : goal.returns
returns c = by_all (λ x. not (in_range x)) (pos 0) c.args.xs.now c.all.result (cases_from_all _ _ _ (λ x. not (in_range x) ≡ false) (λ x. not (in_range x) ≡ true) c.all.ensures.ran (YieldsList-from_slice c.args.xs.now cc) (λ x q k. search (rules, tests)) (λ x q k. search (rules, tests)))
