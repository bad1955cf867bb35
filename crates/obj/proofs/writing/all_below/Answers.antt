use mathlib.Core.Path.{◌≡◌}
use mathlib.Core.Bool.{true, false}
use lib.Dec.{leb}
use borrow.Author.Rules.{rules}
use borrow.Author.Tests.{tests}
use Rattle.std.proofs.lemmas.Iterator.{cases_from_all, YieldsList-from_slice}
use Rattle.obj.proofs.Lines.{by_all}
use Rattle.obj.proofs.writing.all_below.Goals as goal

pub returns : goal.returns
returns c = by_all (λ x. leb c.args.v x) 0 c.args.fs.now c.all.result (cases_from_all _ _ _ (λ x. leb c.args.v x ≡ false) (λ x. leb c.args.v x ≡ true) c.all.ensures.ran (YieldsList-from_slice c.args.fs.now cc) (λ x q k. search (rules, tests)) (λ x q k. search (rules, tests)))
