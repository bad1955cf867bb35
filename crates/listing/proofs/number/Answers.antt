use mathlib.Core.Path.{◌≡◌, ◌∙◌}
use native.Mathlib.Omega.{arith}
use lib.ListN.{take}
use Rattle.listing.specs.Text.{numeral}
use Rattle.listing.proofs.Laws.{numeral-is, numeral-few}
use borrow.Author.Rules.{rules}
use Rattle.listing.proofs.number.Lts
use Rattle.listing.proofs.number.Reads
use Rattle.listing.proofs.number.Tie
use Rattle.listing.proofs.number.Goals as goal

abbrev After-decimal-k : Type 0
After-decimal-k = Lts.After-decimal Tie.the-claims Reads.Pre Reads.Post Tie.handed_clauses

spelled : (k : After-decimal-k) → take k.decimal-k.result k.decimal-k.new.out ≡ numeral k.args.n
spelled k =
    let e = k.decimal-k.ensures in
    e.digits ∙ numeral-is _ _ e.len.0 e.len.1 e.len.2 (omega arith)

pub word-requires : goal.word-requires
word-requires c = rw (spelled c.before.before) (omega (arith, numeral-few c.args.n))

pub returns : goal.returns
returns c = let p = rw (spelled c.before.before.before.before.before.before) at c.word.ensures in
    record { put = p; upper_bound = omega (arith, numeral-few c.args.n, p.next-is) }
