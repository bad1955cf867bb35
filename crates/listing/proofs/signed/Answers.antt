use mathlib.Core.Path.{◌≡◌, ap, ◌∙◌}
use native.Mathlib.Omega.{arith}
use mir.Syntax.{w32}
use mir.ValLaws.{to_z-of_z}
use Rattle.listing.specs.Text.{bias}
use Rattle.listing.proofs.Laws.{put-put, negative, positive}
use borrow.Author.Rules.{rules}
use Rattle.listing.proofs.signed.Lts
use Rattle.listing.proofs.signed.Reads
use Rattle.listing.proofs.signed.Tie
use Rattle.listing.proofs.signed.Goals as goal

abbrev After-biased-b : Type 0
After-biased-b = Lts.After-biased Tie.the-claims Reads.Pre Reads.Post Tie.handed_clauses

shifted : (k : After-biased-b) → k.biased-b.result ≡ bias k.args.x
shifted k = k.biased-b.ensures.0 ∙ ap bias (to_z-of_z w32 k.args.x k.ranges.x)

pub returns-then-b-lt2147483648 : goal.returns-then-b-lt2147483648
returns-then-b-lt2147483648 c = let a = c.args in
    let e = negative a.x c.ranges.x (rw (shifted c.before.before.before.before.before.before.before.before.before.before) at c.if-b-lt2147483648.true) in
    let p = put-put c.byte-next.ensures c.number.ensures.put in
    record { put = rw (e, ← (shifted c.before.before.before.before.before.before.before.before.before.before)) p; upper_bound = omega arith }

pub returns : goal.returns
returns c = let a = c.args in
    let e = positive a.x (rw (shifted c.before.before.before.before.before.before) at c.if-b-lt2147483648.false) in
    record { put = rw (e, ← (shifted c.before.before.before.before.before.before)) c.number-2.ensures.put; upper_bound = omega arith }
