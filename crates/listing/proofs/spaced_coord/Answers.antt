use native.Mathlib.Omega.{arith}
use lib.ListN.{get_or}
use lib.IntN.{pos}
use mir.Syntax.{w32}
use mir.ValLaws.{to_z-of_z}
use Rattle.listing.proofs.Laws.{put-put}
use borrow.Author.Rules.{rules}
use Rattle.listing.proofs.spaced_coord.Goals as goal

pub returns : goal.returns
returns c = let g = c.signed-arg-2-1.given in
    let e = to_z-of_z w32 (get_or c.args.p.now c.args.i (pos 0)) (record { sfits = g }) in
    record { put = put-put c.byte-next.ensures (rw e at c.signed.ensures.put); upper_bound = omega arith }
