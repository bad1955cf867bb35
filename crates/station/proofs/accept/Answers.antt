use Prim.Native.Nat.{◌*◌, ◌≤◌}
use mathlib.Core.Path.{sym, ap, ◌∙◌}
use lib.ListN.{length}
use lib.Seq.{length-take-le}
use borrow.Author.Rules.{rules}
use Rattle.rules.specs.Position.{whole}
use Rattle.rules.specs.Levels.{last, exact_limits}
use Rattle.rules.specs.Outcome.{Outcome}
use Rattle.station.specs.Acceptance.{held, judged}
use Rattle.station.proofs.Order.{station-1, station-tolerance, station-level, our-cage, our-most, our-points, our-room, our-faces, our-size, station-refused, station-judged}
use Rattle.station.proofs.accept.Lts
use Rattle.station.proofs.accept.Reads
use Rattle.station.proofs.accept.Tie
use Rattle.station.proofs.accept.Goals as goal

abbrev In-Success : Type 0
In-Success = Lts.Past-After-known_told2 Tie.the-claims Reads.Pre Reads.Post Tie.handed_clauses

-- our faces are within the buffer
fits : (k : In-Success) → 3 * k.in-Ok.c.faces ≤ length k.smooth.new.out
fits k = our-room _ _ _ _ _ _ k.smooth.ensures k.in-Ok.is

pub returns-then-levels-gt7 : goal.returns-then-levels-gt7
returns-then-levels-gt7 c = station-refused _ _ _ _ _ _ _ _ _ (station-1 _ _ _ _ _ c.if-levels-gt7.true) c.refused.ensures

pub returns-then-tolerance-gt1000 : goal.returns-then-tolerance-gt1000
returns-then-tolerance-gt1000 c = station-refused _ _ _ _ _ _ _ _ _ (station-tolerance _ _ _ _ _ c.if-levels-gt7.false c.if-tolerance-gt1000.true) c.refused-then-tolerance-gt1000.ensures

pub returns-then-levels-gt1 : goal.returns-then-levels-gt1
returns-then-levels-gt1 c = station-refused _ _ _ _ _ _ _ _ _ (station-level _ _ _ _ _ c.if-levels-gt7.false c.if-tolerance-gt1000.false c.if-levels-gt1.true) c.refused-then-levels-gt1.ensures

pub slice_bounds-hold-end : goal.slice_bounds-hold-end
slice_bounds-hold-end c = fits c.before.before.before

pub slice_bounds-hold-end-in-Ok : goal.slice_bounds-hold-end-in-Ok
slice_bounds-hold-end-in-Ok c = sym (length-take-le _ _ (fits c.before.before.before))

pub hold-requires : goal.hold-requires
hold-requires c = let o = c.smooth.ensures in
    let e = c.in-Ok.is in record { cage = (our-cage _ _ _ _ _ _ o e, c.if-levels-gt1.false); ours = (our-faces _ _ _ _ _ _ o e, (our-size _ _ _ _ _ _ o e, (our-most _ _ _ _ _ _ o e).0)); count = (our-points _ _ _ _ _ _ o e, (our-most _ _ _ _ _ _ o e).1) }

pub returns-in-Err : goal.returns-in-Err
returns-in-Err c = let a = c.args in
    let h = held a.tolerance (last whole a.levels a.indices.now a.coords.now).mesh.faces (exact_limits a.levels a.indices.now a.coords.now) a.theirs.now a.claimed.now in
    station-judged _ _ _ _ _ _ _ _ _ c.if-tolerance-gt1000.false c.if-levels-gt1.false c.smooth.ensures (sym (ap (λ (x : Outcome). judged x h) c.in-Err.is))

pub returns-in-Ok : goal.returns-in-Ok
returns-in-Ok c = let a = c.args in
    let h = held a.tolerance (last whole a.levels a.indices.now a.coords.now).mesh.faces (exact_limits a.levels a.indices.now a.coords.now) a.theirs.now a.claimed.now in
    station-judged _ _ _ _ _ _ _ _ _ c.if-tolerance-gt1000.false c.if-levels-gt1.false c.smooth.ensures (c.hold.ensures ∙ sym (ap (λ (x : Outcome). judged x h) c.in-Ok.is))
