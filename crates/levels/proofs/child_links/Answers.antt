use Prim.Native.Nat.{ℕ, ◌+◌, ◌*◌, ◌≤◌, ◌<◌}
use lib.ListN.{get_or}
use Rattle.levels.proofs.Rows.{links-more, links-small}
use native.Mathlib.Omega.{arith}
use Rattle.levels.proofs.child_links.Goals as goal

pub put_links-requires : goal.put_links-requires
put_links-requires c = let a = c.args in
    let l = c.loop-f in
    let r = c.requires in
    let s : (k : ℕ) → k < 3 * a.nf → get_or l.words (a.links + k) 0 ≤ 3 * a.nf =
    λ k b. rw l.invariant (links-small a.words.now a.links a.to a.nf l.f (omega arith) r.apart r.room.0 r.small.1 k b) in
    record { room = omega arith; small = (omega arith, (omega (arith, s (3 * l.f) (omega arith)), (omega (arith, s (3 * l.f + 1) (omega arith)), omega (arith, s (3 * l.f + 2) (omega arith))))) }

pub loop-f-preserved : goal.loop-f-preserved
loop-f-preserved c = let a = c.args in
    let l = c.loop-f in
    links-more a.words.now a.links a.to a.nf l.f (omega arith) c.requires.apart l.words c.put_links.new.words l.invariant
    c.put_links.ensures
