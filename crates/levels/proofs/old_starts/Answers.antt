use Prim.Native.Nat.{◌+◌, ◌<◌}
use mathlib.Core.Path.{◌≡◌, refl}
use lib.ListN.{get_or}
use Rattle.lists.specs.Lists.{part}
use Rattle.lists.proofs.Stores.{length_part}
use Rattle.levels.proofs.Starts.{start_word, start-more}
use native.Mathlib.Omega.{arith}
use Rattle.levels.proofs.old_starts.Lts
use Rattle.levels.proofs.old_starts.Reads
use Rattle.levels.proofs.old_starts.Tie
use Rattle.levels.proofs.old_starts.Goals as goal

abbrev In-loop-u : Type 0
In-loop-u = Lts.In-loop Tie.the-claims Reads.Pre Reads.Post goal.the-invariant-loop-u goal.the-decreases-loop-u Tie.handed_clauses

small : (c : In-loop-u) → (get_or c.loop-u.words (c.args.starts + c.loop-u.u) 0 ≡ get_or (part c.args.starts c.args.v c.args.words.now) c.loop-u.u 0) × (get_or c.loop-u.words (c.args.starts + c.loop-u.u) 0 < c.args.sides)
small c =
    let a = c.args in
    let l = c.loop-u in
    let r = c.requires in
    let h : l.u < a.v = omega arith in
    let e = start_word a.words.now a.starts a.to a.v l.u r.room.0 r.apart h in
    let b = r.small.1 l.u (omega (arith, length_part a.words.now a.starts a.v r.room.0)) in
    rw (l.invariant, e) (refl, b)

pub overflow_cast-words : goal.overflow_cast-words
overflow_cast-words c = omega (arith, (small c.before.before).1, c.restarted.ensures)

pub loop-u-preserved : goal.loop-u-preserved
loop-u-preserved c = let a = c.args in
    let l = c.loop-u in
    let r = c.requires in
    let e = start-more a.words.now a.starts a.to a.v l.u r.room.0 r.apart (omega arith) in
    rw (c.restarted.ensures, (small c.before.before).0, l.invariant) e
