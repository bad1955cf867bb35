use Prim.Native.Nat.{◌≤◌, ◌<◌}
use mathlib.Core.Path.{◌≡◌, ◌∙◌}
use Rattle.lists.proofs.Places.{tally-below}
use Rattle.rules.specs.Mesh.{first_met}
use Rattle.faces.specs.Words.{links_in}
use Rattle.levels.proofs.Numbers.{word-is, number_is, number_more, tally-more, all-met}
use native.Mathlib.Omega.{arith}
use Rattle.levels.proofs.number.Lts
use Rattle.levels.proofs.number.Reads
use Rattle.levels.proofs.number.Tie
use Rattle.levels.proofs.number.Goals as goal

abbrev At-loop-s : Type 0
At-loop-s = Lts.At-loop Tie.the-claims Reads.Pre Reads.Post goal.the-invariant-loop-s goal.the-decreases-loop-s Tie.handed_clauses

few : (c : At-loop-s) → c.loop-s.k ≤ c.loop-s.s
few c =
    let a = c.args in
    omega (arith, c.loop-s.invariant.0, tally-below (first_met (links_in a.words.now a.links a.sides)) c.loop-s.s)

pub overflow_add-v : goal.overflow_add-v
overflow_add-v c = omega (arith, few c.before.before)

pub overflow_cast-v : goal.overflow_cast-v
overflow_cast-v c = omega (arith, few c.before.before)

pub counted-k-requires : goal.counted-k-requires
counted-k-requires c = omega (arith, few c.before.before.before.before)

pub loop-s-preserved : goal.loop-s-preserved
loop-s-preserved c = let a = c.args in
    let l = c.loop-s in
    let r = c.requires in
    let q = l.invariant.1 in
    let h : l.s < a.sides = omega arith in
    let w = word-is a.words.now a.links a.mids a.sides a.v l.s r.mutual r.room.0 r.room.1 h in
    let m = rw (q, w) at c.edge_number-m.ensures in
    let n = rw (q, w) at c.first_met.ensures in (
      c.counted-k.ensures ∙ rw n (tally-more a.words.now a.links a.mids a.sides a.v l.s r.mutual r.room.0 r.room.1 h l.k l.invariant.0),
      rw (m ∙ number_is a.words.now a.links a.mids a.sides a.v l.s r.mutual r.room.0 r.room.1 h l.k l.invariant.0, q)
          (number_more a.words.now a.links a.mids a.sides a.v l.s r.mutual r.room.0 r.room.1 h),
    )

pub returns : goal.returns
returns c = let a = c.args in
    let l = c.loop-s in
    let e : l.s ≡ a.sides = omega arith in
    record { count = l.invariant.0 ∙ rw e (all-met a.words.now a.links a.sides (omega arith)); numbers = l.invariant.1 ∙ rw e }
