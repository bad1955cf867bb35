use Prim.Native.Nat.{ℕ, ◌+◌, ◌≤◌, ◌<◌}
use mathlib.Core.Path.{◌≡◌, refl, ap, ◌∙◌}
use mathlib.Core.Bool.{Bool}
use lib.ListN.{set, length-set}
use Rattle.lists.specs.Lists.{bit, part}
use Rattle.lists.proofs.Places.{tally-below}
use Rattle.rules.specs.Mesh.{links, first_met}
use Rattle.plain.proofs.Numbers.{number_is, number_more, tally-more, all-met}
use native.Mathlib.Omega.{arith}
use Rattle.plain.proofs.level.number.Lts
use Rattle.plain.proofs.level.number.Reads
use Rattle.plain.proofs.level.number.Tie
use Rattle.plain.proofs.level.number.Goals as goal

abbrev At-loop-s : Type 0
At-loop-s = Lts.At-loop Tie.the-claims Reads.Pre Reads.Post goal.the-invariant-loop-s goal.the-decreases-loop-s Tie.handed_clauses

few : (c : At-loop-s) → c.loop-s.k ≤ c.loop-s.s
few c =
    let a = c.args in
    omega (arith, c.loop-s.invariant.2, tally-below (first_met (links (part a.at a.n a.words.now))) c.loop-s.s)

pub loop-s-init : goal.loop-s-init
loop-s-init c = (omega arith, refl, refl, refl)

pub across-w-requires : goal.across-w-requires
across-w-requires c = let l = c.loop-s in
    let p = c.requires.room.2 in
    (record { room = omega (arith, l.invariant.1, p.room); thirds = p.thirds; small = p.small }, c.loop-s-test.true)

pub overflow_add-v : goal.overflow_add-v
overflow_add-v c = omega (arith, few c.before.before)

pub overflow_cast-v : goal.overflow_cast-v
overflow_cast-v c = omega (arith, few c.before.before)

pub counted-k-requires : goal.counted-k-requires
counted-k-requires c = omega (arith, few c.before.before.before.before)

pub loop-s-preserved : goal.loop-s-preserved
loop-s-preserved c = let l = c.loop-s in
    let a = c.args in
    let r = c.requires in
    let x = a.words.now in
    let h : l.s < a.n = c.loop-s-test.true in
    let w = c.across-w.result in (
      omega arith,
      simp length-set l.invariant.1,
      c.counted-k.ensures ∙ ap (λ (b : Bool). l.k + bit b) c.first_met.ensures
          ∙ tally-more x a.at a.n r.room.2.room a.mids a.v l.s r.room.0 r.room.1 h r.mutual l.words l.invariant.3 w c.across-w.ensures l.k l.invariant.2,
      ap (λ (m : ℕ). set l.words (a.mids + l.s) m)
          (c.edge_number-m.ensures ∙ number_is x a.at a.n r.room.2.room a.mids a.v l.s r.room.0 r.room.1 h r.mutual l.words l.invariant.3 w c.across-w.ensures l.k l.invariant.2)
          ∙ number_more x a.at a.n r.room.2.room a.mids a.v l.s r.room.0 r.room.1 h r.mutual l.words l.invariant.3 w c.across-w.ensures l.k l.invariant.2,
    )

pub returns : goal.returns
returns c = let a = c.args in
    let l = c.loop-s in
    let e : l.s ≡ a.n = omega arith in
    record { count = l.invariant.2 ∙ rw e (all-met a.words.now a.at a.n c.requires.room.2.room); numbers = l.invariant.3 ∙ rw e }
