use Prim.Native.Nat.{◌<◌}
use mathlib.Core.Path.{◌≡◌, refl, sym, ◌∙◌}
use mathlib.Core.Bool.{true}
use lib.ListN.{length, length-set}
use Rattle.lists.specs.Lists.{part}
use Rattle.lists.proofs.Stores.{kept_same, kept-count}
use Rattle.rules.specs.Mesh.{links, first_met, firsts}
use Rattle.levels.proofs.Starts.{start_of}
use Rattle.plain.proofs.Numbers.{met-is, starts-kept, met-room, met-more, starts-all}
use native.Mathlib.Omega.{arith}
use Rattle.plain.proofs.level.new_starts.Lts
use Rattle.plain.proofs.level.new_starts.Reads
use Rattle.plain.proofs.level.new_starts.Tie
use Rattle.plain.proofs.level.new_starts.Goals as goal
use Rattle.plain.proofs.level.new_starts.Goals.{then-first_met, else-first_met}

abbrev After-first_met : Type 0
After-first_met = Lts.After-first_met Tie.the-claims Reads.Pre Reads.Post goal.the-invariant-loop-s goal.the-decreases-loop-s Tie.handed_clauses

abbrev Then-first_met : Type 0
Then-first_met = Lts.Then1 Tie.the-claims Reads.Pre Reads.Post goal.the-invariant-loop-s goal.the-decreases-loop-s Tie.handed_clauses

test : (c : After-first_met) →
    (let a = c.args in
    c.first_met.result ≡ first_met (links (part a.at a.n a.words.now)) c.loop-s.s)
test c =
    let l = c.loop-s in
    let a = c.args in
    let r = c.requires in
    let x = a.words.now in
    let h : l.s < a.n = c.loop-s-test.true in
    c.first_met.ensures ∙ met-is x a.at a.n r.room.0.room l.s h l.words (starts-kept x a.at a.n r.room.0.room a.to l.s r.apart h l.words l.invariant.3) c.across-w.result c.across-w.ensures

fits : (c : Then-first_met) →
    (let a = c.args in
    c.loop-s.k < length (firsts (links (part a.at a.n a.words.now))))
fits c =
    let l = c.loop-s in
    let a = c.args in
    let r = c.requires in
    let h : l.s < a.n = c.loop-s-test.true in
    let m = met-room a.words.now a.at a.n r.room.0.room a.to l.s r.apart h (sym (test c.before) ∙ c.if-first_met.true) in
    omega (arith, l.invariant.2)

pub loop-s-init : goal.loop-s-init
loop-s-init c = (omega arith, refl, refl, refl)

pub across-w-requires : goal.across-w-requires
across-w-requires c = let l = c.loop-s in
    let p = c.requires.room.0 in
    (record { room = omega (arith, l.invariant.1, p.room); thirds = p.thirds; small = p.small }, c.loop-s-test.true)

pub overflow_cast-words : goal.overflow_cast-words
overflow_cast-words c = omega (arith, c.in_fourth.ensures, c.requires)

pub overflow_add-words : goal.overflow_add-words
overflow_add-words c = omega (arith, fits c.before, c.requires.room.1)

pub offset_bounds-words-to : goal.offset_bounds-words-to
offset_bounds-words-to c = omega (arith, fits c.before, c.requires.room.1)

pub bounds-words-to : goal.bounds-words-to
bounds-words-to c = omega (arith, fits c.before, c.requires.room.1)

pub overflow_add-k : goal.overflow_add-k
overflow_add-k c = omega (arith, fits c.before, c.requires.room.1)

pub loop-s-preserved : goal.loop-s-preserved
loop-s-preserved c = let l = c.loop-s in
    let a = c.args in
    let r = c.requires in
    let w = a.words.now in
    let p = first_met (links (part a.at a.n w)) in
    let h : l.s < a.n = c.loop-s-test.true in
    elim c.if-first_met.branch [
      | then-first_met came ↦ (
          let t : p l.s ≡ true = sym (test c.before) ∙ came.if-first_met.true in (
            omega arith,
            rw came.words-is (simp length-set l.invariant.1),
            came.k-is ∙ omega (arith, l.invariant.2, kept-count start_of 1 (λ _. refl) p w a.to a.n l.s h t),
            came.words-is ∙ rw came.in_fourth.ensures (met-more w a.at a.n r.room.0.room a.to l.s r.apart h l.words l.k l.invariant.3 l.invariant.2 t),
          )
          )
      | else-first_met came ↦ (
          let e = kept_same start_of 1 (λ _. refl) p w a.to a.n l.s h (sym (test c.before) ∙ came.if-first_met.false) in
          (omega arith, rw came.words-is l.invariant.1, rw e (came.k-is ∙ l.invariant.2), rw e (came.words-is ∙ l.invariant.3))
          )
    ]

pub returns : goal.returns
returns c = let a = c.args in
    let e : c.loop-s.s ≡ a.n = omega arith in
    c.loop-s.invariant.3 ∙ rw e (starts-all a.words.now a.at a.n c.requires.room.0.room a.to)
