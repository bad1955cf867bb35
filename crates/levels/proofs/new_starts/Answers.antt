use Prim.Native.Nat.{◌<◌}
use mathlib.Core.Path.{◌≡◌, refl, sym, ◌∙◌}
use mathlib.Core.Bool.{true}
use lib.ListN.{length}
use Rattle.lists.proofs.Stores.{kept_same, kept-count}
use Rattle.rules.specs.Mesh.{first_met, firsts}
use Rattle.faces.specs.Words.{links_in}
use Rattle.levels.proofs.Starts.{start_of, met-word, met-room, met-more}
use native.Mathlib.Omega.{arith}
use Rattle.levels.proofs.new_starts.Lts
use Rattle.levels.proofs.new_starts.Reads
use Rattle.levels.proofs.new_starts.Tie
use Rattle.levels.proofs.new_starts.Goals as goal
use Rattle.levels.proofs.new_starts.Goals.{then-first_met, else-first_met}

abbrev After-first_met : Type 0
After-first_met = Lts.After-first_met Tie.the-claims Reads.Pre Reads.Post goal.the-invariant-loop-s goal.the-decreases-loop-s Tie.handed_clauses

abbrev Then-first_met : Type 0
Then-first_met = Lts.Then1 Tie.the-claims Reads.Pre Reads.Post goal.the-invariant-loop-s goal.the-decreases-loop-s Tie.handed_clauses

test : (c : After-first_met) → c.first_met.result ≡ first_met (links_in c.args.words.now c.args.links c.args.sides) c.loop-s.s
test c =
    let a = c.args in
    let l = c.loop-s in
    let r = c.requires in
    c.first_met.ensures ∙ met-word a.words.now a.links a.to a.sides l.s r.room.0 r.apart (omega arith) l.words l.invariant.1

fits : (c : Then-first_met) → c.loop-s.k < length (firsts (links_in c.args.words.now c.args.links c.args.sides))
fits c =
    let a = c.args in
    let l = c.loop-s in
    let r = c.requires in
    let h = met-room a.words.now a.links a.to a.sides l.s r.room.0 r.apart (omega arith) (sym (test c.before) ∙ c.if-first_met.true) in
    omega (arith, l.invariant.0)

pub overflow_add-words : goal.overflow_add-words
overflow_add-words c = omega (arith, fits c.before, c.requires.room.1)

pub offset_bounds-words-to : goal.offset_bounds-words-to
offset_bounds-words-to c = omega (arith, fits c.before, c.requires.room.1)

pub bounds-words-to : goal.bounds-words-to
bounds-words-to c = omega (arith, fits c.before, c.requires.room.1)

pub overflow_add-k : goal.overflow_add-k
overflow_add-k c = omega (arith, fits c.before, c.requires.room.1)

pub loop-s-preserved : goal.loop-s-preserved
loop-s-preserved c = let a = c.args in
    let l = c.loop-s in
    let r = c.requires in
    let w = a.words.now in
    let p = first_met (links_in w a.links a.sides) in
    let h : l.s < a.sides = omega arith in
    elim c.if-first_met.branch [
      | then-first_met came ↦ (
          let t : p l.s ≡ true = sym (test c.before) ∙ came.if-first_met.true in (
            came.k-is ∙ omega (arith, l.invariant.0, kept-count start_of 1 (λ _. refl) p w a.to a.sides l.s h t),
            came.words-is ∙ rw came.in_fourth.ensures (met-more w a.links a.to a.sides l.s r.room.0 r.apart h l.words l.k l.invariant.1 l.invariant.0 t),
          ))
      | else-first_met came ↦ (
          let e = kept_same start_of 1 (λ _. refl) p w a.to a.sides l.s h (sym (test c.before) ∙ came.if-first_met.false) in
          rw e (came.k-is ∙ l.invariant.0, came.words-is ∙ l.invariant.1))
    ]
