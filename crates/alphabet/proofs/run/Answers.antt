use Prim.Native.Nat.{◌+◌, ◌-◌, ◌<◌}
use mathlib.Core.Path.{◌≡◌, refl, ◌∙◌}
use native.Mathlib.Omega.{arith}
use lib.ListN.{length, get_or}
use Rattle.std.specs.Prelude.{Ok, Err}
use Rattle.rules.specs.declared.Counts.{Counts}
use Rattle.rules.specs.Outcome.{Outcome}
use Rattle.alphabet.specs.Sheets.{taken, taken_indices}
use Rattle.alphabet.proofs.Going.{held_first, held_more, held-last, within, takes}
use Rattle.alphabet.proofs.run.Goals as goal
use Rattle.alphabet.proofs.run.Goals.{in-Ok, in_default}

-- a refused sheet takes none
no_room : (r : Outcome) → ((c : Counts) → r ≡ Ok c → ⊥) → (taken r ≡ 0) × (taken_indices r ≡ 0)
no_room (Ok c) h = absurd (h c refl)
no_room (Err x) h = (refl, refl)

pub loop-i-init : goal.loop-i-init
loop-i-init c = (held_first _ _ _ _ c.requires.0, refl, refl, refl, refl, refl)

pub overflow_cast-end : goal.overflow_cast-end
overflow_cast-end c = omega (arith, within _ _ _ _ _ _ _ _ _ _ c.loop-i.invariant.0 (omega arith))

pub overflow_add-end : goal.overflow_add-end
overflow_add-end c = omega (arith, within _ _ _ _ _ _ _ _ _ _ c.loop-i.invariant.0 (omega arith))

pub one-o-requires : goal.one-o-requires
one-o-requires c = (c.loop-i.invariant.0.p-fits, c.loop-i.invariant.0.q-fits)

pub overflow_add-p : goal.overflow_add-p
overflow_add-p c = omega (arith, takes _ _ _ _ _ c.in-Ok.ensures.answer c.loop-i.invariant.0.p-fits c.loop-i.invariant.0.q-fits)

pub overflow_add-q : goal.overflow_add-q
overflow_add-q c = omega (arith, takes _ _ _ _ _ c.in-Ok.ensures.answer c.loop-i.invariant.0.p-fits c.loop-i.invariant.0.q-fits)

pub loop-i-preserved : goal.loop-i-preserved
loop-i-preserved c = let l = c.loop-i in
    let n = get_or c.args.lengths.now l.i 0 in
    let h : l.i < length c.args.lengths.now = omega arith in
    let z : l.at + n - l.at ≡ n = omega arith in
    let ps = c.one-o.auto.positions in
    let is = c.one-o.auto.out in
    let r = c.one-o.result in
    let e : (c.match-o.p ≡ l.p + taken r) × (c.match-o.q ≡ l.q + taken_indices r) × (c.match-o.at ≡ l.at + n) =
    elim c.match-o.branch [
      | in-Ok w ↦ (rw w.in-Ok.is w.p-is, rw w.in-Ok.is w.q-is, w.at-is)
      | in_default w ↦ (let k = no_room r w.in_default.not-Ok in (omega (arith, k, w.p-is), omega (arith, k, w.q-is), w.at-is))
    ] in (
      rw (e.0, e.1, e.2) (held_more _ _ _ _ _ _ _ _ _ _ l.invariant.0 h _ _ _ (rw z at c.one-o.ensures) c.tell.ensures ps is),
      ps ∙ l.invariant.1,
      is ∙ l.invariant.2,
      c.one-o.auto.words ∙ l.invariant.3,
      c.one-o.auto.work ∙ l.invariant.4,
      c.tell.auto.slots ∙ l.invariant.5,
    )

pub shape_of-positions : goal.shape_of-positions
shape_of-positions c = c.loop-i.invariant.1

pub shape_of-out : goal.shape_of-out
shape_of-out c = c.loop-i.invariant.2

pub shape_of-words : goal.shape_of-words
shape_of-words c = c.loop-i.invariant.3

pub shape_of-work : goal.shape_of-work
shape_of-work c = c.loop-i.invariant.4

pub shape_of-slots : goal.shape_of-slots
shape_of-slots c = c.loop-i.invariant.5

pub returns : goal.returns
returns c = held-last _ _ _ _ _ _ _ _ _ _ c.loop-i.invariant.0 (omega (arith, c.loop-i.invariant.0.turns))
