use Prim.Native.Nat.{◌+◌, ◌*◌, ◌≤◌, ◌<◌}
use mathlib.Core.Path.{◌≡◌}
use native.Mathlib.Omega.{arith}
use lib.ListN.{length, get_or}
use Rattle.fontcut.proofs.Along.{along-first, along-more, along-last, along-long, there, text-fits, asks, step_fits}
use Rattle.fontcut.proofs.slots.Lts
use Rattle.fontcut.proofs.slots.Reads
use Rattle.fontcut.proofs.slots.Tie
use Rattle.fontcut.proofs.slots.Goals as goal

abbrev In-loop-k : Type 0
In-loop-k = Lts.In-loop Tie.the-claims Reads.Pre Reads.Post goal.the-invariant-loop-k goal.the-decreases-loop-k Tie.handed_clauses

pub loop-k-init : goal.loop-k-init
loop-k-init c = let a = c.args in
    along-first a.answers.now a.n a.positions.now a.indices.now a.text.now c.requires.1 c.requires.2

-- the slot's own output, and room for its text
here : (c : In-loop-k) →
    (let l = c.loop-k in let a = c.args in
    (l.p + 3 * get_or a.answers.now (5 * l.k + 2) 0 ≤ length a.positions.now) × (l.q + 3 * get_or a.answers.now (5 * l.k + 3) 0 ≤ length a.indices.now)
    × (l.at + 68 + 68 * get_or a.answers.now (5 * l.k + 2) 0 + 65 * get_or a.answers.now (5 * l.k + 3) 0 ≤ length a.text.now))
here c =
    let l = c.loop-k in
    let a = c.args in
    let h : l.k < a.n = omega arith in
    let e = along-long a.answers.now a.n a.positions.now a.indices.now _ _ l.at l.p l.q l.k l.invariant in
    let t = there a.answers.now a.n a.positions.now a.indices.now _ _ l.at l.p l.q l.k l.invariant h in
    let x = text-fits a.answers.now a.n a.positions.now a.indices.now _ _ l.at l.p l.q l.k l.invariant h (omega (arith, c.requires.3, e)) in
    (t.0, t.1, omega (arith, x, e))

-- the text is as long as it was
long : (c : In-loop-k) → length c.loop-k.text ≡ length c.args.text.now
long c = along-long _ _ _ _ _ _ _ _ _ _ c.loop-k.invariant

pub overflow_mul-s : goal.overflow_mul-s
overflow_mul-s c = omega (arith, c.requires.0)

pub overflow_add-v : goal.overflow_add-v
overflow_add-v c = omega (arith, c.requires.0)

pub offset_bounds-answers-s : goal.offset_bounds-answers-s
offset_bounds-answers-s c = omega (arith, c.requires.0)

pub bounds-answers-s : goal.bounds-answers-s
bounds-answers-s c = omega (arith, c.requires.0)

pub overflow_cast-v : goal.overflow_cast-v
overflow_cast-v c = omega (arith, here c.before.before)

pub overflow_add-f : goal.overflow_add-f
overflow_add-f c = omega (arith, c.requires.0)

pub offset_bounds-answers-s-in-loop-k : goal.offset_bounds-answers-s-in-loop-k
offset_bounds-answers-s-in-loop-k c = omega (arith, c.requires.0)

pub bounds-answers-s-in-loop-k : goal.bounds-answers-s-in-loop-k
bounds-answers-s-in-loop-k c = omega (arith, c.requires.0)

pub overflow_cast-f : goal.overflow_cast-f
overflow_cast-f c = omega (arith, here c.before.before.before, c.requires.0)

pub overflow_mul-e : goal.overflow_mul-e
overflow_mul-e c = omega (arith, here c.before.before.before, c.requires.0)

pub overflow_add-e : goal.overflow_add-e
overflow_add-e c = omega (arith, here c.before.before.before, c.requires.0)

pub overflow_mul-g : goal.overflow_mul-g
overflow_mul-g c = omega (arith, here c.before.before.before, c.requires.0)

pub overflow_add-g : goal.overflow_add-g
overflow_add-g c = omega (arith, here c.before.before.before, c.requires.0)

pub overflow_add-end : goal.overflow_add-end
overflow_add-end c = omega (arith, here c.before.before.before, c.requires.0)

pub overflow_mul-end : goal.overflow_mul-end
overflow_mul-end c = omega (arith, here c.before.before.before, c.requires.0)

pub overflow_add-end-in-loop-k : goal.overflow_add-end-in-loop-k
overflow_add-end-in-loop-k c = omega (arith, here c.before.before.before, c.requires.0)

pub overflow_mul-end-in-loop-k : goal.overflow_mul-end-in-loop-k
overflow_mul-end-in-loop-k c = omega (arith, here c.before.before.before, c.requires.0)

pub overflow_add-end-in-loop-k-2 : goal.overflow_add-end-in-loop-k-2
overflow_add-end-in-loop-k-2 c = omega (arith, here c.before.before.before, c.requires.0)

pub offset_bounds-answers-s-in-loop-k-2 : goal.offset_bounds-answers-s-in-loop-k-2
offset_bounds-answers-s-in-loop-k-2 c = omega (arith, here c.before.before.before, c.requires.0)

pub slice_bounds-slot-count : goal.slice_bounds-slot-count
slice_bounds-slot-count c = omega (arith, here c.before.before.before, c.requires.0)

pub offset_bounds-positions-p : goal.offset_bounds-positions-p
offset_bounds-positions-p c = omega (arith, here c.before.before.before.before)

pub slice_bounds-slot-count-in-loop-k : goal.slice_bounds-slot-count-in-loop-k
slice_bounds-slot-count-in-loop-k c = omega (arith, here c.before.before.before.before)

pub offset_bounds-indices-q : goal.offset_bounds-indices-q
offset_bounds-indices-q c = omega (arith, here c.before.before.before.before.before)

pub slice_bounds-slot-count-in-loop-k-2 : goal.slice_bounds-slot-count-in-loop-k-2
slice_bounds-slot-count-in-loop-k-2 c = omega (arith, here c.before.before.before.before.before)

pub slice_bounds-slot-count-in-loop-k-3 : goal.slice_bounds-slot-count-in-loop-k-3
slice_bounds-slot-count-in-loop-k-3 c = omega (arith, here c.before.before.before.before.before.before, long c.before.before.before.before.before.before)

pub slice_bounds-slot-end-in-loop-k : goal.slice_bounds-slot-end-in-loop-k
slice_bounds-slot-end-in-loop-k c = omega (arith, here c.before.before.before.before)

pub slice_bounds-slot-end-in-loop-k-2 : goal.slice_bounds-slot-end-in-loop-k-2
slice_bounds-slot-end-in-loop-k-2 c = omega (arith, here c.before.before.before.before.before)

pub slot-put-requires : goal.slot-put-requires
slot-put-requires c = let l = c.loop-k in
    let a = c.args in
    asks a.answers.now a.n a.positions.now a.indices.now _ _ l.at l.p l.q l.k l.invariant (omega arith) c.requires.0 (omega (arith, c.requires.3, long c.before.before.before.before.before.before.before))

pub overflow_add-at : goal.overflow_add-at
overflow_add-at c = let l = c.loop-k in
    let a = c.args in
    let f = step_fits a.answers.now a.n a.positions.now a.indices.now _ _ l.at l.p l.q l.k l.invariant (omega arith) (omega (arith, c.requires.3, long c.before.before.before.before.before.before.before.before.before.before)) _ c.slot-put.ensures.upper_bound in
    omega (arith, f, long c.before.before.before.before.before.before.before.before.before.before)

pub loop-k-preserved : goal.loop-k-preserved
loop-k-preserved c = let l = c.loop-k in
    let a = c.args in
    along-more a.answers.now a.n a.positions.now a.indices.now _ _ l.at l.p l.q l.k l.invariant (omega arith) (omega (arith, c.requires.3, long c.before.before.before.before.before.before.before.before.before.before)) _ _ c.slot-put.ensures.upper_bound c.slot-put.ensures.put

pub shape_of-text : goal.shape_of-text
shape_of-text c = along-long _ _ _ _ _ _ _ _ _ _ c.loop-k.invariant

pub returns : goal.returns
returns c = let l = c.loop-k in
    let a = c.args in
    let e : l.k ≡ a.n = omega (arith, l.invariant.turns) in
    record { put = along-last _ _ _ _ _ _ _ _ _ _ l.invariant e; upper_bound = omega (arith, e, l.invariant.small, l.invariant.positions, l.invariant.indices, c.requires.3) }
