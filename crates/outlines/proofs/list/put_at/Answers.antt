use native.Mathlib.Omega.{arith}
use Prim.Native.Nat.{ℕ, ◌+◌, ◌-◌, ◌*◌, ◌≤◌, ◌<◌}
use mathlib.Core.Path.{◌≡◌, refl, sym, ap, ◌∙◌}
use mathlib.Core.List.{List}
use lib.ListN.{length, get_or, set}
use mathlib.Core.Bool.{true}
use mathlib.Core.Option.{some}
use lib.Seq.{sets, length-sets}
use Rattle.lists.specs.Lists.{gather}
use Rattle.rules.specs.Mesh.{links}
use Rattle.faces.specs.Words.{coded}
use Rattle.outlines.specs.Loops.{leaving, around, begins}
use Rattle.outlines.specs.Pieces.{leaves_at, stored, entry}
use Rattle.outlines.proofs.Steps.{lowest-few, loop-few}
use Rattle.outlines.proofs.Marks.{word_none, word_some, First, first-of}
use Rattle.outlines.proofs.Listing.{pow_small, mul_small, entry-store, length-loop, entry-none, entry-some, begins-not, begins-is, begins-some}
use Rattle.outlines.proofs.list.put_at.Lts
use Rattle.outlines.proofs.list.put_at.Reads
use Rattle.outlines.proofs.list.put_at.Tie
use Rattle.outlines.proofs.list.put_at.Goals as goal

abbrev Else-marks-u : Type 0
Else-marks-u = Lts.Else1 Tie.the-claims Reads.Pre Reads.Post Tie.handed_clauses

abbrev Start : Type 0
Start = Lts.Start Tie.the-claims Reads.Pre Reads.Post Tie.handed_clauses

abbrev After-put_loop-n : Type 0
After-put_loop-n = Lts.After-put_loop Tie.the-claims Reads.Pre Reads.Post Tie.handed_clauses

begun : (k : Else-marks-u) → (begins k.args.indices.now (links k.args.indices.now) k.args.u ≡ true)
begun k = begins-is k.args.v k.args.indices.now k.args.marks.now k.args.u k.requires.vertex.4 k.requires.vertex.0 k.if-marks-u.false

word : (s : Start) → (get_or s.args.leaving.now s.args.u 0) ≡ coded (leaving s.args.indices.now (links s.args.indices.now) s.args.u)
word s = s.requires.cage.3.word s.args.u (omega (arith, s.requires.vertex.0, s.requires.vertex.2))

some_at : (s : Start) → begins s.args.indices.now (links s.args.indices.now) s.args.u ≡ true → leaving s.args.indices.now (links s.args.indices.now) s.args.u ≡ some ((get_or s.args.leaving.now s.args.u 0) - 1)
some_at s e =
    let o = leaving s.args.indices.now (links s.args.indices.now) s.args.u in
    word_some (get_or s.args.leaving.now s.args.u 0) o (word s) (λ z. begins-some s.args.indices.now s.args.u e (word_none (get_or s.args.leaving.now s.args.u 0) o (word s) z))

positive : (s : Start) → begins s.args.indices.now (links s.args.indices.now) s.args.u ≡ true → 0 < (get_or s.args.leaving.now s.args.u 0)
positive s e = omega (arith, word s ∙ ap coded (some_at s e))

short : (s : Start) → (get_or s.args.leaving.now s.args.u 0) ≤ 12288
short s = omega (arith, word s, lowest-few (leaves_at s.args.indices.now s.args.u) (length s.args.indices.now), s.requires.cage.0.few)

first-at : (s : Start) → begins s.args.indices.now (links s.args.indices.now) s.args.u ≡ true → First s.args.indices.now ((get_or s.args.leaving.now s.args.u 0) - 1)
first-at s e = first-of s.args.v s.args.indices.now s.requires.cage.2 s.args.u ((get_or s.args.leaving.now s.args.u 0) - 1) (some_at s e)

long : (s : Start) → s.args.all * length (around s.args.indices.now (links s.args.indices.now) ((get_or s.args.leaving.now s.args.u 0) - 1)) ≡ length (gather (stored s.args.levels s.args.out.now) (around s.args.indices.now (links s.args.indices.now) ((get_or s.args.leaving.now s.args.u 0) - 1)))
long s =
    let xs = around s.args.indices.now (links s.args.indices.now) ((get_or s.args.leaving.now s.args.u 0) - 1) in
    ap (λ (z : ℕ). z * length xs) s.requires.out.0 ∙ sym (length-loop s.args.levels s.args.out.now xs)

roomy : (s : Start) → begins s.args.indices.now (links s.args.indices.now) s.args.u ≡ true → (s.args.at + 1) + s.args.all * length (around s.args.indices.now (links s.args.indices.now) ((get_or s.args.leaving.now s.args.u 0) - 1)) ≤ length s.args.list.now
roomy s e =
    let h : s.args.at + length (entry (gather (stored s.args.levels s.args.out.now) (around s.args.indices.now (links s.args.indices.now) ((get_or s.args.leaving.now s.args.u 0) - 1)))) ≤ length s.args.list.now = rw (entry-some s.args.levels s.args.indices.now s.args.out.now s.args.u ((get_or s.args.leaving.now s.args.u 0) - 1) e (some_at s e)) at s.requires.room in
    omega (arith, h, long s)

long-at : (k : After-put_loop-n) → (k.args.all * k.put_loop-n.result ≡ length (gather (stored k.args.levels k.args.out.now) (around k.args.indices.now (links k.args.indices.now) ((get_or k.args.leaving.now k.args.u 0) - 1))))
long-at k = ap (λ (z : ℕ). k.args.all * z) k.put_loop-n.ensures.sides ∙ long k.before.before.before.before.before.before.before.before.before.before

small : (k : After-put_loop-n) → k.args.all * k.put_loop-n.result ≤ 1572864
small k =
    let f = first-at k.before.before.before.before.before.before.before.before.before.before (begun k.before.before.before) in
    mul_small k.args.all k.put_loop-n.result (rw k.requires.out.0 (pow_small k.args.levels k.requires.out.1))
    (rw k.put_loop-n.ensures.sides (omega (arith, loop-few k.args.v k.args.indices.now k.requires.cage.2 ((get_or k.args.leaving.now k.args.u 0) - 1) f.again, k.requires.cage.0.few)))

fits : (k : After-put_loop-n) → ((k.args.at + 1) + k.args.all * k.put_loop-n.result ≤ length k.args.list.now)
fits k = rw k.put_loop-n.ensures.sides (roomy k.before.before.before.before.before.before.before.before.before.before (begun k.before.before.before))

pub returns-then-marks-u : goal.returns-then-marks-u
returns-then-marks-u c = let e = entry-none c.args.levels c.args.indices.now c.args.out.now c.args.u (begins-not c.args.v c.args.indices.now c.args.marks.now c.args.u c.requires.vertex.4 c.requires.vertex.0 c.if-marks-u.true) in
    record { list = rw e refl; next = rw e (omega arith) }

pub overflow_sub-first : goal.overflow_sub-first
overflow_sub-first c = omega (arith, positive c.before.before.before.before.before.before.before.before.before (begun c.before.before))

pub overflow_cast-first : goal.overflow_cast-first
overflow_cast-first c = omega (arith, short c.before.before.before.before.before.before.before.before.before)

pub put_loop-n-requires : goal.put_loop-n-requires
put_loop-n-requires c = let e = begun c.before.before.before in
    let f = first-at c.before.before.before.before.before.before.before.before.before.before e in
    record { cage = c.requires.cage; first = (f.below, f.again); out = (c.requires.out.0, c.requires.out.2, c.requires.out.1); room = roomy c.before.before.before.before.before.before.before.before.before.before e }

pub overflow_mul-list : goal.overflow_mul-list
overflow_mul-list c = omega (arith, small c.before.before.before)

pub overflow_cast-list : goal.overflow_cast-list
overflow_cast-list c = omega (arith, small c.before.before.before)

pub bounds-list-at : goal.bounds-list-at
bounds-list-at c = rw (c.put_loop-n.ensures.list, length-sets) (omega (arith, roomy c.before.before.before.before.before.before.before.before.before.before.before.before.before (begun c.before.before.before.before.before.before)))

pub overflow_mul-result : goal.overflow_mul-result
overflow_mul-result c = omega (arith, small c.before.before.before)

pub overflow_add-result-2 : goal.overflow_add-result-2
overflow_add-result-2 c = omega (arith, fits c.before.before.before)

pub returns : goal.returns
returns c = let e = begun c.before.before.before.before.before.before in
    let r = c.put_loop-n.ensures in
    let g = (gather (stored c.args.levels c.args.out.now) (around c.args.indices.now (links c.args.indices.now) ((get_or c.args.leaving.now c.args.u 0) - 1))) in
    let q = long-at c.before.before.before in
    let k = entry-some c.args.levels c.args.indices.now c.args.out.now c.args.u _ e (some_at c.before.before.before.before.before.before.before.before.before.before.before.before.before e) in record { list = ap (λ (z : List ℕ). set z c.args.at (c.args.all * c.put_loop-n.result)) r.list ∙ entry-store g c.args.list.now c.args.at _ q ∙ ap (sets c.args.list.now c.args.at) (sym k); next = rw k (omega (arith, q)) }
