use native.Mathlib.Omega.{arith}
use Prim.Native.Nat.{ℕ, ◌≤◌, ◌<◌}
use mathlib.Core.Path.{◌≡◌, ap, ◌∙◌}
use lib.ListN.{length, get_or}
use Rattle.rules.specs.Mesh.{corner, onward, links}
use Rattle.faces.specs.Words.{coded}
use Rattle.outlines.specs.Loops.{leaving, next_rim}
use Rattle.outlines.specs.Pieces.{leaves_at}
use Rattle.outlines.proofs.Steps.{step-home, step-on, lowest-few}
use Rattle.outlines.proofs.rim.next_word.Lts
use Rattle.outlines.proofs.rim.next_word.Reads
use Rattle.outlines.proofs.rim.next_word.Tie
use Rattle.outlines.proofs.rim.next_word.Goals as goal

abbrev After-onward : Type 0
After-onward = Lts.After-onward Tie.the-claims Reads.Pre Reads.Post

-- where side t ends is a vertex
ends : (k : After-onward) → corner k.args.indices.now k.onward.result < length k.args.leaving.now
ends k =
    k.requires.1.each k.onward.result (rw k.onward.ensures (omega (arith, k.requires.0.thirds, k.requires.3)))

told : (k : After-onward) → (get_or k.args.leaving.now (corner k.args.indices.now k.onward.result) 0 ≡ coded (next_rim k.args.indices.now (links k.args.indices.now) k.args.t))
told k =
    let fs = k.args.indices.now in
    k.requires.2.word (corner fs k.onward.result) (ends k) ∙ ap (λ (x : ℕ). coded (leaving fs (links fs) (corner fs x))) k.onward.ensures

short : (k : After-onward) → (get_or k.args.leaving.now (corner k.args.indices.now k.onward.result) 0 ≤ 12288)
short k =
    let fs = k.args.indices.now in
    omega (arith, told k, lowest-few (leaves_at fs (corner fs (onward k.args.t))) (length fs), k.requires.0.few)

pub overflow_cast-w : goal.overflow_cast-w
overflow_cast-w c = omega (arith, ends c.before.before)

pub offset_bounds-leaving-indices : goal.offset_bounds-leaving-indices
offset_bounds-leaving-indices c = omega (arith, ends c.before.before)

pub bounds-leaving-indices : goal.bounds-leaving-indices
bounds-leaving-indices c = ends c.before.before.before

pub overflow_cast-w-2 : goal.overflow_cast-w-2
overflow_cast-w-2 c = omega (arith, short c.before.before.before)

pub returns-then-w-first : goal.returns-then-w-first
returns-then-w-first c = step-home c.args.first (get_or c.args.leaving.now (corner c.args.indices.now c.onward.result) 0) (next_rim c.args.indices.now (links c.args.indices.now) c.args.t) (told c.before.before.before.before) c.if-w-first.true

pub returns-else-w-first : goal.returns-else-w-first
returns-else-w-first c = step-on c.args.first (get_or c.args.leaving.now (corner c.args.indices.now c.onward.result) 0) (next_rim c.args.indices.now (links c.args.indices.now) c.args.t) (told c.before.before.before.before) c.if-w-first.false
