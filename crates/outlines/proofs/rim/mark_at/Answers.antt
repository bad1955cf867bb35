use native.Mathlib.Omega.{arith}
use Prim.Native.Nat.{◌-◌, ◌≤◌}
use mathlib.Core.Path.{◌≡◌, refl}
use lib.ListN.{length, get_or}
use mathlib.Core.Option.{some}
use Rattle.rules.specs.Mesh.{links}
use Rattle.faces.specs.Words.{coded}
use Rattle.outlines.specs.Loops.{leaving}
use Rattle.outlines.specs.Pieces.{leaves_at}
use Rattle.outlines.proofs.Steps.{lowest-few}
use Rattle.outlines.proofs.Marks.{mark-none, mark-old, mark-new, word_none, word_some, first-of}
use Rattle.outlines.proofs.rim.mark_at.Lts
use Rattle.outlines.proofs.rim.mark_at.Reads
use Rattle.outlines.proofs.rim.mark_at.Tie
use Rattle.outlines.proofs.rim.mark_at.Goals as goal

abbrev Start : Type 0
Start = Lts.Start Tie.the-claims Reads.Pre Reads.Post Tie.handed_clauses

word : (s : Start) → get_or s.args.leaving.now s.args.u 0 ≡ coded (leaving s.args.indices.now (links s.args.indices.now) s.args.u)
word s = s.requires.cage.3.word s.args.u (omega (arith, s.requires.vertex.0, s.requires.vertex.2))

some_at : (s : Start) → (get_or s.args.leaving.now s.args.u 0 ≡ 0 → ⊥) → leaving s.args.indices.now (links s.args.indices.now) s.args.u ≡ some (get_or s.args.leaving.now s.args.u 0 - 1)
some_at s z = word_some (get_or s.args.leaving.now s.args.u 0) (leaving s.args.indices.now (links s.args.indices.now) s.args.u) (word s) z

short : (s : Start) → get_or s.args.leaving.now s.args.u 0 ≤ 12288
short s = omega (arith, word s, lowest-few (leaves_at s.args.indices.now s.args.u) (length s.args.indices.now), s.requires.cage.0.few)

pub returns-then-w-eq0 : goal.returns-then-w-eq0
returns-then-w-eq0 c = let x = mark-none c.args.v c.args.indices.now c.requires.cage.2 c.args.u c.args.marks.now (word_none _ _ (word c.before.before.before.before.before.before) c.if-w-eq0.true) c.requires.marks in
    record { begins = x.0; marks = (x.1, refl) }

pub returns-then-marks-u-ne0 : goal.returns-then-marks-u-ne0
returns-then-marks-u-ne0 c = let x = mark-old c.args.v c.args.indices.now c.requires.cage.2 c.args.u _ c.args.marks.now (some_at c.before.before.before.before.before.before.before.before c.if-w-eq0.false) c.if-marks-u-ne0.true c.requires.marks in
    record { begins = x.0; marks = (x.1, refl) }

pub overflow_cast-w : goal.overflow_cast-w
overflow_cast-w c = omega (arith, short c.before.before.before.before.before.before.before.before)

pub mark_loop-requires : goal.mark_loop-requires
mark_loop-requires c = let f = first-of c.args.v c.args.indices.now c.requires.cage.2 c.args.u _ (some_at c.before.before.before.before.before.before.before.before.before c.if-w-eq0.false) in
    record { cage = c.requires.cage; first = (f.below, f.again); room = c.requires.marks.long }

pub returns : goal.returns
returns c = let p = c.mark_loop.ensures in
    let x = mark-new c.args.v c.args.indices.now c.requires.cage.2 c.args.u _ c.args.marks.now _ (some_at c.before.before.before.before.before.before.before.before.before.before.before.before c.if-w-eq0.false) c.if-marks-u-ne0.false c.requires.marks p in
    record { begins = x.0; marks = (x.1, p.long) }
