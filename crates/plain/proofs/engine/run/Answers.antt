use native.Mathlib.Omega.{arith}
use Prim.Native.Nat.{◌*◌}
use mathlib.Core.Path.{ap, ◌∙◌}
use lib.IntN.{pos}
use lib.ListN.{length}
use Rattle.lists.proofs.Stores.{length-cleared}
use Rattle.rules.specs.Position.{whole}
use Rattle.rules.specs.Sharp.{sharp_last}
use Rattle.room.specs.Held.{half_of, third_of, Kept}
use Rattle.room.proofs.Held.{kept_then}
use Rattle.room.proofs.First.{clear_kept, parts_are, within, small, loads, load-room, first-kept}
use Rattle.sharp.proofs.First.{first-coords}
use Rattle.plain.specs.Held.{Held}
use Rattle.plain.proofs.First.{first-loaded, first-held}
use Rattle.plain.proofs.engine.run.Lts
use Rattle.plain.proofs.engine.run.Reads
use Rattle.plain.proofs.engine.run.Tie
use Rattle.plain.proofs.engine.run.Goals as goal

abbrev After-copy : Type 0
After-copy = Lts.After-copy Tie.the-claims Reads.Pre Reads.Post Tie.handed_clauses

abbrev After-refine : Type 0
After-refine = Lts.After-refine Tie.the-claims Reads.Pre Reads.Post Tie.handed_clauses

-- level 0 is held, and nothing past the needed lengths has changed
started : (k : After-copy) →
    (Held (sharp_last whole 0 k.args.sharp.now k.args.indices.now k.args.coords.now) 0 (half_of k.args.nf k.args.nv) (third_of k.args.nv) k.load_marks.new.words k.copy.new.s
    × Kept (2 * half_of k.args.nf k.args.nv) k.load_marks.new.words k.args.words.now × Kept (2 * third_of k.args.nv) k.copy.new.s k.args.work.now)
started k =
    let f = first-kept whole k.args.levels k.args.indices.now k.args.coords.now k.args.nf k.args.nv k.requires.planned.0 k.args.words.now k.args.work.now k.requires.room.0 k.requires.room.1.0 in
    let m = k.load_marks.ensures in
    let a : Kept (2 * half_of k.args.nf k.args.nv) k.load_words.new.words k.args.words.now = (first-loaded k.args.levels k.args.sharp.now k.args.indices.now k.args.coords.now k.args.nf k.args.nv k.requires.planned.0 k.args.words.now _ k.requires.room.0 k.load_words.ensures).1 in
    let d : Kept (2 * third_of k.args.nv) k.copy.new.s k.args.work.now = rw k.copy.ensures f.1 in
    (first-held k.args.levels k.args.sharp.now k.args.indices.now k.args.coords.now k.args.nf k.args.nv k.requires.planned.0 _ _ _ m (first-coords k.args.levels k.args.sharp.now k.args.indices.now k.args.coords.now k.args.nf k.args.nv k.requires.planned.0 k.args.work.now _ k.requires.room.1.0 k.copy.ensures), kept_then m.kept a, d)

-- and so after the levels
kept : (k : After-refine) → (Kept (2 * half_of k.args.nf k.args.nv) k.refine.new.words k.args.words.now × Kept (2 * third_of k.args.nv) k.refine.new.work k.args.work.now)
kept k = let f = started k.before.before.before.before in (kept_then k.refine.ensures.kept.0 f.1, kept_then k.refine.ensures.kept.1 f.2)

pub load_words-requires : goal.load_words-requires
load_words-requires c = ((loads whole c.args.levels c.args.indices.now c.args.coords.now c.args.nf c.args.nv c.requires.planned.0).0, (loads whole c.args.levels c.args.indices.now c.args.coords.now c.args.nf c.args.nv c.requires.planned.0).3, omega (arith, load-room whole c.args.levels c.args.indices.now c.args.coords.now c.args.nf c.args.nv c.requires.planned.0, c.requires.room.0))

pub load_marks-requires : goal.load_marks-requires
load_marks-requires c = let f = first-loaded c.args.levels c.args.sharp.now c.args.indices.now c.args.coords.now c.args.nf c.args.nv c.requires.planned.0 c.args.words.now _ c.requires.room.0 c.load_words.ensures in
    record { planned = c.requires.planned; held = f.0; room = omega (arith, f.1.long, c.requires.room.0) }

pub copy-requires : goal.copy-requires
copy-requires c = omega (arith, (small whole c.args.levels c.args.indices.now c.args.coords.now c.args.nf c.args.nv c.requires.planned.0).1, within whole c.args.levels c.args.indices.now c.args.coords.now c.args.nf c.args.nv c.requires.planned.0, c.requires.room.1.0)

pub refine-requires : goal.refine-requires
refine-requires c = let f = started c.before.before.before.before in
    record { cage = c.requires.planned.1; parts = parts_are whole c.args.levels c.args.indices.now c.args.coords.now c.args.nf c.args.nv c.requires.planned.0; held = f.0; room = (omega (arith, f.1.long, c.requires.room.0), omega (arith, f.2.long, c.requires.room.1.0)) }

pub finish-requires : goal.finish-requires
finish-requires c = let f = kept c.before.before.before.before.before.before in
    record { planned = c.requires.planned; held = c.refine.ensures.held; room = (omega (arith, f.0.long, c.requires.room.0), (omega (arith, f.1.long, c.requires.room.1.0), c.requires.room.1.1)) }

pub overflow_mul-half-3 : goal.overflow_mul-half-3
overflow_mul-half-3 c = omega (arith, c.requires.room.0)

pub clear-requires : goal.clear-requires
clear-requires c = let f = kept c.before.before.before.before.before.before.before.before.before.before.before in omega (arith, f.0.long, c.requires.room.0)

pub overflow_mul-third-2 : goal.overflow_mul-third-2
overflow_mul-third-2 c = omega (arith, c.requires.room.1.0)

pub clear-requires-2 : goal.clear-requires-2
clear-requires-2 c = let f = kept c.before.before.before.before.before.before.before.before.before.before.before.before.before.before.before in omega (arith, f.1.long, c.requires.room.1.0)

pub shape_of-words : goal.shape_of-words
shape_of-words c = let f = kept c.before.before.before.before.before.before.before.before.before.before.before.before.before.before.before.before.before in ap length c.clear.ensures ∙ length-cleared (2 * half_of c.args.nf c.args.nv) 0 _ (omega (arith, f.0.long, c.requires.room.0)) ∙ f.0.long

pub returns : goal.returns
returns c = let f = kept c.before.before.before.before.before.before.before.before.before.before.before.before.before.before.before.before.before in record { positions = c.finish.ensures.positions; out = c.finish.ensures.out; words = c.clear.ensures ∙ clear_kept 0 (2 * half_of c.args.nf c.args.nv) _ c.args.words.now f.0; work = c.clear-2.ensures ∙ clear_kept (pos 0) (2 * third_of c.args.nv) _ c.args.work.now f.1 }
