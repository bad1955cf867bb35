use native.Mathlib.Omega.{arith}
use Prim.Native.Nat.{ℕ, ◌-◌, ◌*◌, ◌/◌}
use mathlib.Core.Path.{refl, sym, subst}
use mathlib.Core.List.{List}
use lib.ListN.{length}
use Rattle.rules.specs.Mesh.{cage}
use Rattle.room.specs.Held.{half_of}
use Rattle.marks.specs.Marks.{Listable}
use Rattle.sharp.proofs.First.{listable, marks-loaded-from, first_good, before-marks, marks-fit, cage-linked}
use Rattle.sharp.proofs.load_marks.Goals as goal

pub overflow_sub-marks : goal.overflow_sub-marks
overflow_sub-marks c = omega (arith, marks-fit c.args.levels c.args.sharp.now c.args.indices.now c.args.coords.now c.args.nf c.args.nv c.requires.planned.0)

pub no_marks-requires : goal.no_marks-requires
no_marks-requires c = omega (arith, marks-fit c.args.levels c.args.sharp.now c.args.indices.now c.args.coords.now c.args.nf c.args.nv c.requires.planned.0, c.requires.room)

pub mark_words-requires : goal.mark_words-requires
mark_words-requires c = subst (λ (z : List ℕ). Listable z (3 * (length c.args.indices.now / 3)) (half_of c.args.nf c.args.nv - length c.args.indices.now / 3) (length c.args.indices.now / 3) c.args.sharp.now) (sym c.no_marks.ensures) (listable c.args.words.now (half_of c.args.nf c.args.nv - length c.args.indices.now / 3) (length c.args.indices.now / 3) (cage (length c.args.coords.now / 3) c.args.indices.now) c.requires.held (first_good c.args.levels c.args.sharp.now c.args.indices.now c.args.coords.now c.args.nf c.args.nv c.requires.planned.0) c.args.sharp.now (cage-linked c.args.levels c.args.sharp.now c.args.indices.now c.args.coords.now c.args.nf c.args.nv c.requires.planned.0 c.requires.planned.1) (before-marks c.args.levels c.args.sharp.now c.args.indices.now c.args.coords.now c.args.nf c.args.nv c.requires.planned.0) (omega (arith, marks-fit c.args.levels c.args.sharp.now c.args.indices.now c.args.coords.now c.args.nf c.args.nv c.requires.planned.0, c.requires.room)))

pub returns : goal.returns
returns c = marks-loaded-from c.args.words.now (half_of c.args.nf c.args.nv - length c.args.indices.now / 3) (length c.args.indices.now / 3) (cage (length c.args.coords.now / 3) c.args.indices.now) c.requires.held (first_good c.args.levels c.args.sharp.now c.args.indices.now c.args.coords.now c.args.nf c.args.nv c.requires.planned.0) c.args.sharp.now (cage-linked c.args.levels c.args.sharp.now c.args.indices.now c.args.coords.now c.args.nf c.args.nv c.requires.planned.0 c.requires.planned.1) (before-marks c.args.levels c.args.sharp.now c.args.indices.now c.args.coords.now c.args.nf c.args.nv c.requires.planned.0) (omega (arith, marks-fit c.args.levels c.args.sharp.now c.args.indices.now c.args.coords.now c.args.nf c.args.nv c.requires.planned.0, c.requires.room)) (half_of c.args.nf c.args.nv) refl (marks-fit c.args.levels c.args.sharp.now c.args.indices.now c.args.coords.now c.args.nf c.args.nv c.requires.planned.0).1 _ _ c.no_marks.ensures c.mark_words.ensures
