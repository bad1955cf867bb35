use native.Mathlib.Omega.{arith}
use mathlib.Core.Path.{refl}
use lib.IntN.{ℤ, pos}
use mir.Syntax.{w32, w64}
use mir.Val.{SFits}
use mir.ValLaws.{to_z-of_z}
use Rattle.listing.specs.Text.{bias}
use Rattle.listing.proofs.Laws.{wide-64, bias-add, bias-lt}
use Rattle.listing.proofs.biased.Goals as goal

wide : (z : ℤ) → SFits w32 z → SFits w64 (pos (bias z))
wide z h = record { sfits = omega (arith, bias-lt z h) }

pub overflow_cast-result : goal.overflow_cast-result
overflow_cast-result c = rw (to_z-of_z w32 c.args.x c.ranges.x) (wide-64 _ c.ranges.x)

pub overflow_add-result : goal.overflow_add-result
overflow_add-result c = let h = c.ranges.x in
    let z = c.args.x in
    rw (to_z-of_z w32 z h, to_z-of_z w64 z (wide-64 z h), bias-add z h) (wide z h)

pub overflow_cast-result-2 : goal.overflow_cast-result-2
overflow_cast-result-2 c = let h = c.ranges.x in
    let z = c.args.x in
    rw (to_z-of_z w32 z h, to_z-of_z w64 z (wide-64 z h), bias-add z h, to_z-of_z w64 (pos (bias z)) (wide z h))
    (tt, record { fits = omega (arith, bias-lt z h) })

pub returns : goal.returns
returns c = let h = c.ranges.x in
    let z = c.args.x in
    rw (to_z-of_z w32 z h, to_z-of_z w64 z (wide-64 z h), bias-add z h, to_z-of_z w64 (pos (bias z)) (wide z h))
    (refl, bias-lt z h)
