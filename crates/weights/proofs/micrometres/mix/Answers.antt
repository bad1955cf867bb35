use mathlib.Core.Path.{refl}
use Prim.Native.Nat.{◌+◌, ◌*◌, ◌≤◌}
use native.Mathlib.Omega.{arith}
use Rattle.whole.specs.Whole.{reach}
use Rattle.weights.specs.Lent.{own}
use Rattle.weights.proofs.Means.{blend-fits}
use Rattle.weights.proofs.micrometres.mix.Lts
use Rattle.weights.proofs.micrometres.mix.Reads
use Rattle.weights.proofs.micrometres.mix.Goals as goal

abbrev Start : Type 0
Start = Lts.Start Reads.Pre Reads.Post

most : (s : Start) → own s.args.b s.args.k * s.args.p + s.args.b.each * s.args.s ≤ s.args.b.all * (2 * reach)
most s = blend-fits s.requires.0 s.requires.1.0 s.requires.1.1

pub overflow_mul-result : goal.overflow_mul-result
overflow_mul-result c = let s = c.before.before in omega (arith, most s, s.requires.0.few)

pub overflow_mul-result-2 : goal.overflow_mul-result-2
overflow_mul-result-2 c = let s = c.before.before.before in omega (arith, most s, s.requires.0.few)

pub overflow_add-result : goal.overflow_add-result
overflow_add-result c = let s = c.before.before.before in omega (arith, most s, s.requires.0.few)

pub returns : goal.returns
returns c = (refl, most c.before.before.before)
