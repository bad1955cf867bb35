use native.Mathlib.Omega.{arith}
use Rattle.creases.proofs.Counted.{pair_readable}
use Rattle.creases.proofs.crease.Goals as goal

pub vertex-requires : goal.vertex-requires
vertex-requires c = let p = c.requires in (p.0, (omega arith, pair_readable p.1.0 p.1.1))
