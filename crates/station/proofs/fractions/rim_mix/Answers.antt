use Prim.Native.Nat.{◌*◌}
use native.Mathlib.Omega.{arith}
use native.Mathlib.Nat.{mul-le-mul_right}
use borrow.Author.Rules.{rules}
use Rattle.station.proofs.fractions.rim_mix.Goals as goal

pub overflow_mul-result : goal.overflow_mul-result
overflow_mul-result c = let a = c.args in let p = c.requires in record { fits = omega (arith, mul-le-mul_right a.k p.few, p.few', mul-le-mul_right (a.j * a.k) p.edge, mul-le-mul_right a.j p.other, mul-le-mul_right a.k p.one) }

pub overflow_mul-result-2 : goal.overflow_mul-result-2
overflow_mul-result-2 c = let a = c.args in let p = c.requires in record { fits = omega (arith, mul-le-mul_right a.k p.few, p.few', mul-le-mul_right (a.j * a.k) p.edge, mul-le-mul_right a.j p.other, mul-le-mul_right a.k p.one) }

pub overflow_mul-result-3 : goal.overflow_mul-result-3
overflow_mul-result-3 c = let a = c.args in let p = c.requires in record { fits = omega (arith, mul-le-mul_right a.k p.few, p.few', mul-le-mul_right (a.j * a.k) p.edge, mul-le-mul_right a.j p.other, mul-le-mul_right a.k p.one) }

pub overflow_mul-result-4 : goal.overflow_mul-result-4
overflow_mul-result-4 c = let a = c.args in let p = c.requires in record { fits = omega (arith, mul-le-mul_right a.k p.few, p.few', mul-le-mul_right (a.j * a.k) p.edge, mul-le-mul_right a.j p.other, mul-le-mul_right a.k p.one) }

pub overflow_mul-result-5 : goal.overflow_mul-result-5
overflow_mul-result-5 c = let a = c.args in let p = c.requires in record { fits = omega (arith, mul-le-mul_right a.k p.few, p.few', mul-le-mul_right (a.j * a.k) p.edge, mul-le-mul_right a.j p.other, mul-le-mul_right a.k p.one) }

pub overflow_add-result : goal.overflow_add-result
overflow_add-result c = let a = c.args in let p = c.requires in record { fits = omega (arith, mul-le-mul_right a.k p.few, p.few', mul-le-mul_right (a.j * a.k) p.edge, mul-le-mul_right a.j p.other, mul-le-mul_right a.k p.one) }

pub overflow_add-result-2 : goal.overflow_add-result-2
overflow_add-result-2 c = let a = c.args in let p = c.requires in record { fits = omega (arith, mul-le-mul_right a.k p.few, p.few', mul-le-mul_right (a.j * a.k) p.edge, mul-le-mul_right a.j p.other, mul-le-mul_right a.k p.one) }
