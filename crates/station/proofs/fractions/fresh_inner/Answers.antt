use Prim.Native.Nat.{ℕ, ◌+◌, ◌*◌, ◌/◌, ◌≤◌}
use mathlib.Core.Path.{refl, sym, ap, subst, ◌∙◌}
use native.Mathlib.Omega.{arith}
use native.Mathlib.Nat.{mul-le-mul_right}
use borrow.Author.Rules.{rules}
use Rattle.rules.specs.Position.{refining}
use Rattle.station.specs.Far.{moved_in}
use Rattle.station.proofs.Points.{Half, half_of, ends-x, ends-y, ends-z, inner-most, den-few, den-above}
use Rattle.station.proofs.fractions.fresh_inner.Lts
use Rattle.station.proofs.fractions.fresh_inner.Reads
use Rattle.station.proofs.fractions.fresh_inner.Tie
use Rattle.station.proofs.fractions.fresh_inner.Goals as goal

abbrev After-vertex_over-q : Type 0
After-vertex_over-q = Lts.After-vertex_over2 Tie.the-claims Reads.Pre Reads.Post Tie.handed_clauses

-- the two refined ends
one : (c : After-vertex_over-q) → Half c.vertex_over-p.result
one c = let a = c.args in half_of c.vertex_over-p.result (moved_in refining a.words.now 0 a.nf a.nv a.xs.now a.u) c.vertex_over-p.ensures.point c.vertex_over-p.ensures.den

other : (c : After-vertex_over-q) → Half c.vertex_over-q.result
other c = let a = c.args in half_of c.vertex_over-q.result (moved_in refining a.words.now 0 a.nf a.nv a.xs.now a.v) c.vertex_over-q.ensures.point c.vertex_over-q.ensures.den

pub six-requires : goal.six-requires
six-requires c = let r = c.requires in record { mesh = (r.mesh.0, (r.mesh.1.0, (r.mesh.1.1.0, omega arith))); coords = r.coords }

pub inner_mix-requires : goal.inner_mix-requires
inner_mix-requires c = record { edge = omega (arith, c.six.ensures.1); one = (one c.before.before.before.before).x; other = (other c.before.before.before.before).x; few = (one c.before.before.before.before).few; few' = (other c.before.before.before.before).few }

pub six-requires-2 : goal.six-requires-2
six-requires-2 c = let r = c.requires in record { mesh = (r.mesh.0, (r.mesh.1.0, (r.mesh.1.1.0, omega arith))); coords = r.coords }

pub inner_mix-requires-2 : goal.inner_mix-requires-2
inner_mix-requires-2 c = record { edge = omega (arith, c.six-2.ensures.1); one = (one c.before.before.before.before.before.before).y; other = (other c.before.before.before.before.before.before).y; few = (one c.before.before.before.before.before.before).few; few' = (other c.before.before.before.before.before.before).few }

pub six-requires-3 : goal.six-requires-3
six-requires-3 c = let r = c.requires in record { mesh = (r.mesh.0, (r.mesh.1.0, (r.mesh.1.1.0, omega arith))); coords = r.coords }

pub inner_mix-requires-3 : goal.inner_mix-requires-3
inner_mix-requires-3 c = record { edge = omega (arith, c.six-3.ensures.1); one = (one c.before.before.before.before.before.before.before.before).z; other = (other c.before.before.before.before.before.before.before.before).z; few = (one c.before.before.before.before.before.before.before.before).few; few' = (other c.before.before.before.before.before.before.before.before).few }

pub overflow_mul-result : goal.overflow_mul-result
overflow_mul-result c = omega (arith, mul-le-mul_right (c.vertex_over-q.result.den / 8) (one c.before.before.before.before.before.before.before.before.before).few, (other c.before.before.before.before.before.before.before.before.before).few)

pub overflow_mul-result-2 : goal.overflow_mul-result-2
overflow_mul-result-2 c = omega (arith, mul-le-mul_right (c.vertex_over-q.result.den / 8) (one c.before.before.before.before.before.before.before.before.before).few, (other c.before.before.before.before.before.before.before.before.before).few)

pub returns : goal.returns
returns c = let a = c.args in
    let p = c.vertex_over-p.result in
    let q = c.vertex_over-q.result in
    let j = p.den / 8 in
    let k = q.den / 8 in
    let x = c.inner_mix.ensures in
    let y = c.inner_mix-2.ensures in
    let z = c.inner_mix-3.ensures in
    record {
      bounded = record {
        above = omega (arith, den-above j k (one c.before.before.before.before.before.before.before.before.before).above (other c.before.before.before.before.before.before.before.before.before).above);
        few = omega (arith, den-few j k (one c.before.before.before.before.before.before.before.before.before).few (other c.before.before.before.before.before.before.before.before.before).few);
        x = subst (λ (i : ℕ). i ≤ 96 * (j * k) * 2000000000) (sym x) (inner-most j k p.x q.x c.six.result (one c.before.before.before.before.before.before.before.before.before).x (other c.before.before.before.before.before.before.before.before.before).x c.six.ensures.1);
        y = subst (λ (i : ℕ). i ≤ 96 * (j * k) * 2000000000) (sym y) (inner-most j k p.y q.y c.six-2.result (one c.before.before.before.before.before.before.before.before.before).y (other c.before.before.before.before.before.before.before.before.before).y c.six-2.ensures.1);
        z = subst (λ (i : ℕ). i ≤ 96 * (j * k) * 2000000000) (sym z) (inner-most j k p.z q.z c.six-3.result (one c.before.before.before.before.before.before.before.before.before).z (other c.before.before.before.before.before.before.before.before.before).z c.six-3.ensures.1);
      };
      j = j;
      k = k;
      den = refl;
      p = p;
      q = q;
      ends0 = ends-x a.words.now a.nf a.nv a.xs.now a.u a.v p q c.vertex_over-p.ensures.point c.vertex_over-p.ensures.den c.vertex_over-q.ensures.point c.vertex_over-q.ensures.den;
      ends1 = ends-y a.words.now a.nf a.nv a.xs.now a.u a.v p q c.vertex_over-p.ensures.point c.vertex_over-p.ensures.den c.vertex_over-q.ensures.point c.vertex_over-q.ensures.den;
      ends2 = ends-z a.words.now a.nf a.nv a.xs.now a.u a.v p q c.vertex_over-p.ensures.point c.vertex_over-p.ensures.den c.vertex_over-q.ensures.point c.vertex_over-q.ensures.den;
      x = x ∙ ap (λ (i : ℕ). i * (j * k) + p.x * k + q.x * j) c.six.ensures.0;
      y = y ∙ ap (λ (i : ℕ). i * (j * k) + p.y * k + q.y * j) c.six-2.ensures.0;
      z = z ∙ ap (λ (i : ℕ). i * (j * k) + p.z * k + q.z * j) c.six-3.ensures.0;
    }
