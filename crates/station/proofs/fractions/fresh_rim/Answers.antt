use Prim.Native.Nat.{ℕ, ◌+◌, ◌*◌, ◌/◌, ◌≤◌}
use mathlib.Core.Path.{refl, sym, ap, subst, ◌∙◌}
use native.Mathlib.Omega.{arith}
use native.Mathlib.Nat.{mul-le-mul_right}
use borrow.Author.Rules.{rules}
use Rattle.rules.specs.Position.{refining}
use Rattle.station.specs.Far.{moved_in}
use Rattle.station.proofs.Points.{Half, half_of, ends-x, ends-y, ends-z, rim-most, den-few, den-above}
use Rattle.station.proofs.fractions.fresh_rim.Lts
use Rattle.station.proofs.fractions.fresh_rim.Reads
use Rattle.station.proofs.fractions.fresh_rim.Tie
use Rattle.station.proofs.fractions.fresh_rim.Goals as goal

abbrev After-vertex_over-q : Type 0
After-vertex_over-q = Lts.After-vertex_over2 Tie.the-claims Reads.Pre Reads.Post Tie.handed_clauses

-- the two refined ends
one : (c : After-vertex_over-q) → Half c.vertex_over-p.result
one c = let a = c.args in half_of c.vertex_over-p.result (moved_in refining a.words.now 0 a.nf a.nv a.xs.now a.u) c.vertex_over-p.ensures.point c.vertex_over-p.ensures.den

other : (c : After-vertex_over-q) → Half c.vertex_over-q.result
other c = let a = c.args in half_of c.vertex_over-q.result (moved_in refining a.words.now 0 a.nf a.nv a.xs.now a.v) c.vertex_over-q.ensures.point c.vertex_over-q.ensures.den

pub edge_over-requires : goal.edge_over-requires
edge_over-requires c = let r = c.requires in record { mesh = (r.mesh.0, (r.mesh.1.0, omega arith)); coords = r.coords }

pub rim_mix-requires : goal.rim_mix-requires
rim_mix-requires c = record { edge = omega (arith, c.edge_over.ensures.1); one = (one c.before.before.before.before).x; other = (other c.before.before.before.before).x; few = (one c.before.before.before.before).few; few' = (other c.before.before.before.before).few }

pub edge_over-requires-2 : goal.edge_over-requires-2
edge_over-requires-2 c = let r = c.requires in record { mesh = (r.mesh.0, (r.mesh.1.0, omega arith)); coords = r.coords }

pub rim_mix-requires-2 : goal.rim_mix-requires-2
rim_mix-requires-2 c = record { edge = omega (arith, c.edge_over-2.ensures.1); one = (one c.before.before.before.before.before.before).y; other = (other c.before.before.before.before.before.before).y; few = (one c.before.before.before.before.before.before).few; few' = (other c.before.before.before.before.before.before).few }

pub edge_over-requires-3 : goal.edge_over-requires-3
edge_over-requires-3 c = let r = c.requires in record { mesh = (r.mesh.0, (r.mesh.1.0, omega arith)); coords = r.coords }

pub rim_mix-requires-3 : goal.rim_mix-requires-3
rim_mix-requires-3 c = record { edge = omega (arith, c.edge_over-3.ensures.1); one = (one c.before.before.before.before.before.before.before.before).z; other = (other c.before.before.before.before.before.before.before.before).z; few = (one c.before.before.before.before.before.before.before.before).few; few' = (other c.before.before.before.before.before.before.before.before).few }

pub overflow_mul-result : goal.overflow_mul-result
overflow_mul-result c = omega (arith, mul-le-mul_right (c.vertex_over-q.result.den / 8) (one c.before.before.before.before.before.before.before.before.before).few, (other c.before.before.before.before.before.before.before.before.before).few)

pub overflow_mul-result-2 : goal.overflow_mul-result-2
overflow_mul-result-2 c = omega (arith, mul-le-mul_right (c.vertex_over-q.result.den / 8) (one c.before.before.before.before.before.before.before.before.before).few, (other c.before.before.before.before.before.before.before.before.before).few)

pub returns : goal.returns
returns c = let a = c.args in
    let p = c.vertex_over-p.result in
    let q = c.vertex_over-q.result in
    let j = p.den / 8 in
    let k = q.den / 8 in
    let x = c.rim_mix.ensures in
    let y = c.rim_mix-2.ensures in
    let z = c.rim_mix-3.ensures in
    record {
      bounded = record {
        above = omega (arith, den-above j k (one c.before.before.before.before.before.before.before.before.before).above (other c.before.before.before.before.before.before.before.before.before).above);
        few = omega (arith, den-few j k (one c.before.before.before.before.before.before.before.before.before).few (other c.before.before.before.before.before.before.before.before.before).few);
        x = subst (λ (i : ℕ). i ≤ 48 * (j * k) * 2000000000) (sym x) (rim-most j k p.x q.x c.edge_over.result (one c.before.before.before.before.before.before.before.before.before).x (other c.before.before.before.before.before.before.before.before.before).x c.edge_over.ensures.1);
        y = subst (λ (i : ℕ). i ≤ 48 * (j * k) * 2000000000) (sym y) (rim-most j k p.y q.y c.edge_over-2.result (one c.before.before.before.before.before.before.before.before.before).y (other c.before.before.before.before.before.before.before.before.before).y c.edge_over-2.ensures.1);
        z = subst (λ (i : ℕ). i ≤ 48 * (j * k) * 2000000000) (sym z) (rim-most j k p.z q.z c.edge_over-3.result (one c.before.before.before.before.before.before.before.before.before).z (other c.before.before.before.before.before.before.before.before.before).z c.edge_over-3.ensures.1);
      };
      j = j;
      k = k;
      den = refl;
      p = p;
      q = q;
      ends0 = ends-x a.words.now a.nf a.nv a.xs.now a.u a.v p q c.vertex_over-p.ensures.point c.vertex_over-p.ensures.den c.vertex_over-q.ensures.point c.vertex_over-q.ensures.den;
      ends1 = ends-y a.words.now a.nf a.nv a.xs.now a.u a.v p q c.vertex_over-p.ensures.point c.vertex_over-p.ensures.den c.vertex_over-q.ensures.point c.vertex_over-q.ensures.den;
      ends2 = ends-z a.words.now a.nf a.nv a.xs.now a.u a.v p q c.vertex_over-p.ensures.point c.vertex_over-p.ensures.den c.vertex_over-q.ensures.point c.vertex_over-q.ensures.den;
      x = x ∙ ap (λ (i : ℕ). 4 * (i * (j * k)) + (q.x * j + p.x * k)) c.edge_over.ensures.0;
      y = y ∙ ap (λ (i : ℕ). 4 * (i * (j * k)) + (q.y * j + p.y * k)) c.edge_over-2.ensures.0;
      z = z ∙ ap (λ (i : ℕ). 4 * (i * (j * k)) + (q.z * j + p.z * k)) c.edge_over-3.ensures.0;
    }
