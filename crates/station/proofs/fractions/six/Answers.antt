use Prim.Native.Nat.{ℕ, ◌+◌, ◌*◌}
use mathlib.Core.Path.{◌≡◌, ap, ◌∙◌}
use native.Mathlib.Omega.{arith}
use Rattle.rules.specs.Mesh.{onward, backward}
use Rattle.rules.proofs.Sides.{on_below}
use Rattle.rules.proofs.Refine.{back_below}
use Rattle.station.specs.Far.{eight_in}
use Rattle.station.proofs.fractions.six.Goals as goal

sums : {a b c d e a' b' c' d' e' : ℕ} → a ≡ a' → b ≡ b' → c ≡ c' → d ≡ d' → e ≡ e' → 6 * a + b + c + d + e ≡ 6 * a' + b' + c' + d' + e'
sums p q r s t = omega arith

pub edge_over-e-requires : goal.edge_over-e-requires
edge_over-e-requires c = let r = c.requires in record { mesh = (r.mesh.0, (r.mesh.1.0, r.mesh.1.1.1)); coords = r.coords }

pub onward-requires : goal.onward-requires
onward-requires c = omega (arith, c.requires.mesh.1.0, c.requires.mesh.1.1.0, c.requires.mesh.0.small)

pub backward-requires : goal.backward-requires
backward-requires c = omega (arith, c.requires.mesh.1.0, c.requires.mesh.1.1.0, c.requires.mesh.0.small)

pub onward-requires-2 : goal.onward-requires-2
onward-requires-2 c = omega (arith, c.requires.mesh.1.0, c.requires.mesh.1.1.0, c.requires.mesh.0.small)

pub backward-requires-2 : goal.backward-requires-2
backward-requires-2 c = omega (arith, c.requires.mesh.1.0, c.requires.mesh.1.1.0, c.requires.mesh.0.small)

pub edge_over-e1-requires : goal.edge_over-e1-requires
edge_over-e1-requires c = record { mesh = (c.requires.mesh.0, (rw c.onward.ensures (on_below c.args.s c.args.nf c.requires.mesh.1.0), c.requires.mesh.1.1.1)); coords = c.requires.coords }

pub edge_over-e2-requires : goal.edge_over-e2-requires
edge_over-e2-requires c = record { mesh = (c.requires.mesh.0, (rw c.backward.ensures (back_below c.args.t c.args.nf c.requires.mesh.1.1.0), c.requires.mesh.1.1.1)); coords = c.requires.coords }

pub edge_over-e3-requires : goal.edge_over-e3-requires
edge_over-e3-requires c = record { mesh = (c.requires.mesh.0, (rw c.onward-2.ensures (on_below c.args.t c.args.nf c.requires.mesh.1.1.0), c.requires.mesh.1.1.1)); coords = c.requires.coords }

pub edge_over-e4-requires : goal.edge_over-e4-requires
edge_over-e4-requires c = record { mesh = (c.requires.mesh.0, (rw c.backward-2.ensures (back_below c.args.s c.args.nf c.requires.mesh.1.0), c.requires.mesh.1.1.1)); coords = c.requires.coords }

pub overflow_mul-result : goal.overflow_mul-result
overflow_mul-result c = omega (arith, c.edge_over-e.ensures.1, c.edge_over-e1.ensures.1, c.edge_over-e2.ensures.1, c.edge_over-e3.ensures.1, c.edge_over-e4.ensures.1)

pub overflow_add-result : goal.overflow_add-result
overflow_add-result c = omega (arith, c.edge_over-e.ensures.1, c.edge_over-e1.ensures.1, c.edge_over-e2.ensures.1, c.edge_over-e3.ensures.1, c.edge_over-e4.ensures.1)

pub overflow_add-result-2 : goal.overflow_add-result-2
overflow_add-result-2 c = omega (arith, c.edge_over-e.ensures.1, c.edge_over-e1.ensures.1, c.edge_over-e2.ensures.1, c.edge_over-e3.ensures.1, c.edge_over-e4.ensures.1)

pub overflow_add-result-3 : goal.overflow_add-result-3
overflow_add-result-3 c = omega (arith, c.edge_over-e.ensures.1, c.edge_over-e1.ensures.1, c.edge_over-e2.ensures.1, c.edge_over-e3.ensures.1, c.edge_over-e4.ensures.1)

pub overflow_add-result-4 : goal.overflow_add-result-4
overflow_add-result-4 c = omega (arith, c.edge_over-e.ensures.1, c.edge_over-e1.ensures.1, c.edge_over-e2.ensures.1, c.edge_over-e3.ensures.1, c.edge_over-e4.ensures.1)

pub returns : goal.returns
returns c = let a = c.args in
    let f = eight_in a.xs.now a.c a.words.now 0 a.nf in
    let e0 = c.edge_over-e.ensures.0 in
    let e1 = c.edge_over-e1.ensures.0 ∙ ap f c.onward.ensures in
    let e2 = c.edge_over-e2.ensures.0 ∙ ap f c.backward.ensures in
    let e3 = c.edge_over-e3.ensures.0 ∙ ap f c.onward-2.ensures in
    let e4 = c.edge_over-e4.ensures.0 ∙ ap f c.backward-2.ensures in
    (sums e0 e1 e2 e3 e4, omega (arith, c.edge_over-e.ensures.1, c.edge_over-e1.ensures.1, c.edge_over-e2.ensures.1, c.edge_over-e3.ensures.1, c.edge_over-e4.ensures.1))
