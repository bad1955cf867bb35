use Prim.Native.Nat.{ℕ, ◌+◌, ◌<◌}
use mathlib.Core.Path.{sym, ap, ◌∙◌}
use mathlib.Core.Bool.{Bool}
use native.Mathlib.Omega.{arith}
use borrow.Author.Rules.{rules}
use Rattle.lists.specs.Lists.{pick}
use Rattle.levels.specs.Moves.{edges_in}
use Rattle.station.specs.Far.{held_vertex, exact1}
use Rattle.station.specs.declared.Verdict.TheVariants.{Yes}
use Rattle.station.proofs.Far.{met-number, met-below}
use Rattle.station.proofs.Held.{vertex-held}
use Rattle.station.proofs.near.new_far.Lts
use Rattle.station.proofs.near.new_far.Reads
use Rattle.station.proofs.near.new_far.Tie
use Rattle.station.proofs.near.new_far.Goals as goal

abbrev Then-met : Type 0
Then-met = Lts.Then1 Tie.the-claims Reads.Pre Reads.Post Tie.handed_clauses

pub fresh_over-o-requires : goal.fresh_over-o-requires
fresh_over-o-requires c = let r = c.requires in
    record { mesh = (r.mesh.0, (r.mesh.1.0, sym r.mesh.1.1 ∙ c.if-met.true)); coords = r.coords }

-- the vertex is one of the claim's
below : (c : Then-met) → c.args.k < edges_in c.args.words.now 0 c.args.nf
below c =
    let a = c.args in
    let r = c.requires in
    omega (arith, r.rank, met-below a.words.now a.nf a.nv r.mesh.0 a.s r.mesh.1.0 (sym r.mesh.1.1 ∙ c.if-met.true))

pub overflow_add-nv : goal.overflow_add-nv
overflow_add-nv c = omega (arith, below c.before.before, c.requires.claim)

pub overflow_mul-nv : goal.overflow_mul-nv
overflow_mul-nv c = omega (arith, below c.before.before, c.requires.claim)

pub far_at-requires : goal.far_at-requires
far_at-requires c = let r = c.requires in
    ((omega (arith, below c.before.before, r.claim.0), omega (arith, below c.before.before, r.claim.1)), c.fresh_over-o.ensures.bounded)

pub returns-then-met : goal.returns-then-met
returns-then-met c = let a = c.args in
    let r = c.requires in
    let es = exact1 a.words.now a.nf a.nv a.xs.now in
    let e = met-number a.words.now a.nf a.nv r.mesh.0 a.s (sym r.mesh.1.1 ∙ c.if-met.true) ∙ ap (λ (x : ℕ). a.nv + x) (sym r.rank) in
    c.far_at.ensures.0
    ∙ vertex-held c.fresh_over-o.result es a.ys.now a.t (a.nv + a.k) c.far_at.ensures.1 (rw e at c.fresh_over-o.ensures)
    ∙ sym (ap (λ (b : Bool). pick b (held_vertex es a.ys.now a.t (a.nv + a.k)) Yes) c.if-met.true)
