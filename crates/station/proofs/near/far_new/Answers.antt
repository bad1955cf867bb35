use Prim.Native.Nat.{ℕ, ◌+◌, ◌-◌, ◌*◌, ◌≤◌, ◌<◌}
use mathlib.Core.Path.{◌≡◌, refl, sym, ap, ◌∙◌}
use mathlib.Core.Bool.{Bool, true}
use native.Mathlib.Omega.{arith}
use borrow.Author.Rules.{rules}
use borrow.Author.Tests.{not-false}
use Rattle.lists.specs.Lists.{tally, count, bit, part}
use Rattle.lists.proofs.Places.{tally-next, tally-below}
use Rattle.rules.specs.Mesh.{links, first_met}
use Rattle.levels.specs.Moves.{edges_in}
use Rattle.levels.proofs.Moves.{room_of_lem}
use Rattle.station.specs.Acceptance.{needs_at}
use Rattle.station.specs.Far.{far_from, exact1}
use Rattle.station.proofs.Far.{rest, rest-starts, all-passed, met-passes, met-far, not-true, met-test, met-below, edges_are}
use Rattle.station.proofs.near.far_new.Lts
use Rattle.station.proofs.near.far_new.Reads
use Rattle.station.proofs.near.far_new.Tie
use Rattle.station.proofs.near.far_new.Goals as goal

abbrev After-first_met-met : Type 0
After-first_met-met = Lts.After-first_met Tie.the-claims Reads.Pre Reads.Post goal.the-invariant-loop-s goal.the-decreases-loop-s Tie.handed_clauses

pub loop-s-init : goal.loop-s-init
loop-s-init c = let a = c.args in
    (omega arith, (refl, rest-starts (exact1 a.words.now a.nf a.nv a.xs.now) a.ys.now a.t a.nv (edges_in a.words.now 0 a.nf)))

pub overflow_mul-nf : goal.overflow_mul-nf
overflow_mul-nf c = omega (arith, c.requires.mesh.small)

pub overflow_mul-s-end : goal.overflow_mul-s-end
overflow_mul-s-end c = omega (arith, c.requires.mesh.small)

pub overflow_add-nf : goal.overflow_add-nf
overflow_add-nf c = omega (arith, c.requires.mesh.small)

pub offset_bounds-words-nf : goal.offset_bounds-words-nf
offset_bounds-words-nf c = omega (arith, c.requires.mesh.small)

pub bounds-words-nf : goal.bounds-words-nf
bounds-words-nf c = omega (arith, room_of_lem c.args.words.now 0 c.args.nf c.args.nv c.requires.mesh)

pub overflow_cast-s : goal.overflow_cast-s
overflow_cast-s c = omega (arith, c.requires.mesh.small)

-- the test, and that the vertex is one of the claim's where it holds
test : (c : After-first_met-met) → c.first_met-met.result ≡ first_met (links (part 0 (3 * c.args.nf) c.args.words.now)) c.loop-s.s
test c =
    c.first_met-met.ensures ∙ met-test c.args.words.now c.args.nf c.args.nv c.requires.mesh c.loop-s.s (omega arith)

below : (c : After-first_met-met) → c.first_met-met.result ≡ true → c.loop-s.k < edges_in c.args.words.now 0 c.args.nf
below c e =
    let l = c.loop-s in
    let h = met-below c.args.words.now c.args.nf c.args.nv c.requires.mesh l.s (omega arith) (sym (test c) ∙ e) in
    omega (arith, l.invariant.1.0, h)

pub new_far-v-requires : goal.new_far-v-requires
new_far-v-requires c = let r = c.requires in
    record { mesh = (r.mesh, (omega arith, test c.before)); coords = r.coords; claim = r.claim; rank = c.loop-s.invariant.1.0 }

pub returns-then-not-passes : goal.returns-then-not-passes
returns-then-not-passes c = let a = c.args in
    let l = c.loop-s in
    sym (l.invariant.1.1
    ∙ met-far (exact1 a.words.now a.nf a.nv a.xs.now) a.ys.now a.t c.first_met-met.result a.nv (edges_in a.words.now 0 a.nf) l.k c.new_far-v.result (below c.before.before.before.before) c.new_far-v.ensures
    (sym c.passes.ensures ∙ c.if-not-passes.true))

pub counted-k-requires : goal.counted-k-requires
counted-k-requires c = let l = c.loop-s in
    omega (arith, l.invariant.1.0, tally-below (first_met (links (part 0 (3 * c.args.nf) c.args.words.now))) l.s, c.requires.mesh.small)

pub loop-s-preserved : goal.loop-s-preserved
loop-s-preserved c = let a = c.args in
    let l = c.loop-s in
    let p = first_met (links (part 0 (3 * a.nf) a.words.now)) in
    let es = exact1 a.words.now a.nf a.nv a.xs.now in
    let e = edges_in a.words.now 0 a.nf in
    let y = sym c.passes.ensures ∙ c.if-not-passes.false in (
      omega arith,
      (
        c.counted-k.ensures ∙ ap (λ (b : Bool). l.k + bit b) (test c.before.before.before.before.before) ∙ ap (λ (x : ℕ). x + bit (p l.s)) l.invariant.1.0 ∙ sym (tally-next p l.s),
        l.invariant.1.1 ∙ met-passes es a.ys.now a.t c.first_met-met.result a.nv e l.k c.new_far-v.result (below c.before.before.before.before.before) c.new_far-v.ensures y
            ∙ ap (λ (x : ℕ). rest es a.ys.now a.t a.nv e x) (sym c.counted-k.ensures),
      ),
    )

pub returns : goal.returns
returns c = let a = c.args in
    let l = c.loop-s in
    let z : l.s ≡ 3 * a.nf = omega arith in
    let p = first_met (links (part 0 (3 * a.nf) a.words.now)) in
    let e = edges_in a.words.now 0 a.nf in
    sym (l.invariant.1.1 ∙ all-passed (exact1 a.words.now a.nf a.nv a.xs.now) a.ys.now a.t a.nv e l.k
    (l.invariant.1.0 ∙ ap (λ (x : ℕ). tally p (count 0 x)) z ∙ sym (edges_are a.words.now a.nf a.nv c.requires.mesh)))
