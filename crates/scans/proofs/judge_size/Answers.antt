use Rattle.std.specs.Prelude.{Ok}
use native.Mathlib.Omega.{arith}
use Prim.Native.Nat.{ℕ, ◌+◌, ◌*◌, ◌/◌, ◌≤◌}
use mathlib.Core.Path.{◌≡◌, sym, ap, ◌∙◌}
use lib.ListN.{length}
use Rattle.rules.specs.Mesh.{links, rims}
use Rattle.rules.specs.Levels.{Sizes}
use Rattle.rules.specs.Refusals.{size_refusal}
use Rattle.rules.specs.declared.Counts.{Counts}
use Rattle.limits.specs.Verdicts.{verdict_of}
use Rattle.limits.specs.Sizes.{counts_after, over_of}
use Rattle.cage.specs.Sizes.{cage_counts}
use Rattle.cage.proofs.Rounds.{rims-few}
use Rattle.cage.proofs.Sizes.{sizes-are, size_is}
use Rattle.cage.proofs.Stages.{good_of, unless-refused, unless-last}
use Rattle.scans.proofs.judge_size.Lts
use Rattle.scans.proofs.judge_size.Reads
use Rattle.scans.proofs.judge_size.Tie
use Rattle.limits.proofs.Search.{refused}
use Rattle.scans.proofs.judge_size.Goals as goal

abbrev After-count_rims-r : Type 0
After-count_rims-r = Lts.After-count_rims Tie.the-claims Reads.Pre Reads.Post Tie.handed_clauses

abbrev After-grown-c : Type 0
After-grown-c = Lts.After-grown Tie.the-claims Reads.Pre Reads.Post Tie.handed_clauses

abbrev After-size : Type 0
After-size = Lts.After-size Tie.the-claims Reads.Pre Reads.Post Tie.handed_clauses

few : (k : After-count_rims-r) → k.count_rims-r.result ≤ length k.args.indices.now
few k = rw k.count_rims-r.ensures (rims-few k.args.indices.now)

counts-are : (k : After-grown-c) → (let a = k.args in k.grown-c.result ≡ cage_counts a.levels a.v a.indices.now)
counts-are k =
    let a = k.args in
    let fs = a.indices.now in
    let n = length fs / 3 in
    k.grown-c.ensures
    ∙ ap (λ (r : ℕ). counts_after a.levels (record { verts = a.v; faces = n; edges = (3 * n + r) / 2 }) r) k.count_rims-r.ensures
    ∙ ap (λ (c : Sizes). counts_after a.levels c (rims (links fs))) (sym (sizes-are a.v n fs (good_of fs k.requires.2 a.v k.requires.3)))

verdict-is : (k : After-size) → (let a = k.args in verdict_of (size_refusal a.levels a.v a.indices.now) ≡ k.size.result)
verdict-is k =
    let a = k.args in
    ap verdict_of (size_is a.levels a.v a.indices.now)
    ∙ sym (k.size.ensures ∙ ap (λ (c : Counts). verdict_of (over_of c)) (counts-are k.before))

pub overflow_add-f : goal.overflow_add-f
overflow_add-f c = omega (arith, few c.before)

pub grown-c-requires : goal.grown-c-requires
grown-c-requires c = let t = c.requires.2.thirds in
    (c.requires.0, c.requires.1, omega (arith, c.requires.2.few), omega (arith, few c.before), omega (arith, few c.before))

pub returns-in_err-size : goal.returns-in_err-size
returns-in_err-size c = refused _ _ _ c.from_residual.ensures.1 (unless-refused (size_refusal c.args.levels c.args.v c.args.indices.now) _ _ (verdict-is c.before.before.before.before ∙ c.in_err-size.was))

pub returns : goal.returns
returns c = ap Ok (counts-are c.before.before.before.before) ∙ sym (unless-last (size_refusal c.args.levels c.args.v c.args.indices.now) _ (verdict-is c.before.before.before ∙ c.in_ok-size.was))
