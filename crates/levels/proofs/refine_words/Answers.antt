use native.Mathlib.Omega.{arith}
use Prim.Native.Nat.{ℕ, ◌+◌, ◌*◌}
use mathlib.Core.Path.{◌≡◌, ap, ◌∙◌}
use mathlib.Core.List.{List}
use mathlib.Core.Option.{Option}
use lib.ListN.{length}
use lib.Seq.{length-sets}
use Rattle.lists.specs.Lists.{part}
use Rattle.rules.specs.Mesh.{links, firsts}
use Rattle.levels.proofs.Growth.{w₁, w₂, w₃, w₄, w₅, step₁, step₂, step₃, step₄, step₅, apart-at, mutual-in, below₂, below₃, linked₄, grown-by}
use borrow.Author.Rules.{rules}
use Rattle.levels.proofs.refine_words.Lts
use Rattle.levels.proofs.refine_words.Reads
use Rattle.levels.proofs.refine_words.Tie
use Rattle.levels.proofs.refine_words.Goals as goal

abbrev After-number-edges : Type 0
After-number-edges = Lts.After-number Tie.the-claims Reads.Pre Reads.Post Tie.handed_clauses

abbrev After-children : Type 0
After-children = Lts.After-children Tie.the-claims Reads.Pre Reads.Post Tie.handed_clauses

abbrev After-child_links : Type 0
After-child_links = Lts.After-child_links Tie.the-claims Reads.Pre Reads.Post Tie.handed_clauses

abbrev After-old_starts : Type 0
After-old_starts = Lts.After-old_starts Tie.the-claims Reads.Pre Reads.Post Tie.handed_clauses

abbrev After-new_starts : Type 0
After-new_starts = Lts.After-new_starts Tie.the-claims Reads.Pre Reads.Post Tie.handed_clauses

-- the words after each step
is₁ : (c : After-number-edges) → c.number-edges.new.words ≡ w₁ c.args.words.now c.args.at c.args.to c.args.nf c.args.nv c.requires
is₁ c =
    let a = c.args in
    let r = c.requires in
    step₁ a.words.now a.at a.to a.nf a.nv r c.number-edges.new.words c.number-edges.ensures.numbers

is₂ : (c : After-children) → c.children.new.words ≡ w₂ c.args.words.now c.args.at c.args.to c.args.nf c.args.nv c.requires
is₂ c =
    let a = c.args in
    let r = c.requires in
    step₂ a.words.now a.at a.to a.nf a.nv r c.children.new.words (rw (is₁ c.before.before.before.before) at c.children.ensures)

is₃ : (c : After-child_links) → c.child_links.new.words ≡ w₃ c.args.words.now c.args.at c.args.to c.args.nf c.args.nv c.requires
is₃ c =
    let a = c.args in
    let r = c.requires in
    step₃ a.words.now a.at a.to a.nf a.nv r c.child_links.new.words (rw (is₂ c.before.before.before.before) at c.child_links.ensures)

is₄ : (c : After-old_starts) → c.old_starts.new.words ≡ w₄ c.args.words.now c.args.at c.args.to c.args.nf c.args.nv c.requires
is₄ c =
    let a = c.args in
    let r = c.requires in
    step₄ a.words.now a.at a.to a.nf a.nv r c.old_starts.new.words (rw (is₃ c.before.before.before.before) at c.old_starts.ensures)

is₅ : (c : After-new_starts) → c.new_starts.new.words ≡ w₅ c.args.words.now c.args.at c.args.to c.args.nf c.args.nv c.requires
is₅ c =
    let a = c.args in
    let r = c.requires in
    step₅ a.words.now a.at a.to a.nf a.nv r c.new_starts.new.words (rw (is₄ c.before.before.before.before) at c.new_starts.ensures)

pub number-edges-requires : goal.number-edges-requires
number-edges-requires c = let a = c.args in
    let r = c.requires in
    record { room = search rules; small = search rules; «mutual» = mutual-in a.words.now a.at a.to a.nf a.nv r }

pub child_links-requires : goal.child_links-requires
child_links-requires c = let a = c.args in
    let r = c.requires in
    let apart = apart-at a.words.now a.at a.to a.nf a.nv r in record { room = (omega (arith, r.old), omega (arith, r.new)); apart = apart (a.at + 3 * a.nf) (3 * a.nf) (a.to + 12 * a.nf) (12 * a.nf) (omega arith) (omega arith) (omega arith) (omega arith); small = (omega (arith, r.small), rw (is₂ c.before.before.before) (below₂ a.words.now a.at a.to a.nf a.nv r)) }

pub old_starts-requires : goal.old_starts-requires
old_starts-requires c = let a = c.args in
    let r = c.requires in
    let apart = apart-at a.words.now a.at a.to a.nf a.nv r in record { room = (omega (arith, r.old), omega (arith, r.new)); apart = apart (a.at + 6 * a.nf) a.nv (a.to + 24 * a.nf) a.nv (omega arith) (omega arith) (omega arith) (omega arith); small = (omega (arith, r.small), rw (is₃ c.before.before.before) (below₃ a.words.now a.at a.to a.nf a.nv r)) }

pub new_starts-requires : goal.new_starts-requires
new_starts-requires c = let a = c.args in
    let r = c.requires in
    let apart = apart-at a.words.now a.at a.to a.nf a.nv r in
    let e = length (firsts (links (part a.at (3 * a.nf) a.words.now))) in
    rw (is₄ c.before.before.before, linked₄ a.words.now a.at a.to a.nf a.nv r) (
    record {
      room = (simp length-sets (omega (arith, r.old)), simp length-sets (omega (arith, r.new)));
      apart = apart (a.at + 3 * a.nf) (3 * a.nf) (a.to + 24 * a.nf + a.nv) e (omega arith) (omega arith) (omega arith) (omega arith);
      small = omega (arith, r.small);
    }
    )

pub returns : goal.returns
returns c = let a = c.args in
    let r = c.requires in
    record { edges = c.number-edges.ensures.count ∙ ap (λ (ls : List (Option ℕ)). length (firsts ls)) r.linked; words = rw (is₅ c.before.before.before) (grown-by a.words.now a.at a.to a.nf a.nv r) }
