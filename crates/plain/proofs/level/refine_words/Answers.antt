use native.Mathlib.Omega.{arith}
use Prim.Native.Nat.{◌+◌, ◌*◌}
use mathlib.Core.Path.{◌≡◌, refl}
use lib.ListN.{length}
use lib.Seq.{length-sets}
use Rattle.lists.specs.Lists.{part}
use Rattle.rules.specs.Mesh.{links, firsts}
use Rattle.plain.proofs.Growth.{w₁, w₂, w₃, w₄, step₂, step₃, step₄, apart-at, listed, mutual-in, below₂, list₃, grown-by}
use Rattle.plain.proofs.level.refine_words.Lts
use Rattle.plain.proofs.level.refine_words.Reads
use Rattle.plain.proofs.level.refine_words.Tie
use Rattle.plain.proofs.level.refine_words.Goals as goal

abbrev After-number-edges : Type 0
After-number-edges = Lts.After-number Tie.the-claims Reads.Pre Reads.Post Tie.handed_clauses

abbrev After-children : Type 0
After-children = Lts.After-children Tie.the-claims Reads.Pre Reads.Post Tie.handed_clauses

abbrev After-old_starts : Type 0
After-old_starts = Lts.After-old_starts Tie.the-claims Reads.Pre Reads.Post Tie.handed_clauses

abbrev After-new_starts : Type 0
After-new_starts = Lts.After-new_starts Tie.the-claims Reads.Pre Reads.Post Tie.handed_clauses

-- the words after each step
is₁ : (c : After-number-edges) → (let a = c.args in c.number-edges.new.words ≡ w₁ a.words.now a.at a.to a.nf a.nv c.requires)
is₁ c = c.number-edges.ensures.numbers

is₂ : (c : After-children) → (let a = c.args in c.children.new.words ≡ w₂ a.words.now a.at a.to a.nf a.nv c.requires)
is₂ c =
    let a = c.args in
    step₂ a.words.now a.at a.to a.nf a.nv c.requires c.children.new.words (rw (is₁ c.before.before.before.before) at c.children.ensures)

is₃ : (c : After-old_starts) → (let a = c.args in c.old_starts.new.words ≡ w₃ a.words.now a.at a.to a.nf a.nv c.requires)
is₃ c =
    let a = c.args in
    step₃ a.words.now a.at a.to a.nf a.nv c.requires c.old_starts.new.words (rw (is₂ c.before.before.before.before) at c.old_starts.ensures)

is₄ : (c : After-new_starts) → (let a = c.args in c.new_starts.new.words ≡ w₄ a.words.now a.at a.to a.nf a.nv c.requires)
is₄ c =
    let a = c.args in
    step₄ a.words.now a.at a.to a.nf a.nv c.requires c.new_starts.new.words (rw (is₃ c.before.before.before.before) at c.new_starts.ensures)

pub number-edges-requires : goal.number-edges-requires
number-edges-requires c = let a = c.args in
    let r = c.requires in
    let w = a.words.now in
    record { room = (omega arith, omega (arith, r.old), listed w a.at a.to a.nf a.nv r w refl); small = omega (arith, r.small); «mutual» = mutual-in w a.at a.to a.nf a.nv r }

pub children-requires : goal.children-requires
children-requires c = let a = c.args in
    let r = c.requires in
    let w = a.words.now in
    let apart = apart-at w a.at a.to a.nf a.nv r in
    record { room = (omega (arith, r.old), (omega (arith, r.old), omega (arith, r.new))); apart = (apart a.at (3 * a.nf) a.to (12 * a.nf) (omega arith) (omega arith) (omega arith) (omega arith), apart (a.at + 6 * a.nf + a.nv) (3 * a.nf) a.to (12 * a.nf) (omega arith) (omega arith) (omega arith) (omega arith)) }

pub old_starts-requires : goal.old_starts-requires
old_starts-requires c = let a = c.args in
    let r = c.requires in
    let w = a.words.now in
    let apart = apart-at w a.at a.to a.nf a.nv r in record { room = (omega (arith, r.old), omega (arith, r.new)); apart = apart (a.at + 6 * a.nf) a.nv (a.to + 24 * a.nf) a.nv (omega arith) (omega arith) (omega arith) (omega arith); small = (omega (arith, r.small), rw (is₂ c.before.before.before) (below₂ w a.at a.to a.nf a.nv r)) }

pub new_starts-requires : goal.new_starts-requires
new_starts-requires c = let a = c.args in
    let r = c.requires in
    let w = a.words.now in
    let apart = apart-at w a.at a.to a.nf a.nv r in
    let e = length (firsts (links (part a.at (3 * a.nf) w))) in
    rw (is₃ c.before.before.before, list₃ w a.at a.to a.nf a.nv r) (
    record {
      room = (listed w a.at a.to a.nf a.nv r (w₃ w a.at a.to a.nf a.nv r) (simp length-sets), simp length-sets (omega (arith, r.new)));
      apart = apart a.at (3 * a.nf) (a.to + 24 * a.nf + a.nv) e (omega arith) (omega arith) (omega arith) (omega arith);
      small = omega (arith, r.small);
    }
    )

pub returns : goal.returns
returns c = let a = c.args in
    record { edges = c.number-edges.ensures.count; words = rw (is₄ c.before.before.before) (grown-by a.words.now a.at a.to a.nf a.nv c.requires) }
