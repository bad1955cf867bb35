use Rattle.std.specs.Prelude.{Err, Ok}
use Prim.Native.Nat.{ℕ, ◌+◌, ◌≤◌}
use mathlib.Core.Path.{◌≡◌, sym, ap, ◌∙◌}
use mathlib.Core.List.{List, ◌++◌}
use native.Mathlib.Omega.{arith}
use lib.IntN.{ℤ, pos}
use lib.ListN.{length, take, replicate, length-replicate}
use lib.Seq.{sets, length-take-le}
use Rattle.lists.proofs.Stores.{part_of}
use Rattle.rules.specs.Position.{whole}
use Rattle.rules.specs.Levels.{last, positions}
use Rattle.rules.specs.Answers.{written}
use Rattle.rules.specs.Sheets.{cut_rooms}
use Rattle.rules.specs.Outcome.{Outcome}
use Rattle.listing.proofs.Laws.{put-put}
use Rattle.outlines.specs.Loops.{listing, loops_of, outline_outcome}
use Rattle.outlines.specs.declared.Outline.{Outline}
use Rattle.outlines.proofs.Counted.{length-listing}
use Rattle.outlines.proofs.Answered.{behind-refused, Behind, behind-outlined}
use Rattle.outline.specs.Output.{outlines_line, entry_texts, list_room, cage_text}
use Rattle.outline.proofs.Lines.{put_as}
use Rattle.outline.proofs.Inputs.{text-refused, few, vertices-are, text-listed}
use borrow.Author.Rules.{rules}
use Rattle.outline.proofs.cage.Lts
use Rattle.outline.proofs.cage.Reads
use Rattle.outline.proofs.cage.Tie
use Rattle.outline.proofs.cage.Goals as goal

abbrev In-Refused : Type 0
In-Refused = Lts.Past-After-known_told Tie.the-claims Reads.Pre Reads.Post Tie.handed_clauses

abbrev In-Success : Type 0
In-Success = Lts.Past-After-known_told2 Tie.the-claims Reads.Pre Reads.Post Tie.handed_clauses

-- ---- a refusal
refused : (k : In-Refused) → (outline_outcome cut_rooms list_room k.args.levels k.args.indices.now k.args.coords.now ≡ Err k.in-Err.r)
refused k =
    let d = k.rim_loops-t.ensures in
    sym d.call.answer ∙ behind-refused d.outcome (loops_of k.args.levels k.args.indices.now k.args.coords.now) k.in-Err.r (sym k.in-Err.is ∙ d.answer)

-- ---- a success: the outcome behind it, and what stands in the list and in the positions
behind : (k : In-Success) → (Behind k.rim_loops-t.ensures.outcome (loops_of k.args.levels k.args.indices.now k.args.coords.now) k.in-Ok.o)
behind k =
    let d = k.rim_loops-t.ensures in
    behind-outlined d.outcome (loops_of k.args.levels k.args.indices.now k.args.coords.now) k.in-Ok.o (sym k.in-Ok.is ∙ d.answer)

answered : (k : In-Success) → (outline_outcome cut_rooms list_room k.args.levels k.args.indices.now k.args.coords.now ≡ Ok (behind k).counts)
answered k = sym k.rim_loops-t.ensures.call.answer ∙ (behind k).is

long : (k : In-Success) → (length (listing (loops_of k.args.levels k.args.indices.now k.args.coords.now)) ≡ k.in-Ok.o.loops + k.in-Ok.o.listed)
long k =
    omega (arith, length-listing (loops_of k.args.levels k.args.indices.now k.args.coords.now), ap (λ (z : Outline). z.loops) (behind k).tells, ap (λ (z : Outline). z.listed) (behind k).tells)

short : (k : In-Success) → k.in-Ok.o.loops + k.in-Ok.o.listed ≤ 682
short k = omega (arith, long k, (few k.args.levels k.args.indices.now k.args.coords.now (behind k).counts (answered k)).1)

list-is : (k : In-Success) → (take (k.in-Ok.o.loops + k.in-Ok.o.listed) k.rim_loops-t.new.list ≡ listing (loops_of k.args.levels k.args.indices.now k.args.coords.now))
list-is k =
    rw (k.rim_loops-t.ensures.left, (behind k).is) (part_of (listing (loops_of k.args.levels k.args.indices.now k.args.coords.now)) (replicate 682 0) 0 _ (long k) (omega (arith, short k, length-replicate {A = ℕ} 682 0)))

pub overflow_add-n : goal.overflow_add-n
overflow_add-n c = omega (arith, short c.before.before.before.before.before.before)

pub slice_bounds-list-end : goal.slice_bounds-list-end
slice_bounds-list-end c = omega (arith, short c.before.before.before.before.before.before.before.before, c.rim_loops-t.auto.list)

pub slice_bounds-entries-end-in-Ok : goal.slice_bounds-entries-end-in-Ok
slice_bounds-entries-end-in-Ok c = sym (length-take-le _ _ (omega (arith, short c.before.before.before.before.before.before.before.before.before, c.rim_loops-t.auto.list)))

pub entries-requires : goal.entries-requires
entries-requires c = record { room = rw (list-is c.before.before.before.before.before.before.before.before.before) (omega (arith, long c.before.before.before.before.before.before.before.before.before, short c.before.before.before.before.before.before.before.before.before, c.outlines_line-first.ensures.upper_bound, c.outlines_line-first.auto.text, c.requires)); vertices = (rw (list-is c.before.before.before.before.before.before.before.before.before) (vertices-are c.args.levels c.args.indices.now c.args.coords.now (behind c.before.before.before.before.before.before.before.before.before).counts (answered c.before.before.before.before.before.before.before.before.before)), omega (arith, c.rim_loops-t.auto.positions)) }

pub returns-in-Err : goal.returns-in-Err
returns-in-Err c = let r = c.refused_text.ensures in
    record { put = rw (← (text-refused c.args.levels c.args.indices.now c.args.coords.now c.in-Err.r (refused c.before.before.before.before.before))) r.put; upper_bound = r.upper_bound }

text-is : (k : In-Success) → (outlines_line k.in-Ok.o ++ entry_texts k.rim_loops-t.new.positions 0 (take (k.in-Ok.o.loops + k.in-Ok.o.listed) k.rim_loops-t.new.list) ≡ cage_text k.args.levels k.args.indices.now k.args.coords.now)
text-is k =
    let zeros : List ℤ = replicate 1536 (pos 0) in
    let ps = positions whole (last whole k.args.levels k.args.indices.now k.args.coords.now) in
    let p : k.rim_loops-t.new.positions ≡ sets zeros 0 ps = k.rim_loops-t.ensures.call.positions ∙ ap {B = List ℤ} (λ (x : Outcome). written x ps zeros) (behind k).is in
    rw (list-is k, p, (behind k).tells) (text-listed k.args.levels k.args.indices.now k.args.coords.now (behind k).counts (answered k) zeros (length-replicate {A = ℤ} 1536 (pos 0)))

pub returns-in-Ok : goal.returns-in-Ok
returns-in-Ok c = let r = c.entries.ensures in
    record { put = put_as (text-is c.before.before.before.before.before.before.before.before.before.before.before.before) (put-put c.outlines_line-first.ensures.put r.put); upper_bound = omega (arith, r.upper_bound, ap length (list-is c.before.before.before.before.before.before.before.before.before.before.before.before), long c.before.before.before.before.before.before.before.before.before.before.before.before, short c.before.before.before.before.before.before.before.before.before.before.before.before, c.outlines_line-first.ensures.upper_bound, c.requires) }
