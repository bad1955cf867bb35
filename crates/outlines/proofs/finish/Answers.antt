use Rattle.std.specs.Prelude.{Err, Ok}
use native.Mathlib.Omega.{arith}
use Prim.Native.Nat.{ℕ, ◌+◌, ◌/◌, ◌≤◌}
use mathlib.Core.Path.{◌≡◌, refl, sym, ap, ◌∙◌}
use lib.ListN.{length, length-replicate}
use Rattle.lists.proofs.Places.{tally-below}
use Rattle.rules.specs.Mesh.{links}
use Rattle.rules.specs.Position.{whole}
use Rattle.rules.specs.Levels.{last}
use Rattle.rules.specs.Answers.{counted, whole_rooms}
use Rattle.rules.specs.declared.Counts.{Counts}
use Rattle.loopsubdiv.proofs.Outcomes.{Done, done}
use Rattle.outlines.specs.Loops.{begins, listing, loops_of}
use Rattle.outlines.proofs.Accepted.{marks-none, traceable, cage-facts, loops-count, listed-count, room-needed, rims-few, outcome-short, outcome-done, outline-is}
use Rattle.outlines.proofs.finish.Lts
use Rattle.outlines.proofs.finish.Reads
use Rattle.outlines.proofs.finish.Tie
use Rattle.outlines.proofs.finish.Goals as goal

abbrev Start : Type 0
Start = Lts.Start Tie.the-claims Reads.Pre Reads.Post Tie.handed_clauses

abbrev After-mark_loops-loops : Type 0
After-mark_loops-loops = Lts.After-mark_loops Tie.the-claims Reads.Pre Reads.Post Tie.handed_clauses

D : (s : Start) → Done whole (whole_rooms (length s.args.positions.now) (length s.args.out.now) (length s.args.words.now) (length s.args.work.now)) s.args.levels s.args.indices.now s.args.coords.now s.args.c
D s = done whole (whole_rooms (length s.args.positions.now) (length s.args.out.now) (length s.args.words.now) (length s.args.work.now)) s.args.levels s.args.indices.now s.args.coords.now s.args.c s.requires.success

rims : (s : Start) → s.args.c.rims ≡ (counted (last whole s.args.levels s.args.indices.now s.args.coords.now).mesh).rims
rims s = sym (ap (λ (k : Counts). k.rims) (D s).counts)

few : (k : After-mark_loops-loops) → k.mark_loops-loops.result ≤ 4096
few k =
    omega (arith, k.mark_loops-loops.ensures.loops, tally-below (begins k.args.indices.now (links k.args.indices.now)) (length k.args.coords.now / 3), (cage-facts k.args.levels k.args.indices.now k.args.coords.now (D k.before.before.before.before.before.before.before).passes).3)

needs-room : (k : After-mark_loops-loops) → (length (listing (loops_of k.args.levels k.args.indices.now k.args.coords.now)) ≡ k.args.c.rims + k.mark_loops-loops.result)
needs-room k = room-needed k.args.levels k.args.indices.now k.args.coords.now (D k.before.before.before.before.before.before.before).passes ∙ omega (arith, rims k.before.before.before.before.before.before.before, k.mark_loops-loops.ensures.loops)

pub mark_loops-loops-requires : goal.mark_loops-loops-requires
mark_loops-loops-requires c = let e = (D c.before.before.before.before.before.before.before).passes in
    let k = cage-facts c.args.levels c.args.indices.now c.args.coords.now e in
    record { cage = (k.0, rw c.requires.leaving.0 k.1, traceable c.args.levels c.args.indices.now c.args.coords.now e, c.requires.leaving.1); few = (k.3, rw c.requires.leaving.0 k.3); marks = marks-none (length c.args.coords.now / 3) c.args.indices.now 4096 k.3 }

pub overflow_add-rims : goal.overflow_add-rims
overflow_add-rims c = omega (arith, few c.before.before, rims c.before.before.before.before.before.before.before.before.before, rims-few c.args.levels c.args.indices.now c.args.coords.now (D c.before.before.before.before.before.before.before.before.before).passes)

pub returns-then-list-rims : goal.returns-then-list-rims
returns-then-list-rims c = let o = outcome-short (whole_rooms (length c.args.positions.now) (length c.args.out.now) (length c.args.words.now) (length c.args.work.now)) (length c.args.list.now) c.args.levels c.args.indices.now c.args.coords.now c.args.c c.requires.success (omega (arith, c.if-list-rims.true, needs-room c.before.before.before)) in
    record {
      outcome = Err (record { number = 20; place = 0 });
      call = record { answer = sym o; positions = refl; indices = refl; words = refl; work = refl };
      answer = refl;
      left = refl;
    }

pub write-requires : goal.write-requires
write-requires c = let t = c.mark_loops-loops.ensures in
    record { success = c.requires.success; tables = (c.requires.leaving.0, t.marks.1 ∙ length-replicate {A = ℕ} 4096 0, c.requires.leaving.1, t.marks.0); room = omega (arith, c.if-list-rims.false, needs-room c.before.before.before.before.before.before.before.before.before) }

pub returns : goal.returns
returns c = let e = (D c.before.before.before.before.before.before.before.before.before.before.before.before.before.before.before.before.before.before.before.before.before.before.before.before.before).passes in
    let w = c.write.ensures in
    let o = outcome-done (whole_rooms (length c.args.positions.now) (length c.args.out.now) (length c.args.words.now) (length c.args.work.now)) (length c.args.list.now) c.args.levels c.args.indices.now c.args.coords.now c.args.c c.requires.success (omega (arith, c.if-list-rims.false, needs-room c.before.before.before.before.before.before.before.before.before.before.before.before.before.before.before.before.before.before)) in
    record {
      outcome = Ok c.args.c;
      call = record { answer = sym o; positions = w.call.positions; indices = w.call.indices; words = w.call.words; work = w.call.work };
      answer = outline-is (loops_of c.args.levels c.args.indices.now c.args.coords.now) _ _ (c.mark_loops-loops.ensures.loops ∙ sym (loops-count c.args.levels c.args.indices.now c.args.coords.now e)) (rims c.before.before.before.before.before.before.before.before.before.before.before.before.before.before.before.before.before.before.before.before.before.before.before.before.before ∙ sym (listed-count c.args.levels c.args.indices.now c.args.coords.now e));
      left = w.list;
    }
