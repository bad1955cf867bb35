use mathlib.Core.Path.{refl, ap, ◌∙◌}
use Prim.Native.Nat.{ℕ, ◌+◌, ◌-◌, ◌*◌, ◌≤◌}
use native.Mathlib.Omega.{arith}
use mathlib.Core.List.{List}
use lib.ListN.{length-map}
use lib.Seq.{sets, length-sets}
use Rattle.lists.specs.Lists.{part}
use Rattle.lists.proofs.Stores.{sets-next}
use Rattle.turns.specs.Turns.{most_valence}
use Rattle.rules.specs.Mesh.{backward, corner, here, walk, passed, prev_corner}
use Rattle.faces.specs.Words.{links_in}
use Rattle.faces.specs.Rings.{backs, down_from}
use Rattle.faces.proofs.Retrace.{length-down}
use Rattle.marks.specs.Marks.{marks_in}
use Rattle.creases.specs.Rings.{comes}
use Rattle.creases.proofs.Creases.{tally-few}
use Rattle.creases.proofs.rings.sharp_rest.Lts
use Rattle.creases.proofs.rings.sharp_rest.Reads
use Rattle.creases.proofs.rings.sharp_rest.Tie
use Rattle.creases.proofs.rings.sharp_rest.Goals as goal

abbrev After-sharp_back-r : Type 0
After-sharp_back-r = Lts.After-sharp_back Tie.the-claims Reads.Pre Reads.Post Tie.handed_clauses

-- how many there are
sized : (k : After-sharp_back-r) → (k.sharp_back-r.result.n ≤ most_valence) × (k.sharp_back-r.result.sharp ≤ most_valence)
sized k =
    let a = k.args in
    let p = k.requires in
    let w = a.words.now in
    let fs = part a.corners (3 * a.nf) w in
    let cs = passed (walk (prev_corner (links_in w a.links (3 * a.nf)) a.end) (a.nf + 1 - a.n) (here a.s)) in
    let f = p.back.few in
    let l = length-map cs (λ s. corner fs (backward s)) in
    let t = tally-few (comes (marks_in w a.marks a.nf)) cs in
    (omega (arith, k.sharp_back-r.ensures.count, l, f, p.on.1), omega (arith, k.sharp_back-r.ensures.sharp, t, f))

pub overflow_add-result-2 : goal.overflow_add-result-2
overflow_add-result-2 c = let h = sized c.before.before.before in omega (arith, h.1, c.requires.marks.1)

pub offset_bounds-out-m : goal.offset_bounds-out-m
offset_bounds-out-m c = let h = sized c.before.before.before.before in omega (arith, h.0)

pub bounds-out-m : goal.bounds-out-m
bounds-out-m c = let p = c.requires in
    let h = sized c.before.before.before.before.before in
    rw (c.sharp_back-r.ensures.ring, length-sets, c.upend.ensures, length-sets) (omega (arith, h.0, p.on.3))

pub returns : goal.returns
returns c = let a = c.args in
    let p = c.requires in
    let o = a.out.now in
    let b = backs (part a.corners (3 * a.nf) a.words.now) (passed (walk (prev_corner (links_in a.words.now a.links (3 * a.nf)) a.end) (a.nf + 1 - a.n) (here a.s))) in record {
      count = c.sharp_back-r.ensures.count;
      creases = ap (λ (z : ℕ). 2 + a.k + z) c.sharp_back-r.ensures.sharp;
      ends = (refl, refl);
      ring = c.sharp_back-r.ensures.ring
          ∙ ap (λ (x : List ℕ). sets x a.n b) c.upend.ensures
          ∙ sets-next (down_from o (a.n - 1)) b o 0 a.n (rw (length-down o (a.n - 1)) (omega (arith, p.on.0)));
    }
