use mathlib.Core.Path.{ap, ◌∙◌}
use Prim.Native.Nat.{ℕ, ◌+◌, ◌-◌, ◌*◌}
use native.Mathlib.Omega.{arith}
use mathlib.Core.List.{List}
use lib.Seq.{sets}
use Rattle.lists.specs.Lists.{part}
use Rattle.lists.proofs.Stores.{sets-next}
use Rattle.rules.specs.Mesh.{here, walk, passed, prev_corner}
use Rattle.faces.specs.Words.{links_in}
use Rattle.faces.specs.Rings.{backs, down_from}
use Rattle.faces.proofs.Retrace.{length-down}
use Rattle.faces.proofs.rings.rim_rest.Goals as goal

-- turned over at the front, and the rest stored after it
pub returns : goal.returns
returns c = let a = c.args in
    let p = c.requires in
    let o = a.out.now in
    let b = backs (part a.corners (3 * a.nf) a.words.now) (passed (walk (prev_corner (links_in a.words.now a.links (3 * a.nf)) a.end) (a.nf + 1 - a.n) (here a.s))) in record {
      count = c.gather_back.ensures.count;
      ring = c.gather_back.ensures.ring
          ∙ ap (λ (x : List ℕ). sets x a.n b) c.upend.ensures
          ∙ sets-next (down_from o (a.n - 1)) b o 0 a.n (rw (length-down o (a.n - 1)) (omega (arith, p.on.0)));
    }
