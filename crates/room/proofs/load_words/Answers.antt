use native.Mathlib.Omega.{arith}
use mathlib.Core.Path.{◌≡◌, refl, ap, ◌∙◌}
use mathlib.Core.List.{List, map}
use lib.ListN.{length}
use lib.Seq.{sets}
use Rattle.rules.specs.Mesh.{links, cage}
use Rattle.faces.specs.Words.{coded}
use Rattle.cage.proofs.Across.{length-words}
use Prim.Native.Nat.{ℕ, ◌+◌, ◌*◌}
use Rattle.room.proofs.Loaded.{run_on}
use Rattle.room.proofs.load_words.Goals as goal

pub returns : goal.returns
returns c = let fs = c.args.indices.now in
    c.link_words.ensures
    ∙ ap (λ (x : List ℕ). sets (sets x (length fs) (map coded (links fs))) (length fs + length fs) (cage c.args.nv fs).starts) c.copy.ensures
    ∙ ap (λ (k : ℕ). sets (sets (sets c.args.words.now 0 fs) (length fs) (map coded (links fs))) k (cage c.args.nv fs).starts) (let e : length fs + length fs ≡ 2 * length fs = omega arith in e)
    ∙ run_on c.args.words.now fs (map coded (links fs)) (cage c.args.nv fs).starts (length fs) refl (length-words fs)
