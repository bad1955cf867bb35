use native.Mathlib.Omega.{arith}
use Prim.Native.Nat.{ℕ, ◌*◌}
use mathlib.Core.Path.{ap, ◌∙◌}
use mathlib.Core.List.{List, map}
use lib.ListN.{length}
use lib.Seq.{sets}
use Rattle.lists.specs.Lists.{count}
use Rattle.rules.specs.Mesh.{last_corner, cage}
use Rattle.plain.proofs.engine.load_words.Goals as goal

pub copy-requires : goal.copy-requires
copy-requires c = omega (arith, c.requires.2)

pub put_starts-requires : goal.put_starts-requires
put_starts-requires c = (c.requires.0, c.requires.1, omega (arith, c.requires.2))

pub returns : goal.returns
unfolding cage
returns c = let a = c.args in
    let fs = a.indices.now in
    c.put_starts.ensures ∙ ap (λ (x : List ℕ). sets x (2 * length fs) (map (last_corner fs) (count 0 a.nv))) c.copy.ensures
