use native.Mathlib.Omega.{arith}
use lib.Dec.{eqb}
use lib.ListN.{length}
use Rattle.rules.specs.Mesh.{corner}
use Rattle.scans.proofs.Scans.{start-few, starts_more}
use Rattle.scans.proofs.put_starts.Goals as goal

pub overflow_cast-words : goal.overflow_cast-words
overflow_cast-words c = let fs = c.args.indices.now in omega (arith, c.start_of-s.ensures, start-few (λ x. eqb (corner fs x) c.loop-u.u) (length fs), c.requires.0.few)

pub loop-u-preserved : goal.loop-u-preserved
loop-u-preserved c = let a = c.args in
    let l = c.loop-u in
    starts_more a.indices.now a.words.now a.at l.u l.words l.invariant c.start_of-s.result c.start_of-s.ensures
