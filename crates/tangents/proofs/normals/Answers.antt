use native.Mathlib.Omega.{arith}
use Rattle.tangents.proofs.Rings.{normals-more}
use Rattle.tangents.proofs.normals.Goals as goal

pub loop-v-preserved : goal.loop-v-preserved
loop-v-preserved c = let a = c.args in
    let l = c.loop-v in
    normals-more a.words.now a.at a.nf a.nv a.xs.now a.out.now l.out c.put.new.xs l.v c.normal_at-a.result (omega arith) l.invariant c.normal_at-a.ensures
    c.put.ensures
