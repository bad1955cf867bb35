use Rattle.rules.proofs.Range.{near-at}
use Rattle.loopsubdiv.proofs.micrometres.run.Goals as goal

pub run-requires : goal.run-requires
run-requires c = let a = c.args in
    let p = c.requires.planned in
    record { planned = p; near = λ i. (near-at a.levels i a.indices.now a.coords.now p.passes).0; room = c.requires.room }
