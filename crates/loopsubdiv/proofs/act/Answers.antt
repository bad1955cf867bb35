use mathlib.Core.Path.{◌≡◌, ap, ◌∙◌}
use mathlib.Core.List.{List}
use lib.IntN.{ℤ}
use lib.ListN.{length}
use lib.Seq.{sets}
use Rattle.loopsubdiv.proofs.SharpOutcomes.{empty-positions}
use Rattle.loopsubdiv.proofs.act.Goals as goal

pub returns-then-sharp-eq0 : goal.returns-then-sharp-eq0
returns-then-sharp-eq0 c = let r = c.run.ensures in
    let e : length c.args.sharp.now ≡ 0 = c.if-sharp-eq0.true in
    record { positions = r.positions ∙ ap (λ (zs : List ℤ). sets c.args.positions.now 0 zs) (empty-positions c.args.levels c.args.sharp.now c.args.indices.now c.args.coords.now e); out = r.out; words = r.words; work = r.work }
