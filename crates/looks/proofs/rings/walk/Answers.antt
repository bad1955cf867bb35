use mathlib.Core.Path.{sym, ap, ◌∙◌}
use Prim.Native.Nat.{◌+◌, ◌-◌}
use Rattle.rules.specs.Mesh.{here, walk}
use Rattle.faces.proofs.Trips.{trip_from, trip_on, trip-starts, trip-turn}
use Rattle.looks.proofs.rings.walk.Goals as goal

pub loop-n-init : goal.loop-n-init
loop-n-init g c = (c.requires.start, λ next f. trip-starts next c.args.nf c.args.s)

pub loop-n-preserved : goal.loop-n-preserved
loop-n-preserved g c = let l = c.loop-n in
    let nf = c.args.nf in (
      c.requires.steps.stays l.x c.in-Here.t l.invariant.0 c.in-Here.ensures,
      λ next f. l.invariant.1 next f ∙ trip-turn next nf l.n l.x c.loop-n-test.true
          ∙ ap (trip_on (λ t. trip_from (l.n + 1) 0 (walk next (nf - (l.n + 1)) (here t))) (l.n + 1) l.x) (sym (f.each l.x _ l.invariant.0 c.in-Here.ensures)),
    )

pub returns-in-Home : goal.returns-in-Home
returns-in-Home g c = let l = c.loop-n in
    let nf = c.args.nf in
    λ next f. sym (l.invariant.1 next f ∙ trip-turn next nf l.n l.x c.loop-n-test.true
    ∙ ap (trip_on (λ t. trip_from (l.n + 1) 0 (walk next (nf - (l.n + 1)) (here t))) (l.n + 1) l.x) (sym (f.each l.x _ l.invariant.0 c.in-Home.ensures)))

pub returns-in-Off : goal.returns-in-Off
returns-in-Off g c = let l = c.loop-n in
    let nf = c.args.nf in
    λ next f. sym (l.invariant.1 next f ∙ trip-turn next nf l.n l.x c.loop-n-test.true
    ∙ ap (trip_on (λ t. trip_from (l.n + 1) 0 (walk next (nf - (l.n + 1)) (here t))) (l.n + 1) l.x) (sym (f.each l.x _ l.invariant.0 c.in-Off.ensures)))
