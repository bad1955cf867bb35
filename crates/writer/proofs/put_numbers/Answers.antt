use native.Mathlib.Omega.{arith}
use mathlib.Core.Path.{◌∙◌}
use mathlib.Core.List.{map}
use lib.ListN.{length-map}
use Rattle.writer.proofs.Puts.{number-more, put_last}
use Rattle.writer.proofs.put_numbers.Goals as goal

pub loop-k-preserved : goal.loop-k-preserved
loop-k-preserved g c = let l = c.loop-k in
    let a = c.args in
    let f = g.N.Number.word in
    c.put_word.ensures
    ∙ rw (c.word.ensures, l.invariant, c.index-xs-k.is) (number-more f c.index-xs-k.result a.xs.now a.bytes.now a.at l.k c.loop-k-test.true)

pub returns : goal.returns
returns g c = let a = c.args in
    c.loop-k.invariant ∙ put_last (map g.N.Number.word a.xs.now) a.bytes.now a.at c.loop-k.k (omega (arith, length-map a.xs.now g.N.Number.word, c.loop-k-test.false))
