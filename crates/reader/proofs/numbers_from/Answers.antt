use Prim.Native.Nat.{◌*◌}
use mathlib.Core.Path.{refl}
use Rattle.lists.specs.Lists.{rows}
use Rattle.rules.specs.Sheets.{word_at}
use Rattle.reader.proofs.Laws.{one_more}
use Rattle.reader.proofs.numbers_from.Goals as goal

pub loop-k-init : goal.loop-k-init
unfolding rows
loop-k-init g c = refl

pub loop-k-preserved : goal.loop-k-preserved
loop-k-preserved g c = rw (c.of_word.ensures, c.word_at.ensures, c.loop-k.invariant) (one_more (λ k. g.N.Number.of_word (word_at c.args.b.now (4 * k))) c.args.s.now c.loop-k.k)
