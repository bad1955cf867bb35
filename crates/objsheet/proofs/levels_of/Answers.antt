use Rattle.objsheet.proofs.Laws.{no_word, word_low, word-high, word-digit}
use Rattle.objsheet.proofs.levels_of.Goals as goal

pub returns-then-word-ne1 : goal.returns-then-word-ne1
returns-then-word-ne1 c = no_word c.args.word.now c.if-word-ne1.true

pub returns-then-c-lt48 : goal.returns-then-c-lt48
returns-then-c-lt48 c = word_low c.args.word.now _ c.if-word-ne1.false c.wide-c.ensures.0 c.if-c-lt48.true

pub returns-then-c-gt57 : goal.returns-then-c-gt57
returns-then-c-gt57 c = word-high c.args.word.now _ c.if-word-ne1.false c.wide-c.ensures.0 c.if-c-lt48.false c.if-c-gt57.true

pub returns : goal.returns
returns c = word-digit c.args.word.now _ c.if-word-ne1.false c.wide-c.ensures.0 c.if-c-lt48.false c.if-c-gt57.false
