use mathlib.Core.Path.{ap, ◌∙◌}
use Rattle.rules.specs.Answers.{answer}
use Rattle.cage_c.proofs.cage_judge_single.Goals as goal

pub returns : goal.returns
returns c = c.tell.ensures ∙ ap answer c.judge.ensures
