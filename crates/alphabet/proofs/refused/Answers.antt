use mathlib.Core.Path.{sym, ◌∙◌}
use native.Mathlib.Omega.{arith}
use Rattle.alphabet.proofs.Lengths.{too_many, not_equal, slots-left}
use Rattle.alphabet.proofs.refused.Goals as goal

pub returns-then-lengths-gt64 : goal.returns-then-lengths-gt64
returns-then-lengths-gt64 c = let a = c.args in too_many a.bytes a.lengths.now a.entries (omega arith)

pub returns-then-added-bytes : goal.returns-then-added-bytes
returns-then-added-bytes c = let a = c.args in
    not_equal a.bytes a.lengths.now a.entries (omega arith) (λ e. c.if-added-bytes.true (c.added.ensures ∙ e))

pub returns : goal.returns
returns c = let a = c.args in
    slots-left a.bytes a.lengths.now a.entries (omega arith) (sym c.added.ensures ∙ c.if-added-bytes.false)
