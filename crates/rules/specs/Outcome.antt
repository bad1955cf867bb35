-- What a call answers: what its last level counts, or the refusal.
use Rattle.std.specs.Prelude.{Result}
use Rattle.rules.specs.declared.Counts.{Counts}
use Rattle.rules.specs.declared.Refusal.{Refusal}

abbrev pub Outcome : Type 0
Outcome = Result Counts Refusal
