-- What a stage of the checks answers.
use Rattle.std.specs.Prelude.{Result, Ok, Err}
use Rattle.std.proofs.Math.Option.{Option, none, some}
use Rattle.rules.specs.declared.Refusal.{Refusal}

abbrev pub Check : Type 0
Check = Result (Unit {0}) Refusal

abbrev pub verdict_of : Option Refusal → Check
verdict_of none = Ok tt
verdict_of (some r) = Err r
