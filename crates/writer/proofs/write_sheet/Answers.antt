use Prim.Native.Nat.{ℕ, ◌≤◌}
use mathlib.Core.Path.{◌≡◌, refl, sym, ap, ◌∙◌}
use mathlib.Core.List.{List}
use mathlib.Core.Option.{none}
use lib.IntN.{ℤ}
use native.Mathlib.Omega.{arith}
use lib.ListN.{length}
use Rattle.rules.specs.Position.{whole}
use Rattle.rules.specs.Refusals.{mesh_refusal}
use Rattle.std.specs.Prelude.{Ok, Err}
use Rattle.std.proofs.lemmas.Result.{err_from_is_err_and}
use Rattle.limits.specs.Verdicts.{Check, verdict_of}
use Rattle.limits.proofs.Search.{passes}
use Rattle.writer.proofs.Writes.{passed, few, write-no, write-17, write_done}
use Rattle.writer.proofs.write_sheet.Goals as goal

short : (l : ℕ) (fs : List ℕ) (xs : List ℤ) → mesh_refusal whole l fs xs ≡ none → (length fs ≤ 12288) × (length xs ≤ 12288)
short l fs xs e = few l (length fs) (length xs) (passed whole l fs xs e).shape

-- what the checks that pass say
goes : (l : ℕ) (fs : List ℕ) (xs : List ℤ) (r : Check) → r ≡ verdict_of (mesh_refusal whole l fs xs) → r ≡ Ok tt → mesh_refusal whole l fs xs ≡ none
goes l fs xs r e f = passes _ (sym e ∙ f)

pub overflow_add-n-2 : goal.overflow_add-n-2
overflow_add-n-2 c = let a = c.args in
    omega (arith, short a.levels a.indices.now a.coords.now (goes _ _ _ _ c.checked_whole.ensures c.in_ok-checked_whole.was))

pub returns-then-bytes-n : goal.returns-then-bytes-n
returns-then-bytes-n c = let a = c.args in
    record { answer = write-17 (length a.bytes.now) a.levels a.indices.now a.coords.now (goes _ _ _ _ c.checked_whole.ensures c.in_ok-checked_whole.was) (omega arith); bytes = refl }

pub put_sheet-requires : goal.put_sheet-requires
put_sheet-requires c = let a = c.args in
    let s = short a.levels a.indices.now a.coords.now (goes _ _ _ _ c.checked_whole.ensures c.in_ok-checked_whole.was) in (s.0, s.1, omega arith)

pub overflow_cast-result : goal.overflow_cast-result
overflow_cast-result c = let a = c.args in
    omega (arith, short a.levels a.indices.now a.coords.now (goes _ _ _ _ c.checked_whole.ensures c.in_ok-checked_whole.was))

pub returns-in_err-checked_whole : goal.returns-in_err-checked_whole
returns-in_err-checked_whole c = let a = c.args in
    let p = err_from_is_err_and c.from_residual.result c.from_residual.ensures.1 in
    rw p.1 (record { answer = write-no (length a.bytes.now) a.levels a.indices.now a.coords.now p.0 (sym c.checked_whole.ensures ∙ c.in_err-checked_whole.was ∙ ap Err (sym p.2)); bytes = refl })

pub returns : goal.returns
returns c = let a = c.args in
    record { answer = write_done (length a.bytes.now) a.levels a.indices.now a.coords.now (goes _ _ _ _ c.checked_whole.ensures c.in_ok-checked_whole.was) (omega arith); bytes = c.put_sheet.ensures }
