-- Request [1]: a sheet from vertex list, face list and levels, into a lent buffer.
use Rattle.std.specs.Prelude.{ℕ, ◌≡◌, List, [], ◌∷◌, ltb, ℤ, length}
use Rattle.std.proofs.Math.Option.{Option, none, some}
use Rattle.std.proofs.lemmas.List.Edits.{sets}
use Rattle.rules.specs.Position.{whole}
use Rattle.rules.specs.Refusals.{check, ◌or_else◌, when, mesh_refusal}
use Rattle.rules.specs.Sheets.{sheet_bytes}
use Rattle.rules.specs.declared.Refusal.{Refusal}
use Rattle.rules.specs.Calls.{Lent}
use Rattle.std.specs.Prelude.{Result}
use Rattle.std.specs.Prelude.{Ok, Err}

-- 1 to 12, then 17, "buffer shorter than the sheet"
unfoldable pub write_refusal : ℕ → ℕ → List ℕ → List ℤ → Option Refusal
write_refusal room l fs xs =
    let short = check 17 (when (ltb room (length (sheet_bytes l fs xs)))) in
    mesh_refusal whole l fs xs or_else short

abbrev pub written_or : Option Refusal → ℕ → Result ℕ Refusal
written_or none n = Ok n
written_or (some r) n = Err r

-- "returning its length", or the refusal
unfoldable pub written_of : ℕ → ℕ → List ℕ → List ℤ → Result ℕ Refusal
written_of room l fs xs = let n = length (sheet_bytes l fs xs) in written_or (write_refusal room l fs xs) n

-- "Bytes after the length are unchanged"; a refusal writes nothing
abbrev pub bytes_left : Result ℕ Refusal → List ℕ → List ℕ → List ℕ
bytes_left (Ok n) sheet old = sets old 0 sheet
bytes_left (Err r) sheet old = old

-- `write_sheet`: levels, face list, coordinates, the lent bytes, the answer
pub record WriteCall (l : ℕ) (fs : List ℕ) (xs : List ℤ) (bs : Lent (List ℕ)) (r : Result ℕ Refusal) : Type 0 where
  pub answer : r ≡ written_of (length bs.old) l fs xs
  pub bytes : bs.new ≡ bytes_left r (sheet_bytes l fs xs) bs.old

-- for C, the answer in three numbers: refusal number or 0, place, length
abbrev pub written_answer : Result ℕ Refusal → List ℕ
written_answer (Ok n) = 0 ∷ 0 ∷ n ∷ []
written_answer (Err r) = r.number ∷ r.place ∷ 0 ∷ []

pub record WriteTold (l : ℕ) (fs : List ℕ) (xs : List ℤ) (bs : Lent (List ℕ)) (told : List ℕ) : Type 0 where
  pub answer : Result ℕ Refusal
  pub kept : WriteCall l fs xs bs answer
  pub three : told ≡ written_answer answer
