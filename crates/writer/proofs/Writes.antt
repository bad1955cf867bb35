-- What the writer answers, stage by stage.
use Rattle.std.specs.Prelude.{Err}
use Prim.Native.Nat.{ℕ, ◌+◌, ◌*◌, ◌/◌, ◌≤◌, ◌<◌}
use mathlib.Core.Path.{◌≡◌, refl}
use mathlib.Core.List.{List}
use mathlib.Core.Option.{Option, none, some}
use native.Mathlib.Omega.{arith}
use lib.Dec.{ltb}
use lib.IntN.{ℤ}
use lib.ListN.{length}
use borrow.Author.Tests.{lt-ltb, le-ltb}
use Rattle.rules.specs.Position.{Numbers, whole}
use Rattle.rules.specs.Refusals.{check, when, ◌or_else◌, shape_refusal, range_refusal, list_refusal, fan_refusal, mesh_refusal}
use Rattle.rules.specs.Sheets.{sheet_bytes}
use Rattle.rules.specs.declared.Refusal.{Refusal}
use Rattle.rules.proofs.Checks.{Shape, shape_of, or-none}
use Rattle.limits.specs.Verdicts.{verdict_of}
use Rattle.writer.specs.Writing.{write_refusal, written_or, written_of}
use Rattle.std.specs.Prelude.{Ok, Err}
use Rattle.writer.proofs.Puts.{sheet-long}

-- what checks 1 to 12 leave, stage by stage
pub record Passed (𝓝 : Numbers) (l : ℕ) (fs : List ℕ) (xs : List 𝓝.N) : Type 0 where
  pub shape : Shape l (length fs) (length xs)
  pub range : range_refusal 𝓝 xs ≡ none
  pub list : list_refusal (length xs / 3) fs ≡ none
  pub fans : fan_refusal (length xs / 3) fs ≡ none

pub passed : (𝓝 : Numbers) (l : ℕ) (fs : List ℕ) (xs : List 𝓝.N) → mesh_refusal 𝓝 l fs xs ≡ none → Passed 𝓝 l fs xs
unfolding mesh_refusal
passed 𝓝 l fs xs e =
    let v = length xs / 3 in
    let a = or-none (shape_refusal l (length fs) (length xs)) (range_refusal 𝓝 xs or_else list_refusal v fs or_else fan_refusal v fs) e in
    let b = or-none (range_refusal 𝓝 xs) (list_refusal v fs or_else fan_refusal v fs) a.1 in
    let c = or-none (list_refusal v fs) (fan_refusal v fs) b.1 in
    record { shape = shape_of l (length fs) (length xs) a.0; range = b.0; list = c.0; fans = c.1 }

pub few : (l is cs : ℕ) → Shape l is cs → (is ≤ 12288) × (cs ≤ 12288)
few l is cs s =
    let f : is / 3 ≤ 4096 = s.faces in
    let v : cs / 3 ≤ 4096 = s.verts in
    (omega (arith, s.indices), omega (arith, s.coords))

stops : (a b : Option Refusal) (n : ℕ) (r : Refusal) → verdict_of a ≡ Err r → Err r ≡ written_or (a or_else b) n
stops none b n r e = absurd (let z : ◌≡◌ {A = ℕ} 0 1 = cc in omega arith)
stops (some x) b n r e = cc

module _ (room l : ℕ) (fs : List ℕ) (xs : List ℤ) where
  pub write-no : (r : Refusal) → verdict_of (mesh_refusal whole l fs xs) ≡ Err r → Err r ≡ written_of room l fs xs
  unfolding written_of write_refusal
  write-no r e =
      let n = length (sheet_bytes l fs xs) in
      stops (mesh_refusal whole l fs xs) (check 17 (when (ltb room n))) n r e

  pub write-17 : mesh_refusal whole l fs xs ≡ none → room < 4 * length xs + 4 * length fs + 20 → Err (record { number = 17; place = 0 }) ≡ written_of room l fs xs
  unfolding written_of write_refusal
  write-17 e h = rw (e, sheet-long l fs xs, lt-ltb _ _ h) refl

  pub write_done : mesh_refusal whole l fs xs ≡ none → 4 * length xs + 4 * length fs + 20 ≤ room → Ok (4 * length xs + 4 * length fs + 20) ≡ written_of room l fs xs
  unfolding written_of write_refusal
  write_done e h = rw (e, sheet-long l fs xs, le-ltb _ _ h) refl
