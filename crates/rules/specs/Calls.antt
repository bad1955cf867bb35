-- What a call promises, said once for every engine, entry and boundary: its answer, and by that answer what it leaves in each lent buffer.
use Rattle.std.specs.Prelude.{ℕ, ◌≡◌, List, ℤ, length, Float}
use Rattle.std.specs.Borrow.{Bor, MutBor}
use denote.Triple.Both.{Both}
use Rattle.rules.specs.Position.{Numbers, whole, single}
use Rattle.rules.specs.Levels.{Level, last, positions as positions_of}
use Rattle.rules.specs.Tangents.{normals as normals_of}
use Rattle.rules.specs.Refusals.{Room}
use Rattle.rules.specs.Answers.{answer, outcome, whole_rooms, single_rooms, written, zeroed, work_words, work_coords}
use Rattle.rules.specs.Sharp.{sharp_last, sharp_positions, sharp_outcome}
use Rattle.rules.specs.Sheets.{sheet_levels, sheet_indices, sheet_coords, sheet_outcome}
use Rattle.rules.specs.declared.Counts.{Counts}
use Rattle.rules.specs.Outcome.{Outcome}

-- ---- what stands behind a slice that is lent: as it is given; before the call and after it

abbrev pub given : {A X : Type 0} → Both (Bor A) X → A
given p = p.entry.now

pub record Lent (A : Type 0) : Type 0 where
  pub old : A
  pub new : A

abbrev pub lent : {A : Type 0} → Both (MutBor A) (MutBor A) → Lent A
lent p = record { old = p.entry.now; new = p.exit.now }

-- the buffers that both engines have
pub record Buffers (N : Type 0) : Type 0 where
  pub positions : List N
  pub indices : List ℕ
  pub words : List ℕ
  pub work : List N

abbrev pub buffers : {N : Type 0} → Both (MutBor (List N)) (MutBor (List N)) → Both (MutBor (List ℕ)) (MutBor (List ℕ)) → Both (MutBor (List ℕ)) (MutBor (List ℕ)) → Both (MutBor (List N)) (MutBor (List N)) → Lent (Buffers N)
buffers ps is ws cs =
    record {
      old = record { positions = ps.entry.now; indices = is.entry.now; words = ws.entry.now; work = cs.entry.now };
      new = record { positions = ps.exit.now; indices = is.exit.now; words = ws.exit.now; work = cs.exit.now };
    }

-- what success writes: limit positions, and faces; those of a level
pub record Final (N : Type 0) : Type 0 where
  pub positions : List N
  pub faces : List ℕ

abbrev pub final : (𝓝 : Numbers) → Level 𝓝 → Final 𝓝.N
final 𝓝 a = record { positions = positions_of 𝓝 a; faces = a.mesh.faces }

-- ---- the promise: the answer r is what o says of the buffers as they are lent, and they are left with the final mesh m, or as they were

pub record Call (𝓝 : Numbers) (o : Buffers 𝓝.N → Outcome) (m : Final 𝓝.N) (b : Lent (Buffers 𝓝.N)) (r : Outcome) : Type 0 where
  pub answer : r ≡ o b.old
  pub positions : b.new.positions ≡ written r m.positions b.old.positions
  pub indices : b.new.indices ≡ written r m.faces b.old.indices
  pub words : b.new.words ≡ zeroed r 0 work_words b.old.words
  pub work : b.new.work ≡ zeroed r 𝓝.nought work_coords b.old.work

-- `loop_subdivide_whole`: levels, list of sharp sides, face list, coordinates. Marks move points and no face
abbrev pub whole_room : Buffers ℤ → Counts → List Room
whole_room b = whole_rooms (length b.positions) (length b.indices) (length b.words) (length b.work)

abbrev pub sharp_final : ℕ → List ℕ → List ℕ → List ℤ → Final ℤ
sharp_final l sharp fs xs = record { positions = sharp_positions whole (sharp_last whole l sharp fs xs); faces = (last whole l fs xs).mesh.faces }

abbrev pub SharpCall : ℕ → List ℕ → List ℕ → List ℤ → Lent (Buffers ℤ) → Outcome → Type 0
SharpCall l sharp fs xs b r = Call whole (λ old. sharp_outcome whole (whole_room old) l sharp fs xs) (sharp_final l sharp fs xs) b r

-- that with no side listed, by the rules without marks alone
abbrev pub WholeCall : ℕ → List ℕ → List ℤ → Lent (Buffers ℤ) → Outcome → Type 0
WholeCall l fs xs b r = Call whole (λ old. outcome whole (whole_room old) l fs xs) (final whole (last whole l fs xs)) b r

-- `loop_subdivide`, which has normals too
abbrev pub single_room : List Float → Buffers Float → Counts → List Room
single_room ns b = single_rooms (length b.positions) (length ns) (length b.indices) (length b.words) (length b.work)

pub record SingleCall (l : ℕ) (fs : List ℕ) (xs : List Float) (b : Lent (Buffers Float)) (ns : Lent (List Float)) (r : Outcome) : Type 0 where
  pub call : Call single (λ old. outcome single (single_room ns.old old) l fs xs) (final single (last single l fs xs)) b r
  pub normals : ns.new ≡ written r (normals_of (last single l fs xs)) ns.old

-- `subdivide_sheet`: the last level of the sheet's lists
abbrev pub sheet_last : List ℕ → Level whole
sheet_last bytes = last whole (sheet_levels bytes) (sheet_indices bytes) (sheet_coords bytes)

abbrev pub SheetCall : List ℕ → Lent (Buffers ℤ) → Outcome → Type 0
SheetCall bytes b r = Call whole (λ old. sheet_outcome (whole_room old) bytes) (final whole (sheet_last bytes)) b r

-- for C: an outcome that the call allows, told as the paper's five numbers
pub record Told (call : Outcome → Type 0) (told : List ℕ) : Type 0 where
  pub outcome : Outcome
  pub kept : call outcome
  pub five : told ≡ answer outcome
