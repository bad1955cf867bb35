-- Request [7]: up to 64 sheets laid end to end, each done as by a call on it by itself with the room still free.
use Rattle.std.specs.Prelude.{ℕ, ◌+◌, ◌*◌, ◌≡◌, Bool, not, ◌||◌, List, [], ◌∷◌, ◌++◌, eqb, ltb, ℤ, pos, length, take, drop, Err, Ok}
use Rattle.std.proofs.lemmas.List.Edits.{sets}
use Rattle.lists.specs.Lists.{pick}
use Rattle.rules.specs.Position.{whole}
use Rattle.rules.specs.Levels.{positions as positions_of}
use Rattle.rules.specs.Answers.{answer, written, zeroed, three_each, corners, work_words, work_coords}
use Rattle.rules.specs.Sheets.{sheet_outcome}
use Rattle.rules.specs.Calls.{Lent, Buffers, whole_room, sheet_last}
use Rattle.rules.specs.Outcome.{Outcome}

abbrev pub four : List ℤ → List ℕ → List ℕ → List ℤ → Buffers ℤ
four ps is ws cs = record { positions = ps; indices = is; words = ws; work = cs }

-- ---- "a call made on it by itself": `SheetCall` of rules/Calls, as what it answers and what it leaves

unfoldable pub alone : Buffers ℤ → List ℕ → Outcome
alone t b = sheet_outcome (whole_room t) b

unfoldable pub leaves : Buffers ℤ → List ℕ → Buffers ℤ
leaves t b =
    let r = alone t b in
    let a = sheet_last b in
    four (written r (positions_of whole a) t.positions) (written r a.mesh.faces t.indices) (zeroed r 0 work_words t.words) (zeroed r (pos 0) work_coords t.work)

-- ---- "the room still free": past p positions and q indices; the work buffers whole

abbrev pub free : ℕ → ℕ → Buffers ℤ → Buffers ℤ
free p q t = four (drop p t.positions) (drop q t.indices) t.words t.work

-- and that room after a call, behind what stood before it
abbrev pub behind : ℕ → ℕ → Buffers ℤ → Buffers ℤ → Buffers ℤ
behind p q t u = four (take p t.positions ++ u.positions) (take q t.indices ++ u.indices) u.words u.work

-- "A refused sheet takes no room"
abbrev pub taken : Outcome → ℕ
taken (Ok c) = three_each c
taken (Err r) = 0

abbrev pub taken_indices : Outcome → ℕ
taken_indices (Ok c) = corners c
taken_indices (Err r) = 0

-- ---- sheet after sheet: the positions and indices taken so far, the answers, and all buffers

pub record Done : Type 0 where
  pub positions : ℕ
  pub indices : ℕ
  pub told : List ℕ
  pub room : Buffers ℤ

abbrev pub nothing : Buffers ℤ → Done
nothing t = record { positions = 0; indices = 0; told = []; room = t }

-- "in the lent room that follows the previous output"
abbrev pub room_of : Done → Buffers ℤ
room_of d = free d.positions d.indices d.room

abbrev pub answered : Done → List ℕ → Outcome
answered d b = alone (room_of d) b

unfoldable pub next : Done → List ℕ → Done
next d b =
    let r = answered d b in
    record {
      positions = d.positions + taken r;
      indices = d.indices + taken_indices r;
      told = d.told ++ answer r;
      room = behind d.positions d.indices d.room (leaves (room_of d) b);
    }

unfoldable pub all_of : Done → List (List ℕ) → Done
all_of d [] = d
all_of d (b ∷ bs) = all_of (next d b) bs

-- "laid end to end .. with their lengths in a list"
unfoldable pub cut : List ℕ → List ℕ → List (List ℕ)
cut [] b = []
cut (n ∷ ns) b = take n b ∷ cut ns (drop n b)

abbrev pub total : List ℕ → ℕ
total [] = 0
total (n ∷ ns) = n + total ns

-- ---- 19: "more than 64 sheets, or lengths that don't add up to the buffer, or too few answer slots"; a slot is five numbers

abbrev pub most_sheets : ℕ
most_sheets = 64

-- of so many bytes and so many answer entries
abbrev pub wrong : ℕ → List ℕ → ℕ → Bool
wrong bytes ns entries = ltb most_sheets (length ns) || not (eqb (total ns) bytes) || ltb entries (5 * length ns)

unfoldable pub bad_batch : List ℕ → List ℕ → List ℕ → Bool
bad_batch b ns slots = wrong (length b) ns (length slots)

unfoldable pub number : List ℕ → List ℕ → List ℕ → ℕ
number b ns slots = pick (bad_batch b ns slots) 19 0

unfoldable pub done : List ℕ → List ℕ → List ℕ → Buffers ℤ → Done
done b ns slots t = let all = all_of (nothing t) (cut ns b) in pick (bad_batch b ns slots) (nothing t) all

-- ---- what the calls promise

-- one sheet in the room past p positions and q indices
pub record One (b : Lent (Buffers ℤ)) (p q : ℕ) (bytes : List ℕ) (r : Outcome) : Type 0 where
  pub answer : r ≡ alone (free p q b.old) bytes
  pub room : b.new ≡ behind p q b.old (leaves (free p q b.old) bytes)

-- what sheets leave: the buffers, and their answers from slot 0 on
pub record Left (d : Done) (b : Lent (Buffers ℤ)) (a : Lent (List ℕ)) : Type 0 where
  pub room : b.new ≡ d.room
  pub slots : a.new ≡ sets a.old 0 d.told

-- `subdivide_sheets`
pub record SheetsCall (bytes lengths : List ℕ) (b : Lent (Buffers ℤ)) (a : Lent (List ℕ)) (r : ℕ) : Type 0 where
  pub returned : r ≡ number bytes lengths a.old
  pub left : Left (done bytes lengths a.old b.old) b a
