-- Request [1], of every call that keeps the writer's promise: one outcome, nothing written by a refusal, the rest unchanged, both round trips, and the same cut. Of request [8]: it
-- never answers 11.
use Prim.Native.Nat.{ℕ, ◌≤◌}
use mathlib.Core.Path.{◌≡◌, refl, sym, ap, ◌∙◌}
use mathlib.Core.Logic.{◌≢◌}
use mathlib.Core.Bool.{Bool, true, false}
use mathlib.Core.List.{List}
use mathlib.Core.Option.{Option, none, some}
use native.Mathlib.Omega.{arith}
use lib.Dec.{ltb}
use lib.IntN.{ℤ}
use lib.ListN.{length, get_or, take, drop}
use borrow.Author.Tests.{ltb-false}
use Rattle.lists.proofs.Stores.{drop-after, part_of}
use Rattle.rules.specs.Position.{whole}
use Rattle.rules.specs.Refusals.{Room, check, when, ◌or_else◌, mesh_refusal}
use Rattle.rules.specs.Answers.{outcome}
use Rattle.rules.specs.Sheets.{bad_sheet, sheet_levels, sheet_indices, sheet_coords, sheet_outcome, sheet_bytes}
use Rattle.rules.specs.declared.Refusal.{Refusal}
use Rattle.rules.specs.declared.Counts.{Counts}
use Rattle.rules.proofs.Checks.{or-none}
use Rattle.rules.proofs.Ends.{Never, never-or, never-check, mesh-never-eleven}
use Rattle.rules.specs.Calls.{Lent}
use Rattle.writer.specs.Writing.{write_refusal, written_or, written_of, bytes_left, WriteCall, written_answer, WriteTold}
use Rattle.std.specs.Prelude.{Result}
use Rattle.std.specs.Prelude.{Ok, Err}
use Rattle.writer.proofs.Lists.{Bytes}
use Rattle.writer.proofs.Trips.{good-back, levels-back, indices-back, coords-back, cut-as-lists, write-back}

-- ---- what an answer of a length says

pub unlike : {r : Refusal} {n : ℕ} → Err r ≡ Ok n → ⊥
unlike {r} {n} e = let z : ◌≡◌ {A = ℕ} 0 1 = cc in omega arith

none_of : (a : Option Refusal) (k n : ℕ) → written_or a k ≡ Ok n → (a ≡ none) × (k ≡ n)
none_of none k n e = (refl, cc)
none_of (some r) k n e = absurd (unlike e)

not_short : (room n : ℕ) → check 17 (when (ltb room n)) ≡ none → n ≤ room
not_short room n e = go (ltb room n) refl e
  where
    go : (t : Bool) → ltb room n ≡ t → check 17 (when t) ≡ none → n ≤ room
    go true w k = absurd (let z : ◌≡◌ {A = ℕ} 0 1 = cc in omega arith)
    go false w k = ltb-false room n w

pub record Wrote (room l : ℕ) (fs : List ℕ) (xs : List ℤ) (n : ℕ) : Type 0 where
  pub passed : mesh_refusal whole l fs xs ≡ none
  pub long : length (sheet_bytes l fs xs) ≡ n
  pub fits : n ≤ room

pub wrote : (room l : ℕ) (fs : List ℕ) (xs : List ℤ) (n : ℕ) → written_of room l fs xs ≡ Ok n → Wrote room l fs xs n
unfolding written_of write_refusal
wrote room l fs xs n e =
    let k = length (sheet_bytes l fs xs) in
    let a = none_of (mesh_refusal whole l fs xs or_else check 17 (when (ltb room k))) k n e in
    let b = or-none (mesh_refusal whole l fs xs) (check 17 (when (ltb room k))) a.0 in
    record { passed = b.0; long = a.1; fits = omega (arith, a.1, not_short room k b.1) }

-- ---- two outcomes that are allowed are one

module _ (l : ℕ) (fs : List ℕ) (xs : List ℤ) (bs cs : Lent (List ℕ)) (e : bs.old ≡ cs.old) where
  pub one-outcome : (r q : Result ℕ Refusal) → WriteCall l fs xs bs r → WriteCall l fs xs cs q → (r ≡ q) × (bs.new ≡ cs.new)
  one-outcome r q c d =
      let a : r ≡ q = c.answer ∙ ap (λ (b : List ℕ). written_of (length b) l fs xs) e ∙ sym d.answer in
      (a, c.bytes ∙ ap (λ (w : Result ℕ Refusal). bytes_left w (sheet_bytes l fs xs) bs.old) a ∙ ap (bytes_left q (sheet_bytes l fs xs)) e ∙ sym d.bytes)

  pub one-outcome-told : (told also : List ℕ) → WriteTold l fs xs bs told → WriteTold l fs xs cs also → (told ≡ also) × (bs.new ≡ cs.new)
  one-outcome-told told also c d =
      let o = one-outcome c.answer d.answer c.kept d.kept in
      (c.three ∙ ap (λ (w : Result ℕ Refusal). written_answer w) o.0 ∙ sym d.three, o.1)

-- ---- what a call leaves

module _ (l : ℕ) (fs : List ℕ) (xs : List ℤ) (bs : Lent (List ℕ)) where
  pub refused-writes-nothing : (r : Refusal) → WriteCall l fs xs bs (Err r) → bs.new ≡ bs.old
  refused-writes-nothing r c = c.bytes

  module _ (n : ℕ) (c : WriteCall l fs xs bs (Ok n)) where
    w : Wrote (length bs.old) l fs xs n
    w = wrote (length bs.old) l fs xs n (sym c.answer)

    pub sheet-in-front : take n bs.new ≡ sheet_bytes l fs xs
    sheet-in-front = ap (take n) c.bytes ∙ part_of (sheet_bytes l fs xs) bs.old 0 n w.long (omega (arith, w.fits))

    -- "Bytes after the length are unchanged"
    pub rest-unchanged : drop n bs.new ≡ drop n bs.old
    rest-unchanged = ap (drop n) c.bytes ∙ drop-after (sheet_bytes l fs xs) bs.old 0 n (omega (arith, w.long))

    -- "Reading what was written gives the lists back"
    pub read_back : (bad_sheet (take n bs.new) ≡ false) × (sheet_levels (take n bs.new) ≡ l) × (sheet_indices (take n bs.new) ≡ fs) × (sheet_coords (take n bs.new) ≡ xs)
    read_back =
        let p = w.passed in
        rw sheet-in-front (good-back l fs xs p, levels-back l fs xs p, indices-back l fs xs p, coords-back l fs xs p)

    -- and the plate of the sheet is the plate of the lists, whatever room is lent
    pub cut-alike : (rooms : Counts → List Room) → sheet_outcome rooms (take n bs.new) ≡ outcome whole rooms l fs xs
    cut-alike rooms = ap (sheet_outcome rooms) sheet-in-front ∙ cut-as-lists l fs xs w.passed rooms

-- "writing what was read, where not refused, gives the same bytes"
pub same_bytes : (b : List ℕ) → Bytes b → bad_sheet b ≡ false → (bs : Lent (List ℕ)) (n : ℕ) → WriteCall (sheet_levels b) (sheet_indices b) (sheet_coords b) bs (Ok n) → take n bs.new ≡ b
same_bytes b h good bs n c = sheet-in-front (sheet_levels b) (sheet_indices b) (sheet_coords b) bs n c ∙ write-back b h good

-- ---- [8]: "No number is used again"

never-written : (a : Option Refusal) (n : ℕ) → Never a → get_or (written_answer (written_or a n)) 0 0 ≢ 11
never-written none n p = λ e. omega arith
never-written (some r) n p = p r refl

pub written-never-eleven : (room l : ℕ) (fs : List ℕ) (xs : List ℤ) → get_or (written_answer (written_of room l fs xs)) 0 0 ≢ 11
unfolding written_of write_refusal
written-never-eleven room l fs xs =
    let n = length (sheet_bytes l fs xs) in
    let short = when (ltb room n) in
    let all = mesh_refusal whole l fs xs in
    never-written (all or_else check 17 short) n (never-or all (check 17 short) (mesh-never-eleven whole l fs xs) (never-check 17 short tt))

pub never-eleven : (l : ℕ) (fs : List ℕ) (xs : List ℤ) (bs : Lent (List ℕ)) (told : List ℕ) → WriteTold l fs xs bs told → get_or told 0 0 ≢ 11
never-eleven l fs xs bs told t e =
    written-never-eleven (length bs.old) l fs xs
    (ap (λ (w : Result ℕ Refusal). get_or (written_answer w) 0 0) (sym t.kept.answer) ∙ ap (λ (x : List ℕ). get_or x 0 0) (sym t.three) ∙ e)
