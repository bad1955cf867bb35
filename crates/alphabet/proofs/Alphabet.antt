-- What request 7 promises of the whole call, over its definitions alone; and of request 8, that it tells no 11.
use Rattle.std.specs.Prelude.{Ok}
use Prim.Native.Nat.{ℕ, ◌+◌, ◌*◌, ◌≤◌}
use mathlib.Core.Path.{◌≡◌, refl, sym, ap, ◌∙◌}
use mathlib.Core.Logic.{◌≢◌}
use mathlib.Core.Bool.{Bool, true, false}
use mathlib.Core.List.{List, [], ◌∷◌, ◌++◌}
use native.Mathlib.Omega.{arith}
use lib.IntN.{ℤ}
use lib.ListN.{length, get_or, take, drop}
use lib.Seq.{sets, sets-eq, take_at, drop_at, take-take, take-length}
use Rattle.lists.specs.Lists.{pick, part}
use Rattle.lists.proofs.Stores.{drop-after}
use Rattle.rules.specs.Position.{whole}
use Rattle.rules.specs.Levels.{positions as positions_of}
use Rattle.rules.specs.Answers.{answer}
use Rattle.rules.specs.declared.Counts.{Counts}
use Rattle.rules.specs.Calls.{Lent, Buffers, whole_room, sheet_last}
use Rattle.rules.proofs.Ends.{sheet-never-eleven}
use Rattle.alphabet.specs.Sheets.{Done, room_of, alone, answered, next, all_of, cut, nothing, bad_batch, number, done, Left, SheetsCall}
use Rattle.alphabet.proofs.Lengths.{fine}
use Rattle.alphabet.proofs.Fold.{Fits, fits-nothing, fits_next, fits_all, told-next, told-long, part-of-take, output-here, past-positions, past-indices}

-- ---- what is told

told-kept : (d : Done) (bs : List (List ℕ)) → Fits d → take (length d.told) (all_of d bs).told ≡ d.told
unfolding all_of
told-kept d [] h = take-length d.told
told-kept d (b ∷ bs) h =
    let e = next d b in
    let n = length d.told in
    let m : n ≤ length e.told = omega (arith, told-long d b h) in
    sym (take-take n (length e.told) (all_of e bs).told m) ∙ ap (take n) (told-kept e bs (fits_next d b h) ∙ told-next d b h) ∙ take_at d.told (answer (answered d b)) n refl

pub told-all : (d : Done) (bs : List (List ℕ)) → Fits d → length (all_of d bs).told ≡ length d.told + 5 * length bs
unfolding all_of
told-all d [] h = omega arith
told-all d (b ∷ bs) h = told-all (next d b) bs (fits_next d b h) ∙ omega (arith, told-long d b h)

pub all_append : (d : Done) (xs ys : List (List ℕ)) → all_of d (xs ++ ys) ≡ all_of (all_of d xs) ys
unfolding all_of
all_append d [] ys = refl
all_append d (x ∷ xs) ys = all_append (next d x) xs ys

pub cut-long : (ns b : List ℕ) → length (cut ns b) ≡ length ns
unfolding cut
cut-long [] b = refl
cut-long (n ∷ ns) b = let e = cut-long ns (drop n b) in omega arith

-- ---- "for every sheet, its answer and output equal those of a call made on it by itself": the sheets before it, the sheet, the sheets after it

module _ (t : Buffers ℤ) (before : List (List ℕ)) (b : List ℕ) (after : List (List ℕ)) where
  -- when the sheet's turn comes, and at the end
  abbrev pub then : Done
  then = all_of (nothing t) before

  abbrev pub end : Done
  end = all_of (nothing t) (before ++ (b ∷ after))

  fits : Fits then
  fits = fits_all (nothing t) before (fits-nothing t)

  end_is : end ≡ all_of (next then b) after
  unfolding all_of
  end_is = all_append (nothing t) before (b ∷ after)

  told-then : length then.told ≡ 5 * length before
  told-then = told-all (nothing t) before (fits-nothing t) ∙ omega arith

  pub slot-by-itself : part (5 * length before) 5 end.told ≡ answer (answered then b)
  slot-by-itself =
      let e = next then b in
      let k = fits_next then b fits in
      let z = (all_of e after).told in
      let m = told-long then b fits in
      let l : 5 * length before ≤ length z = omega (arith, told-all e after k, told-then) in
      let w : length e.told ≡ 5 * length before + 5 = m ∙ omega (arith, told-then) in
      ap (λ (d : Done). part (5 * length before) 5 d.told) end_is ∙ sym (part-of-take (5 * length before) 5 z l) ∙ ap (λ (n : ℕ). drop (5 * length before) (take n z)) (sym w)
      ∙ ap (drop (5 * length before)) (told-kept e after k ∙ told-next then b fits) ∙ drop_at then.told (answer (answered then b)) (5 * length before) told-then

  pub slot-never-eleven : get_or (part (5 * length before) 5 end.told) 0 0 ≢ 11
  unfolding alone
  slot-never-eleven = rw slot-by-itself (sheet-never-eleven (whole_room (room_of then)) b)

  pub output-by-itself : (c : Counts) → answered then b ≡ Ok c →
      (part then.positions (3 * c.vertices) end.room.positions ≡ positions_of whole (sheet_last b)) × (part then.indices (3 * c.faces) end.room.indices ≡ (sheet_last b).mesh.faces)
  output-by-itself c s =
      let o = output-here then b after fits c s in
      (ap (λ (d : Done). part then.positions (3 * c.vertices) d.room.positions) end_is ∙ o.0, ap (λ (d : Done). part then.indices (3 * c.faces) d.room.indices) end_is ∙ o.1)

-- ---- the call

module _ (bytes ns : List ℕ) (b : Lent (Buffers ℤ)) (slots : Lent (List ℕ)) (r : ℕ) (call : SheetsCall bytes ns b slots r) where
  -- "before any sheet is read": nothing is written
  pub nineteen-writes-nothing : r ≡ 19 → (b.new ≡ b.old) × (slots.new ≡ slots.old)
  unfolding number done
  nineteen-writes-nothing e = go (bad_batch bytes ns slots.old) (sym call.returned ∙ e) call.left
    where
      go : (x : Bool) → ◌≡◌ {A = ℕ} (pick x 19 0) 19 → Left (pick x (nothing b.old) (all_of (nothing b.old) (cut ns bytes))) b slots → (b.new ≡ b.old) × (slots.new ≡ slots.old)
      go true e k = (k.room, k.slots)
      go false e k = absurd (let z : ◌≡◌ {A = ℕ} 0 19 = e in omega arith)

  pub number-never-eleven : r ≢ 11
  unfolding number
  number-never-eleven e = go (bad_batch bytes ns slots.old) (sym call.returned ∙ e)
    where
      go : (x : Bool) → ◌≡◌ {A = ℕ} (pick x 19 0) 11 → ⊥
      go true e = let z : ◌≡◌ {A = ℕ} 19 11 = e in omega arith
      go false e = let z : ◌≡◌ {A = ℕ} 0 11 = e in omega arith

  module _ (good : r ≡ 0) where
    -- all the sheets
    abbrev pub sheets : Done
    sheets = all_of (nothing b.old) (cut ns bytes)

    fine-batch : bad_batch bytes ns slots.old ≡ false
    unfolding number
    fine-batch = go (bad_batch bytes ns slots.old) (sym call.returned ∙ good)
      where
        go : (x : Bool) → ◌≡◌ {A = ℕ} (pick x 19 0) 0 → x ≡ false
        go true e = absurd (let z : ◌≡◌ {A = ℕ} 19 0 = e in omega arith)
        go false e = refl

    pub all_left : Left sheets b slots
    unfolding done
    all_left = rw fine-batch at call.left

    pub told-fits : (length sheets.told ≡ 5 * length ns) × (5 * length ns ≤ length slots.old)
    unfolding bad_batch
    told-fits =
        (told-all (nothing b.old) (cut ns bytes) (fits-nothing b.old) ∙ omega (arith, cut-long ns bytes), (fine (length bytes) ns (length slots.old) fine-batch).1)

    -- "Slots past the last sheet's are unchanged"
    pub slots-past : drop (5 * length ns) slots.new ≡ drop (5 * length ns) slots.old
    slots-past = ap (drop (5 * length ns)) all_left.slots ∙ drop-after sheets.told slots.old 0 (5 * length ns) (omega (arith, told-fits.0))

    -- "one answer per sheet": the slots in front are what was told
    pub slots-front : take (5 * length ns) slots.new ≡ sheets.told
    slots-front =
        let z = sheets.told in
        ap (take (5 * length ns)) (all_left.slots ∙ sets-eq z slots.old 0 (omega (arith, told-fits.0, told-fits.1)))
        ∙ take_at z (drop (0 + length z) slots.old) (5 * length ns) told-fits.0

    -- the room past the last output is as it was
    pub past-the-last : (drop sheets.positions b.new.positions ≡ drop sheets.positions b.old.positions) × (drop sheets.indices b.new.indices ≡ drop sheets.indices b.old.indices)
    past-the-last = (
      ap (λ (x : Buffers ℤ). drop sheets.positions x.positions) all_left.room ∙ past-positions (nothing b.old) (cut ns bytes) (fits-nothing b.old),
      ap (λ (x : Buffers ℤ). drop sheets.indices x.indices) all_left.room ∙ past-indices (nothing b.old) (cut ns bytes) (fits-nothing b.old),
    )

-- two outcomes that are allowed are one, if the same is lent
pub one-outcome-of-sheets : (bytes ns : List ℕ) (b d : Lent (Buffers ℤ)) (slots also : Lent (List ℕ)) (r q : ℕ) → b.old ≡ d.old → slots.old ≡ also.old
    → SheetsCall bytes ns b slots r → SheetsCall bytes ns d also q → (r ≡ q) × (b.new ≡ d.new) × (slots.new ≡ also.new)
one-outcome-of-sheets bytes ns b d slots also r q e f x y =
    let z = ap {B = Done} (λ (o : List ℕ). done bytes ns o b.old) f ∙ ap {B = Done} (λ (t : Buffers ℤ). done bytes ns also.old t) e in (
      x.returned ∙ ap (λ (o : List ℕ). number bytes ns o) f ∙ sym y.returned,
      x.left.room ∙ ap (λ (o : Done). o.room) z ∙ sym y.left.room,
      x.left.slots ∙ ap {B = List ℕ} (λ (o : List ℕ). sets o 0 (done bytes ns slots.old b.old).told) f ∙ ap {B = List ℕ} (λ (o : Done). sets also.old 0 o.told) z ∙ sym y.left.slots,
    )
