-- The text of the slots that a batch leaves is that of its sheets.
use Rattle.std.specs.Prelude.{Err, Ok}
use Prim.Native.Nat.{ℕ, suc, ◌+◌, ◌*◌, ◌≤◌}
use mathlib.Core.Path.{◌≡◌, refl, sym, ap, ap₂, ◌∙◌}
use mathlib.Core.List.{List, [], ◌∷◌, ◌++◌, append_assoc, append-nil}
use native.Mathlib.Omega.{arith}
use lib.IntN.{ℤ}
use lib.ListN.{length, take, drop}
use lib.Seq.{sets-eq, drop-drop, length-sets}
use Rattle.lists.specs.Lists.{rows}
use Rattle.rules.specs.Position.{whole}
use Rattle.rules.specs.Levels.{positions as positions_of}
use Rattle.rules.specs.Answers.{answer}
use Rattle.rules.specs.Calls.{Lent, Buffers, sheet_last}
use Rattle.rules.specs.Outcome.{Outcome}
use Rattle.alphabet.specs.Sheets.{Done, answered, next, all_of, cut, nothing, taken, taken_indices, Left, SheetsCall}
use Rattle.alphabet.proofs.Fold.{Fits, fits-nothing, fits_next, fits_all, told-next, output-here}
use Rattle.alphabet.proofs.Alphabet.{cut-long, all_left, told-fits}
use Rattle.listing.specs.Text.{mesh_text}
use Rattle.fontcut.specs.Output.{slot_text, slot_texts, sums, texts, entries, room_lent, batch_text}
use Rattle.fontcut.proofs.Head.{number_is, done-by}

-- ---- what is told from d on

unfoldable tolds : Done → List (List ℕ) → List ℕ
tolds d [] = []
tolds d (b ∷ bs) = answer (answered d b) ++ tolds (next d b) bs

tolds-are : (d : Done) (bs : List (List ℕ)) → Fits d → (all_of d bs).told ≡ d.told ++ tolds d bs
unfolding all_of tolds
tolds-are d [] h = sym (append-nil d.told)
tolds-are d (b ∷ bs) h =
    let e = next d b in
    tolds-are e bs (fits_next d b h) ∙ ap (λ (l : List ℕ). l ++ tolds e bs) (told-next d b h) ∙ append_assoc d.told (answer (answered d b)) (tolds e bs)

-- ---- how much the slots take

took : (d : Done) (b : List ℕ) → (next d b).positions ≡ d.positions + taken (answered d b)
unfolding next
took d b = refl

took-indices : (d : Done) (b : List ℕ) → (next d b).indices ≡ d.indices + taken_indices (answered d b)
unfolding next
took-indices d b = refl

slot-takes : (r : Outcome) (n : ℕ) (y z : List ℕ) → sums 2 (suc n) ((answer r ++ y) ++ z) ≡ taken r + sums 2 n (y ++ z)
unfolding sums
slot-takes (Ok c) n y z = refl
slot-takes (Err x) n y z = refl

slot-takes-indices : (r : Outcome) (n : ℕ) (y z : List ℕ) → sums 3 (suc n) ((answer r ++ y) ++ z) ≡ taken_indices r + sums 3 n (y ++ z)
unfolding sums
slot-takes-indices (Ok c) n y z = refl
slot-takes-indices (Err x) n y z = refl

in_all : (a b c d : ℕ) → d ≡ a + b → a + (b + c) ≡ d + c
in_all a b c d e = omega arith

positions-taken : (d : Done) (bs : List (List ℕ)) (z : List ℕ) → d.positions + sums 2 (length bs) (tolds d bs ++ z) ≡ (all_of d bs).positions
unfolding all_of tolds sums
positions-taken d [] z = let e : d.positions + 0 ≡ d.positions = omega arith in e
positions-taken d (b ∷ bs) z =
    let e = next d b in
    let r = answered d b in
    let m = sums 2 (length bs) (tolds e bs ++ z) in
    ap (λ (k : ℕ). d.positions + k) (slot-takes r (length bs) (tolds e bs) z) ∙ in_all d.positions (taken r) m e.positions (took d b) ∙ positions-taken e bs z

indices-taken : (d : Done) (bs : List (List ℕ)) (z : List ℕ) → d.indices + sums 3 (length bs) (tolds d bs ++ z) ≡ (all_of d bs).indices
unfolding all_of tolds sums
indices-taken d [] z = let e : d.indices + 0 ≡ d.indices = omega arith in e
indices-taken d (b ∷ bs) z =
    let e = next d b in
    let r = answered d b in
    let m = sums 3 (length bs) (tolds e bs ++ z) in
    ap (λ (k : ℕ). d.indices + k) (slot-takes-indices r (length bs) (tolds e bs) z) ∙ in_all d.indices (taken_indices r) m e.indices (took-indices d b) ∙ indices-taken e bs z

-- ---- and their text

slot-first : (r : Outcome) (n : ℕ) (y z : List ℕ) (ps : List ℤ) (is : List ℕ) → slot_texts (suc n) ((answer r ++ y) ++ z) ps is
    ≡ slot_text (answer r) (take (taken r) ps) (take (taken_indices r) is) ++ slot_texts n (y ++ z) (drop (taken r) ps) (drop (taken_indices r) is)
unfolding slot_texts slot_text
slot-first (Ok c) n y z ps is = refl
slot-first (Err x) n y z ps is = refl

slot-own : (d : Done) (b : List ℕ) (bs : List (List ℕ)) → Fits d → (r : Outcome) → answered d b ≡ r →
    slot_text (answer r) (take (taken r) (drop d.positions (all_of (next d b) bs).room.positions)) (take (taken_indices r) (drop d.indices (all_of (next d b) bs).room.indices))
    ≡ slot_text (answer r) (positions_of whole (sheet_last b)) (sheet_last b).mesh.faces
unfolding slot_text mesh_text rows
slot-own d b bs h (Ok c) q = let o = output-here d b bs h c q in ap₂ {C = List ℕ} (λ ps is. slot_text (answer (Ok c)) ps is) o.0 o.1
slot-own d b bs h (Err x) q = refl

texts-are : (d : Done) (bs : List (List ℕ)) (z : List ℕ) → Fits d →
    slot_texts (length bs) (tolds d bs ++ z) (drop d.positions (all_of d bs).room.positions) (drop d.indices (all_of d bs).room.indices) ≡ texts d bs
unfolding all_of tolds slot_texts texts
texts-are d [] z h = refl
texts-are d (b ∷ bs) z h =
    let e = next d b in
    let r = answered d b in
    let end = all_of e bs in
    let s = tolds e bs ++ z in
    let p : drop (taken r) (drop d.positions end.room.positions) ≡ drop e.positions end.room.positions =
    drop-drop (taken r) d.positions end.room.positions ∙ ap (λ (k : ℕ). drop k end.room.positions) (sym (took d b)) in
    let q : drop (taken_indices r) (drop d.indices end.room.indices) ≡ drop e.indices end.room.indices =
    drop-drop (taken_indices r) d.indices end.room.indices ∙ ap (λ (k : ℕ). drop k end.room.indices) (sym (took-indices d b)) in
    slot-first r (length bs) (tolds e bs) z (drop d.positions end.room.positions) (drop d.indices end.room.indices)
    ∙ ap₂ {C = List ℕ} (λ x y. x ++ y) (slot-own d b bs h r refl) (ap₂ {C = List ℕ} (λ ps is. slot_texts (length bs) s ps is) p q ∙ texts-are e bs z (fits_next d b h))

-- ---- after a call that gave 0

pub record Ready (bytes ns : List ℕ) (t : Buffers ℤ) (s : List ℕ) (u : Buffers ℤ) : Type 0 where
  pub five : 5 * length ns ≤ length s
  pub positions : sums 2 (length ns) s ≤ length u.positions
  pub indices : sums 3 (length ns) s ≤ length u.indices
  pub text : slot_texts (length ns) s u.positions u.indices ≡ texts (nothing t) (cut ns bytes)

module _ (bytes ns : List ℕ) (b : Lent (Buffers ℤ)) (slots : Lent (List ℕ)) (r : ℕ) (call : SheetsCall bytes ns b slots r) (good : r ≡ 0) where
  abbrev all : Done
  all = all_of (nothing b.old) (cut ns bytes)

  left : Left all b slots
  left = all_left bytes ns b slots r call good

  fits : Fits all
  fits = fits_all (nothing b.old) (cut ns bytes) (fits-nothing b.old)

  abbrev after : List ℕ
  after = drop (0 + length all.told) slots.old

  slots-are : slots.new ≡ tolds (nothing b.old) (cut ns bytes) ++ after
  slots-are =
      let f = told-fits bytes ns b slots r call good in
      left.slots ∙ sets-eq all.told slots.old 0 (omega (arith, f.0, f.1)) ∙ ap (λ (l : List ℕ). l ++ after) (tolds-are (nothing b.old) (cut ns bytes) (fits-nothing b.old))

  sums-are : (j : ℕ) → sums j (length ns) slots.new ≡ sums j (length (cut ns bytes)) (tolds (nothing b.old) (cut ns bytes) ++ after)
  sums-are j = ap₂ {C = ℕ} (λ n s. sums j n s) (sym (cut-long ns bytes)) slots-are

  pub ready : Ready bytes ns b.old slots.new b.new
  ready =
      let s = tolds (nothing b.old) (cut ns bytes) ++ after in
      let f = told-fits bytes ns b slots r call good in
      let l = ap length left.slots ∙ length-sets slots.old 0 all.told in
      let p : length b.new.positions ≡ length all.room.positions = ap (λ (x : Buffers ℤ). length x.positions) left.room in
      let q : length b.new.indices ≡ length all.room.indices = ap (λ (x : Buffers ℤ). length x.indices) left.room in
      let a : 0 + sums 2 (length (cut ns bytes)) s ≡ all.positions = positions-taken (nothing b.old) (cut ns bytes) after in
      let c : 0 + sums 3 (length (cut ns bytes)) s ≡ all.indices = indices-taken (nothing b.old) (cut ns bytes) after in
      record {
        five = omega (arith, f.1, l);
        positions = omega (arith, sums-are 2, a, p, fits.positions);
        indices = omega (arith, sums-are 3, c, q, fits.indices);
        text = ap (λ (x : Buffers ℤ). slot_texts (length ns) slots.new x.positions x.indices) left.room
            ∙ ap₂ {C = List ℕ} (λ n x. slot_texts n x all.room.positions all.room.indices) (sym (cut-long ns bytes)) slots-are
            ∙ texts-are (nothing b.old) (cut ns bytes) after (fits-nothing b.old);
      }

  pub batch-text : b.old ≡ room_lent → length slots.old ≡ entries → slot_texts (length ns) slots.new b.new.positions b.new.indices ≡ batch_text bytes ns
  batch-text e l =
      ready.text ∙ ap {B = List ℕ} (λ (t : Buffers ℤ). texts (nothing t) (cut ns bytes)) e ∙ done-by bytes ns r (call.returned ∙ number_is bytes ns slots.old l) good
