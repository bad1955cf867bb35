-- What fits the room that is lent, which of 16 and the rest decides, and that every plate has a text.
use Rattle.std.specs.Prelude.{Result, Err, Ok}
use Prim.Native.Nat.{ℕ, ◌/◌, ◌≤◌, ◌<◌}
use mathlib.Core.Path.{◌≡◌, refl, sym, ap, ◌∙◌}
use mathlib.Core.Bool.{true}
use mathlib.Core.List.{List}
use mathlib.Core.Option.{Option, none, some}
use native.Mathlib.Nat.{zero-add}
use native.Mathlib.Omega.{arith}
use lib.IntN.{ℤ}
use lib.ListN.{length, replicate, length-replicate}
use borrow.Author.Tests.{lt-ltb, le-ltb}
use Rattle.rules.specs.Mesh.{cage}
use Rattle.rules.specs.Position.{whole}
use Rattle.rules.specs.Levels.{first, positions as positions_of}
use Rattle.rules.specs.Refusals.{check, when, short_of}
use Rattle.rules.specs.Answers.{unless, whole_rooms}
use Rattle.rules.specs.Sheets.{bad_sheet, sheet_levels, sheet_indices, sheet_coords, sheet_outcome}
use Rattle.rules.specs.Calls.{sheet_last}
use Rattle.rules.specs.declared.Counts.{Counts}
use Rattle.rules.specs.declared.Refusal.{Refusal}
use Rattle.rules.specs.Outcome.{Outcome}
use Rattle.rules.proofs.Cage.{accepted}
use Rattle.rules.proofs.Levels.{sound-level, mesh-levels}
use Rattle.rules.proofs.Range.{near-at}
use Rattle.loopsubdiv.proofs.Outcomes.{whole_room_lem, done as answered}
use Rattle.sheet.proofs.Calls.{done}
use Rattle.listing.specs.Text.{Put}
use Rattle.obj.specs.Form.{obj_text, has_text}
use Rattle.obj.specs.Calls.{text_of, text_left}
use Rattle.obj.proofs.Lines.{written}
use Rattle.obj.proofs.Lengths.{text-short, has-text}
use Rattle.obj.proofs.Promise.{wrote}
use Rattle.plateobj.specs.Output.{plate_rooms, most_sheet, plate_outcome}

-- how long a lent room is: said of any number, so that nothing is counted
pub so-long : {A : Type 0} (n : ℕ) (a : A) → n ≡ length (replicate n a)
so-long n a = sym (length-replicate n a)

pub within : (c : Counts) → short_of (plate_rooms c) ≡ none → (c.vertices ≤ 32768) × (c.faces ≤ 32768)
within c e =
    let w = whole_room_lem 98304 98304 786432 196608 c e in
    (omega (arith, w.positions), omega (arith, w.indices))

pub over : (b : List ℕ) → most_sheet < length b → plate_outcome b ≡ Err (record { number = 16; place = 0 })
unfolding plate_outcome
over b h = rw (lt-ltb most_sheet (length b) h)

pub not-over : (b : List ℕ) → length b ≤ most_sheet → plate_outcome b ≡ sheet_outcome plate_rooms b
unfolding plate_outcome
not-over b h = rw (le-ltb most_sheet (length b) h)

-- rooms of these lengths are that room
pub rooms-are : (ps : List ℤ) (is ws : List ℕ) (cs : List ℤ) (b : List ℕ) (o : Outcome) → 98304 ≡ length ps → 98304 ≡ length is → 786432 ≡ length ws → 196608 ≡ length cs
    → o ≡ sheet_outcome (whole_rooms (length ps) (length is) (length ws) (length cs)) b → o ≡ sheet_outcome plate_rooms b
rooms-are ps is ws cs b o p i w c e =
    e ∙ ap (λ (n : ℕ). sheet_outcome (whole_rooms n (length is) (length ws) (length cs)) b) (sym p)
    ∙ ap (λ (n : ℕ). sheet_outcome (whole_rooms 98304 n (length ws) (length cs)) b) (sym i)
    ∙ ap (λ (n : ℕ). sheet_outcome (whole_rooms 98304 98304 n (length cs)) b) (sym w)
    ∙ ap (λ (n : ℕ). sheet_outcome (whole_rooms 98304 98304 786432 n) b) (sym c)

-- ---- the lists of a plate have a text

unless-none : (o : Option Refusal) (x : Outcome) (c : Counts) → unless o x ≡ Ok c → x ≡ Ok c
unless-none none x c e = e
unless-none (some r) x c e = absurd (let z : ◌≡◌ {A = ℕ} 0 1 = cc in omega arith)

pub plate-has : (b : List ℕ) (c : Counts) → sheet_outcome plate_rooms b ≡ Ok c → has_text (positions_of whole (sheet_last b)) (sheet_last b).mesh.faces ≡ true
unfolding sheet_outcome
plate-has b c e =
    let l = sheet_levels b in let fs = sheet_indices b in let xs = sheet_coords b in
    let ps = positions_of whole (sheet_last b) in
    let m = (sheet_last b).mesh in
    let d = done plate_rooms b c e in
    let k = d.counts in
    let w = within c d.room in
    let p = d.positions in let q = d.faces in
    let o = answered whole plate_rooms l fs xs c (unless-none (check 15 (when (bad_sheet b))) _ c e) in
    let near = (near-at l l fs xs o.passes).1 in
    let sound = rw (← (mesh-levels whole l (first whole fs xs))) at (sound-level l (length fs / 3) (cage (length xs / 3) fs) (accepted whole l fs xs o.passes).sound) in
    let v : length ps / 3 ≡ m.verts = omega (arith, ap (λ (a : Counts). a.vertices) k) in
    has-text ps m.faces (omega arith) (omega arith) (omega (arith, w.0)) (omega (arith, w.1))
    (λ i h. (near.at i).size)
    (λ i h. rw v (sound.good.below i (omega (arith, sound.good.size))))

-- ---- the writer's answer, which is no refusal

pub put-bytes : (old : List ℕ) (xs : List ℤ) (fs new : List ℕ) (t : Result ℕ Refusal) (n : ℕ) → t ≡ text_of (length old) xs fs → t ≡ Ok n → new ≡ text_left t (obj_text xs fs) old
    → Put old 0 (obj_text xs fs) new n × (n ≤ length old)
put-bytes old xs fs new t n a b e =
    let w = wrote (length old) xs fs n (sym a ∙ b) in
    (record { text = e ∙ ap (λ (u : Result ℕ Refusal). text_left u (obj_text xs fs) old) b; next-is = w.long ∙ sym (zero-add _) }, w.fits_in)

pub never-refused : (room : ℕ) (xs : List ℤ) (fs : List ℕ) (t : Result ℕ Refusal) (r : Refusal) → 1900544 ≤ room → has_text xs fs ≡ true → t ≡ text_of room xs fs → t ≡ Err r → ⊥
never-refused room xs fs t r l h a b =
    let w = written room xs fs (length (obj_text xs fs)) h refl (omega (arith, text-short xs fs h)) in
    let k : Ok (length (obj_text xs fs)) ≡ Err r = w ∙ sym a ∙ b in
    cc
