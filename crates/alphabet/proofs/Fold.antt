-- What holds of sheets done one after the other: no later sheet touches what an earlier one left, and what was not taken is as it was.
use Rattle.std.specs.Prelude.{Err, Ok}
use Prim.Native.Nat.{ℕ, ◌+◌, ◌-◌, ◌*◌, ◌≤◌}
use mathlib.Core.Path.{◌≡◌, refl, sym, ap, ◌∙◌, subst}
use mathlib.Core.List.{List, [], ◌∷◌, ◌++◌}
use native.Mathlib.Omega.{arith}
use lib.IntN.{ℤ}
use lib.ListN.{length, take, drop, length-drop, length-append, take-append-drop}
use lib.Seq.{length-sets, take_at, drop_at, drop-drop, take-take, take-add, length-take-le}
use Rattle.lists.specs.Lists.{part}
use Rattle.lists.proofs.Stores.{drop-after, part_of}
use Rattle.rules.specs.Position.{whole}
use Rattle.rules.specs.Levels.{positions as positions_of}
use Rattle.rules.specs.Answers.{answer, written}
use Rattle.rules.specs.declared.Counts.{Counts}
use Rattle.rules.specs.declared.Refusal.{Refusal}
use Rattle.rules.specs.Outcome.{Outcome}
use Rattle.rules.specs.Calls.{Buffers, sheet_last}
use Rattle.sheet.proofs.Calls.{done as done-sheet}
use Rattle.alphabet.specs.Sheets.{alone, leaves, Done, room_of, answered, next, all_of, nothing, taken, taken_indices}
use Rattle.alphabet.proofs.Going.{takes, five}

-- ---- a buffer of which the rest from p on was lent

module _ {A : Type 0} (p : ℕ) (l u : List A) (h : p ≤ length l) where
  front : take p (take p l ++ u) ≡ take p l
  front = take_at (take p l) u p (length-take-le p l h)

  rear : drop p (take p l ++ u) ≡ u
  rear = drop_at (take p l) u p (length-take-le p l h)

  rear-past : (n : ℕ) → drop (p + n) (take p l ++ u) ≡ drop n u
  rear-past n = sym (drop-drop n p (take p l ++ u)) ∙ ap (drop n) rear

  long : length u ≡ length (drop p l) → length (take p l ++ u) ≡ length l
  long e = length-append (take p l) u ∙ omega (arith, length-take-le p l h, length-drop p l)

length-written : {A : Type 0} (r : Outcome) (x old : List A) → length (written r x old) ≡ length old
length-written (Ok c) x old = length-sets old 0 x
length-written (Err r) x old = refl

-- ---- one sheet: what it does not take is as it was, and what it takes is its output

module _ (t : Buffers ℤ) (b : List ℕ) where
  not_taken : (r : Outcome) → r ≡ alone t b →
      (drop (taken r) (written r (positions_of whole (sheet_last b)) t.positions) ≡ drop (taken r) t.positions)
      × (drop (taken_indices r) (written r (sheet_last b).mesh.faces t.indices) ≡ drop (taken_indices r) t.indices)
  unfolding alone
  not_taken (Err r) e = (refl, refl)
  not_taken (Ok c) e =
      let k = done-sheet _ b c (sym e) in
      let x : 0 + length (positions_of whole (sheet_last b)) ≤ 3 * c.vertices = omega (arith, k.positions) in
      let y : 0 + length (sheet_last b).mesh.faces ≤ 3 * c.faces = omega (arith, k.faces) in
      (drop-after (positions_of whole (sheet_last b)) t.positions 0 (3 * c.vertices) x, drop-after (sheet_last b).mesh.faces t.indices 0 (3 * c.faces) y)

pub record Fits (d : Done) : Type 0 where
  pub positions : d.positions ≤ length d.room.positions
  pub indices : d.indices ≤ length d.room.indices

pub fits-nothing : (t : Buffers ℤ) → Fits (nothing t)
fits-nothing t = record { positions = omega arith; indices = omega arith }

module _ (d : Done) (b : List ℕ) (h : Fits d) where
  same-positions : length (next d b).room.positions ≡ length d.room.positions
  unfolding next leaves
  same-positions = long d.positions d.room.positions _ h.positions (length-written (answered d b) _ _)

  same-indices : length (next d b).room.indices ≡ length d.room.indices
  unfolding next leaves
  same-indices = long d.indices d.room.indices _ h.indices (length-written (answered d b) _ _)

  more : (d.positions ≤ (next d b).positions) × (d.indices ≤ (next d b).indices)
  unfolding next
  more = (omega arith, omega arith)

  there : ((next d b).positions ≤ length d.room.positions) × ((next d b).indices ≤ length d.room.indices)
  unfolding next
  there = takes d.room d.positions d.indices b (answered d b) refl h.positions h.indices

  pub fits_next : Fits (next d b)
  fits_next = record { positions = omega (arith, same-positions, there.0); indices = omega (arith, same-indices, there.1) }

  front-positions : take d.positions (next d b).room.positions ≡ take d.positions d.room.positions
  unfolding next
  front-positions = front d.positions d.room.positions _ h.positions

  front-indices : take d.indices (next d b).room.indices ≡ take d.indices d.room.indices
  unfolding next
  front-indices = front d.indices d.room.indices _ h.indices

  pub rear-positions : drop (next d b).positions (next d b).room.positions ≡ drop (next d b).positions d.room.positions
  unfolding next leaves
  rear-positions =
      rear-past d.positions d.room.positions _ h.positions (taken (answered d b))
      ∙ (not_taken (room_of d) b (answered d b) refl).0 ∙ drop-drop (taken (answered d b)) d.positions d.room.positions

  rear-indices : drop (next d b).indices (next d b).room.indices ≡ drop (next d b).indices d.room.indices
  unfolding next leaves
  rear-indices =
      rear-past d.indices d.room.indices _ h.indices (taken_indices (answered d b))
      ∙ (not_taken (room_of d) b (answered d b) refl).1 ∙ drop-drop (taken_indices (answered d b)) d.indices d.room.indices

  pub told-next : (next d b).told ≡ d.told ++ answer (answered d b)
  unfolding next
  told-next = refl

  pub told-long : length (next d b).told ≡ length d.told + 5
  told-long = ap length told-next ∙ length-append d.told (answer (answered d b)) ∙ ap (λ (n : ℕ). length d.told + n) (five (answered d b))

  -- a success leaves its own output at the front of its room
  pub own-output : (c : Counts) → answered d b ≡ Ok c →
      (part d.positions (3 * c.vertices) (next d b).room.positions ≡ positions_of whole (sheet_last b)) × (part d.indices (3 * c.faces) (next d b).room.indices ≡ (sheet_last b).mesh.faces)
  unfolding next leaves alone
  own-output c e =
      let k = done-sheet _ b c e in
      let w = takes d.room d.positions d.indices b (Ok c) (sym e) h.positions h.indices in
      let ps = drop d.positions d.room.positions in
      let is = drop d.indices d.room.indices in
      let m : 0 + 3 * c.vertices ≤ length ps = omega (arith, w.0, length-drop d.positions d.room.positions) in
      let n : 0 + 3 * c.faces ≤ length is = omega (arith, w.1, length-drop d.indices d.room.indices) in (
        ap (take (3 * c.vertices)) (rear d.positions d.room.positions _ h.positions) ∙ ap (λ (r : Outcome). take (3 * c.vertices) (written r (positions_of whole (sheet_last b)) ps)) e
            ∙ part_of (positions_of whole (sheet_last b)) ps 0 (3 * c.vertices) k.positions m,
        ap (take (3 * c.faces)) (rear d.indices d.room.indices _ h.indices) ∙ ap (λ (r : Outcome). take (3 * c.faces) (written r (sheet_last b).mesh.faces is)) e
            ∙ part_of (sheet_last b).mesh.faces is 0 (3 * c.faces) k.faces n,
      )

  pub taken_then : (c : Counts) → answered d b ≡ Ok c → ((next d b).positions ≡ d.positions + 3 * c.vertices) × ((next d b).indices ≡ d.indices + 3 * c.faces)
  unfolding next
  taken_then c e = (ap (λ (r : Outcome). d.positions + taken r) e, ap (λ (r : Outcome). d.indices + taken_indices r) e)

-- "A refused sheet takes no room": all but what is told stays
pub refused-takes-none : (d : Done) (b : List ℕ) (r : Refusal) → answered d b ≡ Err r →
    next d b ≡ record { positions = d.positions; indices = d.indices; told = d.told ++ answer (Err r); room = d.room }
unfolding next leaves
refused-takes-none d b r e =
    let p : d.positions + 0 ≡ d.positions = omega arith in
    let q : d.indices + 0 ≡ d.indices = omega arith in
    rw (e, take-append-drop d.positions d.room.positions, take-append-drop d.indices d.room.indices, p, q) refl

-- ---- all sheets

pub fits_all : (d : Done) (bs : List (List ℕ)) → Fits d → Fits (all_of d bs)
unfolding all_of
fits_all d [] h = h
fits_all d (b ∷ bs) h = fits_all (next d b) bs (fits_next d b h)

pub more-all : (d : Done) (bs : List (List ℕ)) → Fits d → (d.positions ≤ (all_of d bs).positions) × (d.indices ≤ (all_of d bs).indices)
unfolding all_of
more-all d [] h = (omega arith, omega arith)
more-all d (b ∷ bs) h =
    let m = more d b h in
    let n = more-all (next d b) bs (fits_next d b h) in
    (omega (arith, m.0, n.0), omega (arith, m.1, n.1))

pub long-all : (d : Done) (bs : List (List ℕ)) → Fits d → (length (all_of d bs).room.positions ≡ length d.room.positions) × (length (all_of d bs).room.indices ≡ length d.room.indices)
unfolding all_of
long-all d [] h = (refl, refl)
long-all d (b ∷ bs) h =
    let n = long-all (next d b) bs (fits_next d b h) in
    (n.0 ∙ same-positions d b h, n.1 ∙ same-indices d b h)

-- no later sheet touches what stands before
pub kept-positions : (d : Done) (bs : List (List ℕ)) → Fits d → take d.positions (all_of d bs).room.positions ≡ take d.positions d.room.positions
unfolding all_of
kept-positions d [] h = refl
kept-positions d (b ∷ bs) h =
    let p = d.positions in
    let e = next d b in
    let m = (more d b h).0 in
    sym (take-take p e.positions (all_of e bs).room.positions m) ∙ ap (take p) (kept-positions e bs (fits_next d b h)) ∙ take-take p e.positions e.room.positions m
    ∙ front-positions d b h

pub kept-indices : (d : Done) (bs : List (List ℕ)) → Fits d → take d.indices (all_of d bs).room.indices ≡ take d.indices d.room.indices
unfolding all_of
kept-indices d [] h = refl
kept-indices d (b ∷ bs) h =
    let q = d.indices in
    let e = next d b in
    let m = (more d b h).1 in
    sym (take-take q e.indices (all_of e bs).room.indices m) ∙ ap (take q) (kept-indices e bs (fits_next d b h)) ∙ take-take q e.indices e.room.indices m
    ∙ front-indices d b h

-- what none of them took is as it was
drop_more : {A : Type 0} (m n : ℕ) (x y : List A) → m ≤ n → drop m x ≡ drop m y → drop n x ≡ drop n y
drop_more {A} m n x y h e =
    let k : m + (n - m) ≡ n = omega arith in
    ap (λ (i : ℕ). drop i x) (sym k) ∙ sym (drop-drop (n - m) m x) ∙ ap (drop (n - m)) e ∙ drop-drop (n - m) m y ∙ ap (λ (i : ℕ). drop i y) k

pub past-positions : (d : Done) (bs : List (List ℕ)) → Fits d → drop (all_of d bs).positions (all_of d bs).room.positions ≡ drop (all_of d bs).positions d.room.positions
unfolding all_of
past-positions d [] h = refl
past-positions d (b ∷ bs) h =
    let e = next d b in
    let k = fits_next d b h in
    past-positions e bs k ∙ drop_more e.positions (all_of e bs).positions e.room.positions d.room.positions (more-all e bs k).0 (rear-positions d b h)

pub past-indices : (d : Done) (bs : List (List ℕ)) → Fits d → drop (all_of d bs).indices (all_of d bs).room.indices ≡ drop (all_of d bs).indices d.room.indices
unfolding all_of
past-indices d [] h = refl
past-indices d (b ∷ bs) h =
    let e = next d b in
    let k = fits_next d b h in
    past-indices e bs k ∙ drop_more e.indices (all_of e bs).indices e.room.indices d.room.indices (more-all e bs k).1 (rear-indices d b h)

-- ---- parts of what stands in front

pub part-of-take : {A : Type 0} (p n : ℕ) (l : List A) → p ≤ length l → drop p (take (p + n) l) ≡ part p n l
part-of-take p n l h = ap (drop p) (take-add p n l) ∙ drop_at (take p l) (part p n l) p (length-take-le p l h)

part_same : {A : Type 0} (p n : ℕ) (x y : List A) → p ≤ length x → p ≤ length y → take (p + n) x ≡ take (p + n) y → part p n x ≡ part p n y
part_same p n x y h k e = sym (part-of-take p n x h) ∙ ap (drop p) e ∙ part-of-take p n y k

-- no later sheet touches what a sheet leaves: its output at the end
pub output-here : (d : Done) (b : List ℕ) (after : List (List ℕ)) → Fits d → (c : Counts) → answered d b ≡ Ok c →
    (part d.positions (3 * c.vertices) (all_of (next d b) after).room.positions ≡ positions_of whole (sheet_last b)) × (part d.indices (3 * c.faces) (all_of (next d b) after).room.indices ≡ (sheet_last b).mesh.faces)
output-here d b after h c s =
    let e = next d b in
    let k = fits_next d b h in
    let o = own-output d b h c s in
    let a = taken_then d b h c s in
    let l = long-all e after k in
    let f = k.positions in
    let g = k.indices in
    let x : take (d.positions + 3 * c.vertices) (all_of e after).room.positions ≡ take (d.positions + 3 * c.vertices) e.room.positions =
    subst (λ (n : ℕ). take n (all_of e after).room.positions ≡ take n e.room.positions) a.0 (kept-positions e after k) in
    let y : take (d.indices + 3 * c.faces) (all_of e after).room.indices ≡ take (d.indices + 3 * c.faces) e.room.indices =
    subst (λ (n : ℕ). take n (all_of e after).room.indices ≡ take n e.room.indices) a.1 (kept-indices e after k) in (
      part_same d.positions (3 * c.vertices) _ _ (omega (arith, f, a.0, l.0)) (omega (arith, f, a.0)) x ∙ o.0,
      part_same d.indices (3 * c.faces) _ _ (omega (arith, g, a.1, l.1)) (omega (arith, g, a.1)) y ∙ o.1,
    )
