-- What the reader's answer says, what the lists of a sheet are once decoded, and what the trailer alone decides of the call on a sheet.
use Prim.Native.Nat.{ℕ, ◌+◌, ◌*◌, ◌≤◌}
use mathlib.Core.Path.{◌≡◌, refl, ap, ◌∙◌}
use mathlib.Core.Bool.{true, false}
use mathlib.Core.List.{List, ◌∷◌, []}
use mathlib.Core.Option.{some}
use Rattle.std.specs.Prelude.{Option, None, Some, Err}
use native.Mathlib.Omega.{arith}
use lib.IntN.{ℤ}
use lib.ListN.{length, take}
use lib.Seq.{sets, length-take-le}
use Rattle.lists.specs.Lists.{rows}
use Rattle.lists.proofs.Places.{skip, taken}
use Rattle.lists.proofs.Stores.{length-rows, length_part, part_of}
use Rattle.rules.specs.Position.{whole}
use Rattle.rules.specs.Refusals.{Room, shape_refusal, refusal}
use Rattle.rules.specs.Answers.{outcome}
use Rattle.rules.specs.Sheets.{word_at, signed, bad_sheet, sheet_verts, sheet_faces, sheet_levels, vertex_block, face_block, sheet_indices, sheet_coords, sheet_outcome}
use Rattle.rules.specs.declared.Counts.{Counts}
use Rattle.rules.specs.declared.Refusal.{Refusal}
use Rattle.reader.specs.Reading.{sheet_of, sheet_number}
use Rattle.reader.specs.declared.Sheet.{Sheet}
use Rattle.reader.proofs.Laws.{good_length}

-- ---- what the reader's answer says

pub record Read (b : List ℕ) (s : Sheet) : Type 0 where
  pub good : bad_sheet b ≡ false
  pub verts : sheet_verts b ≡ s.vertices
  pub faces : sheet_faces b ≡ s.faces
  pub levels : sheet_levels b ≡ s.levels

unlike : {s : Sheet} → None ≡ Some s → ⊥
unlike e = cc

unlike' : {s : Sheet} → Some s ≡ None → ⊥
unlike' e = cc

pub read : (b : List ℕ) (s : Sheet) → sheet_of b ≡ Some s → Read b s
unfolding sheet_of
read b s e =
    let p = skip (bad_sheet b) unlike e in
    let q : record { vertices = sheet_verts b; faces = sheet_faces b; levels = sheet_levels b } ≡ s = cc p.1 in
    record { good = p.0; verts = ap (λ (t : Sheet). t.vertices) q; faces = ap (λ (t : Sheet). t.faces) q; levels = ap (λ (t : Sheet). t.levels) q }

pub none-is-bad : (b : List ℕ) → sheet_of b ≡ None → bad_sheet b ≡ true
unfolding sheet_of
none-is-bad b e = (taken (bad_sheet b) unlike' e).0

pub refused-15 : (rooms : Counts → List Room) (b : List ℕ) → sheet_of b ≡ None → sheet_outcome rooms b ≡ Err (record { number = 15; place = 0 })
unfolding sheet_outcome
refused-15 rooms b e = rw (none-is-bad b e) refl

refused-by : (s : Option Sheet) → sheet_number s ≡ 15 → s ≡ None
refused-by (Some s) e = absurd (omega (arith, e))
refused-by None e = refl

-- the reader's number is the call's
pub number-15 : (rooms : Counts → List Room) (b : List ℕ) → sheet_number (sheet_of b) ≡ 15 → sheet_outcome rooms b ≡ Err (record { number = 15; place = 0 })
number-15 rooms b e = refused-15 rooms b (refused-by (sheet_of b) e)

-- ---- the lists

module _ (b : List ℕ) (good : bad_sheet b ≡ false) where
  pub vertex-bytes : length (vertex_block b) ≡ 12 * sheet_verts b
  unfolding vertex_block
  vertex-bytes = rw good (length-take-le (12 * sheet_verts b) b (omega (arith, good_length b good)))

  pub face-bytes : length (face_block b) ≡ 12 * sheet_faces b
  unfolding face_block
  face-bytes = rw good (length_part b (12 * sheet_verts b) (12 * sheet_faces b) (omega (arith, good_length b good)))

one_each : {A : Type 0} (g : ℕ → A) (n : ℕ) → length (rows (λ k. g k ∷ []) n) ≡ n
one_each g n = length-rows (λ k. g k ∷ []) 1 (λ k. refl) n ∙ omega arith

pub decoded : {A : Type 0} (g : ℕ → A) (l : List A) (n m : ℕ) → m ≡ n → n ≤ length l → take n (sets l 0 (rows (λ k. g k ∷ []) n)) ≡ rows (λ k. g k ∷ []) m
decoded g l n m e h = rw e (part_of (rows (λ k. g k ∷ []) n) l 0 n (one_each g n) (omega arith))

-- the blocks of a sheet that was read are so long, and its lists stand at the front of what their numbers were put into
module _ (b : List ℕ) (s : Sheet) (e : sheet_of b ≡ Some s) where
  r : Read b s
  r = read b s e

  pub vertices-long : 4 * (3 * s.vertices) ≤ length (vertex_block b)
  vertices-long = omega (arith, vertex-bytes b r.good, r.verts)

  pub faces-long : 4 * (3 * s.faces) ≤ length (face_block b)
  faces-long = omega (arith, face-bytes b r.good, r.faces)

  pub both-long : 12 * s.vertices + 12 * s.faces + 20 ≡ length b
  both-long = omega (arith, good_length b r.good, r.verts, r.faces)

  pub coords-in-front : (old : List ℤ) → 3 * s.vertices ≤ length old → take (3 * s.vertices) (sets old 0 (rows (λ k. signed (word_at (vertex_block b) (4 * k)) ∷ []) (3 * s.vertices))) ≡ sheet_coords b
  coords-in-front old h = decoded (λ k. signed (word_at (vertex_block b) (4 * k))) old (3 * s.vertices) (3 * sheet_verts b) (ap (λ (n : ℕ). 3 * n) r.verts) h

  pub indices-in-front : (old : List ℕ) → 3 * s.faces ≤ length old → take (3 * s.faces) (sets old 0 (rows (λ k. word_at (face_block b) (4 * k) ∷ []) (3 * s.faces))) ≡ sheet_indices b
  indices-in-front old h = decoded (λ k. word_at (face_block b) (4 * k)) old (3 * s.faces) (3 * sheet_faces b) (ap (λ (n : ℕ). 3 * n) r.faces) h

-- ---- 1 and 3 are decided by the trailer alone

module _ (rooms : Counts → List Room) (b : List ℕ) (good : bad_sheet b ≡ false) where
  pub read-outcome : sheet_outcome rooms b ≡ outcome whole rooms (sheet_levels b) (sheet_indices b) (sheet_coords b)
  unfolding sheet_outcome
  read-outcome = rw good

  pub refused-shape : (r : Refusal) → shape_refusal (sheet_levels b) (3 * sheet_faces b) (3 * sheet_verts b) ≡ some r → sheet_outcome rooms b ≡ Err r
  unfolding outcome refusal
  refused-shape r e =
      let i = one_each (λ k. word_at (face_block b) (4 * k)) (3 * sheet_faces b) in
      let c = one_each (λ k. signed (word_at (vertex_block b) (4 * k))) (3 * sheet_verts b) in
      read-outcome ∙ rw (i, c, e)
