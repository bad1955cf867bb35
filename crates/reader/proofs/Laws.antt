-- Laws of the reader: one number more of a block, a sheet's length, and the blocks by their bytes.
use Prim.Native.Nat.{ℕ, ◌+◌, ◌-◌, ◌*◌}
use mathlib.Core.Path.{◌≡◌, refl, ap}
use mathlib.Core.Bool.{Bool, true, false, not, ◌||◌}
use mathlib.Core.List.{List, [], ◌∷◌}
use native.Mathlib.Omega.{arith}
use lib.ListN.{length, set, take}
use lib.Seq.{sets}
use lib.Dec.{T, ltb, eqb, eqb→eq}
use Rattle.lists.specs.Lists.{rows, part}
use Rattle.lists.proofs.Stores.{length-rows, sets-row}
use Rattle.rules.specs.Sheets.{word_at, trailer, sheet_verts, sheet_faces, bad_sheet, vertex_block, face_block}

-- one number more
pub one_more : {A : Type 0} (g : ℕ → A) (l : List A) (n : ℕ) → set (sets l 0 (rows (λ k. g k ∷ []) n)) n (g n) ≡ sets l 0 (rows (λ k. g k ∷ []) (n + 1))
one_more g l n = sets-row (λ k. g k ∷ []) l 0 n n (omega (arith, length-rows (λ k. g k ∷ []) 1 (λ k. refl) n))

pub first_word : (b : List ℕ) → word_at b (length b - 20) ≡ trailer b 0
first_word b = let e : length b - 20 ≡ length b - 20 + 0 = omega arith in ap (word_at b) e

-- ---- a sheet that is not refused has the length its trailer says

last_of : (a b : Bool) → (a || not b) ≡ false → T b
last_of true b e = absurd (let z : ◌≡◌ {A = ℕ} 0 1 = cc in omega arith)
last_of false true e = tt
last_of false false e = absurd (let z : ◌≡◌ {A = ℕ} 0 1 = cc in omega arith)

pub good_length : (b : List ℕ) → bad_sheet b ≡ false → length b ≡ 12 * sheet_verts b + 12 * sheet_faces b + 20
good_length b e =
    eqb→eq (length b) (12 * sheet_verts b + 12 * sheet_faces b + 20)
    (last_of (ltb (length b) 20 || not (eqb (trailer b 0) 0) || not (eqb (trailer b 8) (12 * sheet_verts b))) (eqb (length b) (12 * sheet_verts b + 12 * sheet_faces b + 20)) e)

-- ---- the blocks, as the trailer that is read says them

module _ (b : List ℕ) where
  pub no-vertices : bad_sheet b ≡ true → take 0 b ≡ vertex_block b
  unfolding vertex_block
  no-vertices e = rw e refl

  pub no-faces : bad_sheet b ≡ true → take 0 b ≡ face_block b
  unfolding face_block
  no-faces e = rw e refl

  pub vertices-are : bad_sheet b ≡ false → take (12 * sheet_verts b) b ≡ vertex_block b
  unfolding vertex_block
  vertices-are e = rw e refl

  pub faces-are : bad_sheet b ≡ false → part (12 * sheet_verts b) (12 * sheet_faces b) b ≡ face_block b
  unfolding face_block
  faces-are e = rw e refl
