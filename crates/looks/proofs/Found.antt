-- A side across found by going through the sides.
use mathlib.Core.Path.{◌≡◌, refl, sym, ap, ◌∙◌}
use Prim.Native.Nat.{ℕ, suc, ◌+◌, ◌*◌, ◌%◌, ◌≤◌, ◌<◌}
use mathlib.Core.Logic.{◌≢◌}
use borrow.Author.Tests.{eq-eqb, ne_eqb}
use Rattle.lists.proofs.Stores.{get_d_part, length_part}
use native.Mathlib.Omega.{arith}
use mathlib.Core.Bool.{Bool, true, false, not}
use mathlib.Core.List.{List, map}
use mathlib.Core.Option.{Option, none}
use lib.Dec.{T, T_not, eqb}
use lib.ListN.{length, get_or, get_or-append}
use lib.Seq.{get_or-append-add}
use Rattle.lists.specs.Lists.{find, part}
use Rattle.lists.proofs.Places.{get_d_map, Look, nowhere, there, look, find-is}
use Rattle.rules.specs.Mesh.{onward, corner, Side, side, sides, opposite, links}
use Rattle.rules.proofs.Sides.{length-links, length-sides, get_or-sides, get_or-links}
use Rattle.faces.specs.Words.{link_of, coded}
use Rattle.faces.specs.Faces.{face_link, face_at}
use Rattle.faces.specs.declared.face.Face.{Face}
use Rattle.looks.specs.Looked.{looked}

abbrev off : Side
off = record { from = 0; to = 0 }

yes : (b : Bool) → b ≡ true → T b
yes true e = tt
yes false e = absurd (let z : ◌≡◌ {A = ℕ} 0 1 = cc in omega arith)

no' : (b : Bool) → b ≡ false → T (not b)
no' true e = absurd (let z : ◌≡◌ {A = ℕ} 0 1 = cc in omega arith)
no' false e = tt

module _ (fs : List ℕ) (s : ℕ) (h : s < length fs) where
  abbrev p : ℕ → Bool
  p t = opposite (side fs s) (side fs t)

  -- at t, and at none before
  pub across-at : (t : ℕ) → t < length fs → p t ≡ true → ((j : ℕ) → j < t → p j ≡ false) → coded (get_or (links fs) s none) ≡ suc t
  across-at t k e b =
      ap coded (get_or-links fs s none h ∙ find-is (opposite (side fs s)) off (sides fs) t (record {
        below = rw (length-sides fs) k;
        passes = rw (get_or-sides fs t off k) (yes (p t) e);
        before = λ j l. rw (get_or-sides fs j off (omega arith)) (no' (p j) (b j l));
      }))

  pub across-none : ((j : ℕ) → j < length fs → p j ≡ false) → coded (get_or (links fs) s none) ≡ 0
  across-none b = ap coded (get_or-links fs s none h ∙ go (find (opposite (side fs s)) (sides fs)) (look (opposite (side fs s)) off (sides fs)))
    where
      go : (o : Option ℕ) → Look (opposite (side fs s)) (sides fs) off o → o ≡ none
      go _ (nowhere q) = refl
      go _ (there i f) =
          let k : i < length fs = rw (length-sides fs) at f.below in
          absurd (T_not (p i) (no' (p i) (b i k)) (rw (get_or-sides fs i off k) at f.passes))

-- ---- the side itself

end_is : (w : List ℕ) (at n t o : ℕ) → t < n → n % 3 ≡ 0 → o ≡ onward t → corner (part at n w) (onward t) ≡ get_or w (at + o) 0
end_is w at n t o h m q = get_d_part w at n (onward t) 0 (omega arith) ∙ ap (λ (z : ℕ). get_or w (at + z) 0) (sym q)

pub side-is : (w : List ℕ) (at n s o : ℕ) → s < n → n % 3 ≡ 0 → o ≡ onward s → ◌≡◌ {A = Side} (record { from = get_or w (at + s) 0; to = get_or w (at + o) 0 }) (side (part at n w) s)
side-is w at n s o h m q = rw (end_is w at n s o h m q, get_d_part w at n s 0 h)

-- ---- a face, its links looked up

module _ (fs : List ℕ) (n : ℕ) (size : length fs ≡ n) where
  pub corner-word : (x y : ℕ) → x < n → x ≡ y → get_or (looked fs) y 0 ≡ corner fs x
  corner-word x y h e = ap (λ (z : ℕ). get_or (looked fs) z 0) (sym e) ∙ get_or-append fs (map coded (links fs)) 0 x (rw size h)

  pub link-word : (x y : ℕ) → x < n → n + x ≡ y → get_or (looked fs) y 0 ≡ coded (get_or (links fs) x none)
  link-word x y h e =
      ap (λ (z : ℕ). get_or (looked fs) z 0) (sym e ∙ ap (λ (z : ℕ). z + x) (sym size))
      ∙ get_or-append-add fs (map coded (links fs)) x 0 ∙ get_d_map coded (links fs) x none 0 (rw (length-links fs ∙ size) h)

module _ (w : List ℕ) (at n : ℕ) (room : at + n ≤ length w) where
  abbrev fs : List ℕ
  fs = part at n w

  long : length fs ≡ n
  long = length_part w at n room

  -- as it is read from the words
  pub word-is : (x y z : ℕ) → x < n → at + x ≡ y → x ≡ z → get_or w y 0 ≡ get_or (looked fs) z 0
  word-is x y z h e f = ap (λ (i : ℕ). get_or w i 0) (sym e) ∙ sym (get_d_part w at n x 0 h) ∙ sym (corner-word fs n long x z h f)

  pub face-is : (f : ℕ) → 3 * f + 3 ≤ n → (a b c x y z : ℕ) → a ≡ get_or w (at + 3 * f) 0 → b ≡ get_or w (at + 3 * f + 1) 0 → c ≡ get_or w (at + 3 * f + 2) 0
      → x ≡ coded (get_or (links fs) (3 * f) none) → y ≡ coded (get_or (links fs) (3 * f + 1) none) → z ≡ coded (get_or (links fs) (3 * f + 2) none)
      → ◌≡◌ {A = Face} (record { v0 = record { 0 = a }; v1 = record { 0 = b }; v2 = record { 0 = c }; f0 = face_link (link_of x); f1 = face_link (link_of y); f2 = face_link (link_of z) }) (face_at (looked fs) 0 n f)
  face-is f h a b c x y z A B C X Y Z =
      rw (
        A ∙ word-is (3 * f) (at + 3 * f) (0 + 3 * f) (omega arith) refl (omega arith),
        B ∙ word-is (3 * f + 1) (at + 3 * f + 1) (0 + 3 * f + 1) (omega arith) (omega arith) (omega arith),
        C ∙ word-is (3 * f + 2) (at + 3 * f + 2) (0 + 3 * f + 2) (omega arith) (omega arith) (omega arith),
        X ∙ sym (link-word fs n long (3 * f) (n + 3 * f) (omega arith) refl),
        Y ∙ sym (link-word fs n long (3 * f + 1) (n + 3 * f + 1) (omega arith) (omega arith)),
        Z ∙ sym (link-word fs n long (3 * f + 2) (n + 3 * f + 2) (omega arith) (omega arith)),
      ) refl
