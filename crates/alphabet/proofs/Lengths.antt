-- Lengths added up one by one, and what 19 asks.
use Prim.Native.Nat.{ℕ, suc, ◌+◌, ◌*◌, ◌≤◌, ◌<◌}
use mathlib.Core.Path.{◌≡◌, refl, ap, ◌∙◌}
use mathlib.Core.Logic.{◌≢◌}
use mathlib.Core.Bool.{Bool, true, false, not, ◌||◌}
use mathlib.Core.List.{List}
use native.Mathlib.Omega.{arith}
use lib.IntN.{ℤ}
use lib.Dec.{ltb, eqb, eqb→eq}
use lib.ListN.{length, get_or, drop}
use lib.Seq.{drop-cons, drop-length}
use borrow.Author.Tests.{lt-ltb, le-ltb, eq-eqb, ne_eqb, ltb-false, not-false}
use Rattle.rules.specs.Calls.{Lent, Buffers}
use Rattle.alphabet.specs.Sheets.{total, most_sheets, wrong, bad_batch, number, done, nothing, all_of, cut, Left, SheetsCall}

pub total-more : (ns : List ℕ) (i : ℕ) → i < length ns → total (drop i ns) ≡ get_or ns i 0 + total (drop (i + 1) ns)
total-more ns i l =
    ap total (drop-cons ns i 0 l) ∙ ap (λ (k : ℕ). get_or ns i 0 + total (drop k ns)) (let z : suc i ≡ i + 1 = omega arith in z)

pub total-none : (ns : List ℕ) (i : ℕ) → i ≡ length ns → total (drop i ns) ≡ 0
total-none ns i e = ap (λ (k : ℕ). total (drop k ns)) e ∙ ap total (drop-length ns)

module _ (n : ℕ) (ns : List ℕ) (k : ℕ) where
  pub too_many : most_sheets < length ns → true ≡ wrong n ns k
  too_many h = rw (lt-ltb most_sheets (length ns) h) refl

  pub not_equal : length ns ≤ most_sheets → total ns ≢ n → true ≡ wrong n ns k
  not_equal h d = rw (le-ltb most_sheets (length ns) h, ne_eqb (total ns) n d) refl

  pub slots-left : length ns ≤ most_sheets → total ns ≡ n → ltb k (5 * length ns) ≡ wrong n ns k
  slots-left h e = rw (le-ltb most_sheets (length ns) h, eq-eqb (total ns) n e) refl

  or-false : (a b : Bool) → (a || b) ≡ false → (a ≡ false) × (b ≡ false)
  or-false true b e = absurd (let z : ◌≡◌ {A = ℕ} 0 1 = cc in omega arith)
  or-false false b e = (refl, e)

  -- what a batch that is not refused has
  pub fine : wrong n ns k ≡ false → (total ns ≡ n) × (5 * length ns ≤ k)
  fine e =
      let x = or-false (ltb most_sheets (length ns) || not (eqb (total ns) n)) (ltb k (5 * length ns)) e in
      let y = or-false (ltb most_sheets (length ns)) (not (eqb (total ns) n)) x.0 in
      (eqb→eq (total ns) n (rw (not-false (eqb (total ns) n) y.1) tt), ltb-false _ _ x.1)

-- ---- the top call

module _ (b ns : List ℕ) (t : Lent (Buffers ℤ)) (slots : Lent (List ℕ)) where
  pub nineteen : wrong (length b) ns (length slots.old) ≡ true → t.new ≡ t.old → slots.new ≡ slots.old → SheetsCall b ns t slots 19
  unfolding number done bad_batch
  nineteen e u v = record { returned = rw e refl; left = record { room = rw e u; slots = rw e v } }

  pub done_all : wrong (length b) ns (length slots.old) ≡ false → Left (all_of (nothing t.old) (cut ns b)) t slots → SheetsCall b ns t slots 0
  unfolding number done bad_batch
  done_all e h = record { returned = rw e refl; left = rw e h }
