-- Which of 16, 19 and the sheets decides.
use Prim.Native.Nat.{ℕ, ◌+◌, ◌*◌, ◌≤◌, ◌<◌}
use mathlib.Core.Path.{◌≡◌, refl, sym, ap, ap₂, ◌∙◌}
use mathlib.Core.Logic.{◌≢◌}
use mathlib.Core.List.{List}
use mathlib.Core.Bool.{Bool, true, false}
use native.Mathlib.Omega.{arith}
use lib.IntN.{pos}
use lib.ListN.{length, drop, replicate}
use borrow.Author.Tests.{lt-ltb, le-ltb}
use Rattle.lists.specs.Lists.{pick}
use Rattle.rules.specs.Sheets.{word_at}
use Rattle.alphabet.specs.Sheets.{four, most_sheets, nothing, cut, wrong, bad_batch, number}
use Rattle.fontcut.specs.Output.{lengths_of, sheets_of, refused_by, room_lent, texts, entries, batch_text, most_input, font_text}

module _ (b : List ℕ) where
  pub over : most_input < length b → refused_by 16 ≡ font_text b
  unfolding font_text
  over h = rw (lt-ltb most_input (length b) h) refl

  module _ (h : length b ≤ most_input) where
    pub no-count : length b < 4 → refused_by 19 ≡ font_text b
    unfolding font_text
    no-count k = rw (le-ltb most_input (length b) h, lt-ltb (length b) 4 k) refl

    module _ (k : 4 ≤ length b) where
      pub too_many : most_sheets < word_at b 0 → refused_by 19 ≡ font_text b
      unfolding font_text
      too_many m = rw (le-ltb most_input (length b) h, le-ltb (length b) 4 k, lt-ltb most_sheets (word_at b 0) m) refl

      module _ (m : word_at b 0 ≤ most_sheets) where
        pub no_lengths : length b < 4 + 4 * word_at b 0 → refused_by 19 ≡ font_text b
        unfolding font_text
        no_lengths l = rw (le-ltb most_input (length b) h, le-ltb (length b) 4 k, le-ltb most_sheets (word_at b 0) m, lt-ltb (length b) (4 + 4 * word_at b 0) l) refl

        pub sheets : 4 + 4 * word_at b 0 ≤ length b → batch_text (sheets_of b) (lengths_of b) ≡ font_text b
        unfolding font_text
        sheets l = rw (le-ltb most_input (length b) h, le-ltb (length b) 4 k, le-ltb most_sheets (word_at b 0) m, le-ltb (length b) (4 + 4 * word_at b 0) l) refl

        -- n sheets are counted, their bytes are bs and their lengths ns
        pub by-sheets : 4 + 4 * word_at b 0 ≤ length b → (n : ℕ) (bs ns : List ℕ) → n ≡ word_at b 0 → bs ≡ drop (4 + 4 * n) b → ns ≡ lengths_of b → batch_text bs ns ≡ font_text b
        by-sheets l n bs ns e x y = ap₂ {C = List ℕ} (λ u v. batch_text u v) (x ∙ ap (λ (i : ℕ). drop (4 + 4 * i) b) e) y ∙ sheets l

-- ---- what the batch's number says

pub number_is : (b ns old : List ℕ) → length old ≡ entries → number b ns old ≡ pick (wrong (length b) ns entries) 19 0
unfolding number bad_batch
number_is b ns old e = ap (λ (k : ℕ). pick (wrong (length b) ns k) 19 0) e

batch-refused : (b ns : List ℕ) → wrong (length b) ns entries ≡ true → refused_by 19 ≡ batch_text b ns
unfolding batch_text
batch-refused b ns e = rw e refl

batch-done : (b ns : List ℕ) → wrong (length b) ns entries ≡ false → texts (nothing room_lent) (cut ns b) ≡ batch_text b ns
unfolding batch_text
batch-done b ns e = rw e refl

pub refused-by : (b ns : List ℕ) (r : ℕ) → r ≡ pick (wrong (length b) ns entries) 19 0 → r ≢ 0 → refused_by r ≡ batch_text b ns
refused-by b ns r e h = go (wrong (length b) ns entries) refl e
  where
    go : (x : Bool) → wrong (length b) ns entries ≡ x → r ≡ pick x 19 0 → refused_by r ≡ batch_text b ns
    go true w e = ap {B = List ℕ} (λ (n : ℕ). refused_by n) e ∙ batch-refused b ns w
    go false w e = absurd (h e)

pub done-by : (b ns : List ℕ) (r : ℕ) → r ≡ pick (wrong (length b) ns entries) 19 0 → r ≡ 0 → texts (nothing room_lent) (cut ns b) ≡ batch_text b ns
done-by b ns r e z = go (wrong (length b) ns entries) refl e
  where
    go : (x : Bool) → wrong (length b) ns entries ≡ x → r ≡ pick x 19 0 → texts (nothing room_lent) (cut ns b) ≡ batch_text b ns
    go true w e = absurd (let q : ◌≡◌ {A = ℕ} 0 19 = sym z ∙ e in omega arith)
    go false w e = batch-done b ns w

-- the arrays that are lent
pub room-is : four (replicate 12288 (pos 0)) (replicate 12288 0) (replicate 98304 0) (replicate 24576 (pos 0)) ≡ room_lent
unfolding room_lent
room-is = refl
