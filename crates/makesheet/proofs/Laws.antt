-- Which of 16, 15, the shape and the rest decides; and of request 8, that none is 11.
use Rattle.std.specs.Prelude.{Err}
use Prim.Native.Nat.{ℕ, ◌+◌, ◌-◌, ◌*◌, ◌≤◌, ◌<◌}
use mathlib.Core.Path.{◌≡◌, refl, sym, ◌∙◌}
use mathlib.Core.Logic.{◌≢◌}
use mathlib.Core.Bool.{Bool, true, false}
use mathlib.Core.List.{List}
use native.Mathlib.Omega.{arith}
use lib.ListN.{length, get_or, take, drop, length-drop}
use lib.Seq.{take_all}
use lib.Dec.{ltb}
use borrow.Author.Tests.{lt-ltb, le-ltb, eq-eqb, ne_eqb}
use Rattle.lists.specs.Lists.{pick}
use Rattle.lists.proofs.Places.{skip}
use Rattle.rules.specs.Position.{whole}
use Rattle.rules.specs.Refusals.{shape_refusal}
use Rattle.rules.specs.Sheets.{word_at, signed}
use Rattle.rules.specs.declared.Refusal.{Refusal}
use Rattle.limits.specs.Verdicts.{verdict_of}
use Rattle.writer.specs.Writing.{written_of, written_answer}
use Rattle.std.specs.Prelude.{Ok, Err}
use Rattle.writer.proofs.Stage.{stage-no}
use Rattle.writer.proofs.Writes.{write-no}
use Rattle.writer.proofs.Trips.{one_each}
use Rattle.writer.proofs.Promise.{unlike, wrote, written-never-eleven}
use Rattle.makesheet.specs.Lists.{most_lists, coord_list, corner_list, bad_lists, refused_by, made}

-- what a part from p to the end is
pub rest : {A : Type 0} (l : List A) (p : ℕ) → take (length l - p) (drop p l) ≡ drop p l
rest l p = take_all (length l - p) (drop p l) (rw (length-drop p l) (omega arith))

module _ (room : ℕ) (b : List ℕ) where
  pub over : most_lists < length b → refused_by 16 ≡ made room b
  unfolding made
  over h = rw (lt-ltb most_lists (length b) h) refl

  module _ (h : length b ≤ most_lists) where
    pub no-head : length b < 12 → refused_by 15 ≡ made room b
    unfolding made
    no-head k = rw (le-ltb most_lists (length b) h, lt-ltb (length b) 12 k) refl

    module _ (k : 12 ≤ length b) where
      pub not-so-long : length b ≢ 12 + 4 * word_at b 4 + 4 * word_at b 8 → refused_by 15 ≡ made room b
      unfolding made
      not-so-long d = rw (le-ltb most_lists (length b) h, le-ltb (length b) 12 k, ne_eqb (length b) (12 + 4 * word_at b 4 + 4 * word_at b 8) d) refl

      module _ (e : length b ≡ 12 + 4 * word_at b 4 + 4 * word_at b 8) where
        pub by-lists : written_of room (word_at b 0) (corner_list b) (coord_list b) ≡ made room b
        unfolding made
        by-lists = rw (le-ltb most_lists (length b) h, le-ltb (length b) 12 k, eq-eqb (length b) (12 + 4 * word_at b 4 + 4 * word_at b 8) e) refl

        pub by_shape : (r : Refusal) → verdict_of (shape_refusal (word_at b 0) (word_at b 8) (word_at b 4)) ≡ Err r → Err r ≡ made room b
        by_shape r s =
            let i = one_each (λ j. word_at (drop (12 + 4 * word_at b 4) b) (4 * j)) (word_at b 8) in
            let c = one_each (λ j. signed (word_at (drop 12 b) (4 * j))) (word_at b 4) in
            write-no room (word_at b 0) (corner_list b) (coord_list b) r (sym (stage-no whole (word_at b 0) (corner_list b) (coord_list b) r (rw (i, c) s))) ∙ by-lists

-- what is answered as written fits
pub fits : (room : ℕ) (b : List ℕ) (n : ℕ) → made room b ≡ Ok n → n ≤ room
unfolding made
fits room b n e =
    let x = skip (ltb most_lists (length b)) unlike e in
    let y = skip (bad_lists b) unlike x.1 in
    (wrote room (word_at b 0) (corner_list b) (coord_list b) n y.1).fits

pub made-never-eleven : (room : ℕ) (b : List ℕ) → get_or (written_answer (made room b)) 0 0 ≢ 11
unfolding made
made-never-eleven room b = go (ltb most_lists (length b)) (bad_lists b)
  where
    go : (over bad : Bool) → get_or (written_answer (pick over (refused_by 16) (pick bad (refused_by 15) (written_of room (word_at b 0) (corner_list b) (coord_list b))))) 0 0 ≢ 11
    go true bad = λ e. omega arith
    go false true = λ e. omega arith
    go false false = written-never-eleven room (word_at b 0) (corner_list b) (coord_list b)
