-- A number below zero fits; lists that are equal place by place are equal; what stands in front of a buffer; the verdict with its rim sides; and which refusal comes before all else.
use Prim.Native.Nat.{ℕ, zero, suc, ◌+◌, ◌-◌, ◌≤◌, ◌<◌}
use mathlib.Core.Path.{◌≡◌, refl, ap, ◌∙◌}
use mathlib.Core.Bool.{Bool, true, false}
use mathlib.Core.List.{List, [], ◌∷◌}
use mathlib.Core.Option.{none, some}
use native.Mathlib.Omega.{arith}
use lib.IntN.{pos, negsuc, ◌-ℤ◌}
use lib.Dec.{eqb}
use lib.ListN.{length, take, drop, length-drop}
use lib.Seq.{take_all}
use borrow.Author.Tests.{lt-ltb, le-ltb}
use mir.Syntax.{w32}
use mir.Val.{SFits}
use Rattle.lists.specs.Lists.{pick}
use Rattle.lists.proofs.Stores.{part_of}
use Rattle.rules.specs.Sheets.{word_at, bad_sheet, sheet_levels, sheet_indices, sheet_coords, sheet_outcome, cut_rooms, most_input}
use Rattle.listing.specs.Text.{Put, mesh_text}
use Rattle.station.specs.declared.Fault.TheVariants.{Counts as CountsDiffer}
use Rattle.station.specs.declared.Verdict.TheVariants.{Yes, No, Refused}
use Rattle.station.specs.Acceptance.{verdict}
use Rattle.station.specs.declared.Verdict.{Verdict}
use Rattle.claimcheck.specs.Output.{Claim, rims_of, with_rims, unreadable_text, claim_verdict, claim_text, Judged, sheet_in, listing_in, early}

below-zero : (n : ℕ) → pos 0 -ℤ pos (suc n) ≡ negsuc n
below-zero n = let e : suc n - 1 ≡ n = omega arith in rw (lt-ltb 0 (suc n) (omega arith), e)

pub minus-fits : (n : ℕ) → n ≤ 2147483647 → SFits w32 (pos 0 -ℤ pos n)
minus-fits zero h = record { sfits = omega arith }
minus-fits (suc n) h = rw (below-zero n) (record { sfits = omega arith })

-- ---- a part

pub short : (n : ℕ) (l : List ℕ) → length (take n l) ≤ n
short zero [] = omega arith
short zero (x ∷ l) = omega arith
short (suc n) [] = omega arith
short (suc n) (x ∷ l) = omega (arith, short n l)

-- ---- the reader

pub put_front : {a b p : List ℕ} {n : ℕ} → Put a 0 p b n → n ≤ length a → take n b ≡ p
put_front {a} {b} {p} {n} w h = rw w.text (part_of p a 0 n (omega (arith, w.next-is)) (omega (arith, h)))

-- ---- the verdict

pub judged-by : (t : ℕ) (b listing before after : List ℕ) (next : ℕ) (k : Claim) (whole : Bool) (v w : Verdict) (o : ℕ)
    → (whole ≡ true → listing ≡ mesh_text k.counts k.positions k.faces)
    → v ≡ verdict cut_rooms t (sheet_levels b) (sheet_indices b) (sheet_coords b) k.faces k.positions → o ≡ rims_of (sheet_outcome cut_rooms b) → w ≡ with_rims k.counts.rims o v
    → Put before 0 (claim_text whole w) after next → Judged t b listing before after next
unfolding claim_verdict
judged-by t b listing before after next k whole v w o r e f g p =
    let h = g ∙ ap (λ (x : ℕ). with_rims k.counts.rims x v) f ∙ ap (λ (x : Verdict). with_rims k.counts.rims (rims_of (sheet_outcome cut_rooms b)) x) e in
    record { claim = k; whole = whole; read = r; put = rw h at p }

-- what is no listing claims nothing; its rim sides change nothing of what is told
told-as : (theirs ours : ℕ) (v : Verdict) → unreadable_text v ≡ unreadable_text (with_rims theirs ours v)
unfolding unreadable_text
told-as theirs ours Yes = go (eqb theirs ours)
  where
    go : (t : Bool) → unreadable_text Yes ≡ unreadable_text (pick t Yes (No CountsDiffer))
    go true = refl
    go false = refl
told-as theirs ours (No x) = refl
told-as theirs ours (Refused r) = refl

pub unread : (t : ℕ) (b listing before after : List ℕ) (next : ℕ) (v : Verdict)
    → v ≡ verdict cut_rooms t (sheet_levels b) (sheet_indices b) (sheet_coords b) [] []
    → Put before 0 (unreadable_text v) after next → Judged t b listing before after next
unfolding claim_verdict
unread t b listing before after next v e p =
    let h = told-as 0 (rims_of (sheet_outcome cut_rooms b)) v ∙ ap (λ (x : Verdict). unreadable_text (with_rims 0 (rims_of (sheet_outcome cut_rooms b)) x)) e in
    record { claim = record { counts = record { vertices = 0; faces = 0; rims = 0 }; positions = []; faces = [] }; whole = false; read = λ z. cc; put = rw h at p }

-- ---- the input

module _ (i : List ℕ) (n : ℕ) (e : n ≡ word_at i 4) where
  pub sheet-part : take (8 + n - 8) (drop 8 i) ≡ sheet_in i
  sheet-part = let z : 8 + n - 8 ≡ n = omega arith in rw (z, e) refl

  pub listing-part : take (length i - (8 + n)) (drop (8 + n) i) ≡ listing_in i
  listing-part = take_all (length i - (8 + n)) (drop (8 + n) i) (rw (length-drop (8 + n) i) (omega arith)) ∙ ap (λ (x : ℕ). drop (8 + x) i) e

  pub early-long : 8 ≤ length i → 32768 < n → early i ≡ some 16
  unfolding early
  early-long h k = rw (le-ltb (length i) 8 h, lt-ltb most_input (word_at i 4) (omega (arith, e, k))) refl

  pub early-cut : 8 ≤ length i → n ≤ 32768 → length i < 8 + n → early i ≡ some 15
  unfolding early
  early-cut h k j = rw (le-ltb (length i) 8 h, le-ltb most_input (word_at i 4) (omega (arith, e, k)), lt-ltb (length i) (8 + word_at i 4) (omega (arith, e, j))) refl

  pub early-bad : 8 ≤ length i → n ≤ 32768 → 8 + n ≤ length i → bad_sheet (sheet_in i) ≡ true → early i ≡ some 15
  unfolding early
  early-bad h k j b = rw (le-ltb (length i) 8 h, le-ltb most_input (word_at i 4) (omega (arith, e, k)), le-ltb (length i) (8 + word_at i 4) (omega (arith, e, j)), b) refl

  pub early-good : 8 ≤ length i → n ≤ 32768 → 8 + n ≤ length i → bad_sheet (sheet_in i) ≡ false → early i ≡ none
  unfolding early
  early-good h k j b = rw (le-ltb (length i) 8 h, le-ltb most_input (word_at i 4) (omega (arith, e, k)), le-ltb (length i) (8 + word_at i 4) (omega (arith, e, j)), b) refl

pub early-none : (i : List ℕ) → length i < 8 → early i ≡ some 15
unfolding early
early-none i h = rw (lt-ltb (length i) 8 h) refl
