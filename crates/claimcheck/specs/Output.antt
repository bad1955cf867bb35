-- What `claimcheck` writes for an input: the verdict on a claim that stands in a listing.
use Rattle.std.specs.Prelude.{ℕ, ◌+◌, ◌*◌, ◌≤◌, ◌≡◌, Bool, true, false, List, [], ◌∷◌, ◌++◌, eqb, ltb, ℤ, length, take, drop, Err, Ok}
use Rattle.std.specs.Prelude as opt
use Rattle.std.proofs.Math.Option.{Option, none, some}
use Rattle.lists.specs.Lists.{pick}
use Rattle.rules.specs.Sheets.{word_at, bad_sheet, sheet_levels, sheet_indices, sheet_coords, sheet_outcome, cut_rooms, most_input}
use Rattle.rules.specs.declared.Counts.{Counts}
use Rattle.rules.specs.Outcome.{Outcome}
use Rattle.listing.specs.Text.{Put, numeral, spaced, mesh_text, refused_text}
use Rattle.station.specs.Acceptance.{verdict}
use Rattle.station.specs.declared.Fault.TheVariants.{Counts as CountsDiffer, Face, Far}
use Rattle.station.specs.declared.Verdict.{Verdict}
use Rattle.station.specs.declared.Verdict.TheVariants.{Yes, No, Refused}

-- ---- the text of a verdict: "yes", "no counts", "no face 3", "no coordinate 7 needs 12", or the refusal

unfoldable pub verdict_text : Verdict → List ℕ
verdict_text Yes = 121 ∷ 101 ∷ 115 ∷ 10 ∷ []
verdict_text (No CountsDiffer) = 110 ∷ 111 ∷ 32 ∷ 99 ∷ 111 ∷ 117 ∷ 110 ∷ 116 ∷ 115 ∷ 10 ∷ []
verdict_text (No (Face f)) = (110 ∷ 111 ∷ 32 ∷ 102 ∷ 97 ∷ 99 ∷ 101 ∷ []) ++ (spaced (numeral f) ++ (10 ∷ []))
verdict_text (No (Far i k)) =
    (110 ∷ 111 ∷ 32 ∷ 99 ∷ 111 ∷ 111 ∷ 114 ∷ 100 ∷ 105 ∷ 110 ∷ 97 ∷ 116 ∷ 101 ∷ [])
    ++ (spaced (numeral i) ++ ((32 ∷ 110 ∷ 101 ∷ 101 ∷ 100 ∷ 115 ∷ []) ++ (spaced (numeral k) ++ (10 ∷ []))))
verdict_text (Refused r) = refused_text r

-- "unreadable", unless the cage is refused
unfoldable pub unreadable_text : Verdict → List ℕ
unreadable_text Yes = 117 ∷ 110 ∷ 114 ∷ 101 ∷ 97 ∷ 100 ∷ 97 ∷ 98 ∷ 108 ∷ 101 ∷ 10 ∷ []
unreadable_text (No x) = 117 ∷ 110 ∷ 114 ∷ 101 ∷ 97 ∷ 100 ∷ 97 ∷ 98 ∷ 108 ∷ 101 ∷ 10 ∷ []
unreadable_text (Refused r) = refused_text r

-- ---- a claim as a listing has it, with its number of rim sides

pub record Claim : Type 0 where
  pub counts : Counts
  pub positions : List ℤ
  pub faces : List ℕ

abbrev pub rims_of : Outcome → ℕ
rims_of (Ok c) = c.rims
rims_of (Err r) = 0

abbrev pub with_rims : ℕ → ℕ → Verdict → Verdict
with_rims theirs ours Yes = pick (eqb theirs ours) Yes (No CountsDiffer)
with_rims theirs ours (No x) = No x
with_rims theirs ours (Refused r) = Refused r

-- tolerance t, the sheet b
unfoldable pub claim_verdict : ℕ → List ℕ → Claim → Verdict
claim_verdict t b k =
    with_rims k.counts.rims (rims_of (sheet_outcome cut_rooms b)) (verdict cut_rooms t (sheet_levels b) (sheet_indices b) (sheet_coords b) k.faces k.positions)

abbrev pub claim_text : Bool → Verdict → List ℕ
claim_text true v = verdict_text v
claim_text false v = unreadable_text v

-- what the reader makes of a text: a text that is read is, byte for byte, the listing of what was read
pub record Read (text : List ℕ) (c : Counts) (ps : List ℤ) (fs : List ℕ) : Type 0 where
  pub vertices : c.vertices ≤ 512
  pub faces : c.faces ≤ 512
  pub read : text ≡ mesh_text c (take (3 * c.vertices) ps) (take (3 * c.faces) fs)

abbrev pub Heard : List ℕ → opt.Option Counts → List ℤ → List ℕ → Type 0
Heard text (opt.Some c) ps fs = Read text c ps fs
Heard text opt.None ps fs = Unit {0}

-- a listing that is read whole is, byte for byte, that of the claim which is judged
pub record Judged (t : ℕ) (b listing before after : List ℕ) (next : ℕ) : Type 0 where
  pub claim : Claim
  pub whole : Bool
  pub read : whole ≡ true → listing ≡ mesh_text claim.counts claim.positions claim.faces
  pub put : Put before 0 (claim_text whole (claim_verdict t b claim)) after next

-- ---- the input: tolerance, length of the sheet, the sheet, the listing

abbrev pub sheet_in : List ℕ → List ℕ
sheet_in i = take (word_at i 4) (drop 8 i)

abbrev pub listing_in : List ℕ → List ℕ
listing_in i = drop (8 + word_at i 4) i

-- 15 and 16, before all else
unfoldable pub early : List ℕ → Option ℕ
early i =
    pick (ltb (length i) 8) (some 15)
    (pick (ltb most_input (word_at i 4)) (some 16) (pick (ltb (length i) (8 + word_at i 4)) (some 15) (pick (bad_sheet (sheet_in i)) (some 15) none)))

pub data Spoken (i before after : List ℕ) (next : ℕ) : Type 0 where
  refused : (n : ℕ) → early i ≡ some n → Put before 0 (refused_text (record { number = n; place = 0 })) after next → Spoken i before after next
  judged : early i ≡ none → Judged (word_at i 0) (sheet_in i) (listing_in i) before after next → Spoken i before after next
