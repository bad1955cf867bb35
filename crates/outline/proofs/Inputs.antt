-- Which of 16, 15 and the sheet's lists decides; and what a call that succeeds has listed.
use Rattle.std.specs.Prelude.{Err, Ok}
use Prim.Native.Nat.{ℕ, ◌+◌, ◌*◌, ◌≤◌, ◌<◌}
use mathlib.Core.Path.{◌≡◌, refl, ap, ◌∙◌}
use mathlib.Core.Bool.{true, false}
use mathlib.Core.List.{List, ◌++◌}
use native.Mathlib.Omega.{arith}
use lib.IntN.{ℤ}
use lib.ListN.{length}
use lib.Seq.{sets}
use borrow.Author.Tests.{lt-ltb, le-ltb}
use Rattle.rules.specs.Position.{whole}
use Rattle.rules.specs.Levels.{last, positions}
use Rattle.rules.specs.Answers.{outcome}
use Rattle.rules.specs.Sheets.{bad_sheet, sheet_levels, sheet_indices, sheet_coords, cut_rooms, most_input}
use Rattle.rules.specs.declared.Counts.{Counts}
use Rattle.rules.specs.declared.Refusal.{Refusal}
use Rattle.rules.proofs.Spokes.{length-positions}
use Rattle.loopsubdiv.proofs.Outcomes.{Done, done, whole_room_lem}
use Rattle.outlines.specs.Loops.{listing, loops_of, outline_of, outline_outcome}
use Rattle.outlines.proofs.Answered.{listed_below, succeeded}
use Rattle.listing.specs.Text.{refused_text}
use Rattle.outline.specs.Output.{outlines_line, list_room, cage_text, refused_by, outline_text, entry_texts, Vertices}
use Rattle.outline.proofs.Lines.{listing-text, listing-vertices, same_text, front-line}

module _ (b : List ℕ) where
  pub over : most_input < length b → refused_by 16 ≡ outline_text b
  unfolding outline_text
  over h = rw (lt-ltb most_input (length b) h) refl

  module _ (h : length b ≤ most_input) where
    pub no-sheet : bad_sheet b ≡ true → refused_by 15 ≡ outline_text b
    unfolding outline_text
    no-sheet e = rw (le-ltb most_input (length b) h, e) refl

    pub by-sheet : bad_sheet b ≡ false → cage_text (sheet_levels b) (sheet_indices b) (sheet_coords b) ≡ outline_text b
    unfolding outline_text
    by-sheet e = rw (le-ltb most_input (length b) h, e) refl

module _ (l : ℕ) (fs : List ℕ) (xs : List ℤ) where
  abbrev rs : List (List ℕ)
  rs = loops_of l fs xs

  abbrev ps : List ℤ
  ps = positions whole (last whole l fs xs)

  pub text-refused : (r : Refusal) → outline_outcome cut_rooms list_room l fs xs ≡ Err r → refused_text r ≡ cage_text l fs xs
  unfolding cage_text
  text-refused r e = rw e refl

  module _ (k : Counts) (e : outline_outcome cut_rooms list_room l fs xs ≡ Ok k) where
    fine : (outcome whole cut_rooms l fs xs ≡ Ok k) × (length (listing rs) ≤ list_room)
    fine = succeeded cut_rooms list_room l fs xs k e

    counts : Done whole cut_rooms l fs xs k
    counts = done whole cut_rooms l fs xs k fine.0

    pub few : (k.vertices ≤ 512) × (length (listing rs) ≤ list_room)
    few = (omega (arith, (whole_room_lem 1536 1536 12288 3072 k counts.room).positions), fine.1)

    pub vertices-are : Vertices 512 0 (listing rs)
    vertices-are =
        listing-vertices 512 rs (λ i j h q. omega (arith, listed_below l fs xs counts.passes i j h q, ap (λ (c : Counts). c.vertices) counts.counts, few.0))

    -- entry by entry, over the buffer in which the positions stand
    pub text-listed : (old : List ℤ) → length old ≡ 1536 → outlines_line (outline_of rs) ++ entry_texts (sets old 0 ps) 0 (listing rs) ≡ cage_text l fs xs
    unfolding cage_text
    text-listed old n =
        let long : length ps ≡ 3 * k.vertices = length-positions whole (last whole l fs xs) ∙ ap (λ (c : Counts). 3 * c.vertices) counts.counts in
        let v = listing-vertices k.vertices rs (λ i j h q. omega (arith, listed_below l fs xs counts.passes i j h q, ap (λ (c : Counts). c.vertices) counts.counts)) in
        rw e
        (ap (λ (t : List ℕ). outlines_line (outline_of rs) ++ t)
        (same_text k.vertices (sets old 0 ps) ps (λ a h. front-line ps old k.vertices a long (omega (arith, n, few.0)) h) 0 (listing rs) v ∙ listing-text ps rs))
