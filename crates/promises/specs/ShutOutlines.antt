-- Request [9], wrong answers shut out by name: on T the promise of `rim_loops` has room for one answer and one list, since the definition computes to them.
use Rattle.std.specs.Prelude.{Ok}
use Rattle.std.specs.Prelude.{◌≡◌, refl, ◌≢◌, ℕ, List, [], ◌∷◌, length, get_or, replicate, ℤ, Err}
use Rattle.std.proofs.Common.{ap, ◌∙◌, arith}
use Rattle.whole.specs.Whole.{nearest}
use Rattle.rules.specs.Mesh.{links, fan, refined, cage}
use Rattle.rules.specs.Levels.{levels, finer, new_positions, limits, moved, positions}
use Rattle.rules.specs.Refusals.{refusal, shape_refusal, range_refusal, list_refusal, fan_refusal, size_refusal}
use Rattle.rules.specs.Answers.{outcome, written}
use Rattle.rules.specs.Calls.{Buffers, whole_room}
use Rattle.rules.specs.Cases.{T-faces, T-points}
use Rattle.rules.specs.Outcome.{Outcome}
use Rattle.outlines.specs.Loops.{around, outlines, listing, loops_of, outline_outcome, traced, OutlineCall}
use Rattle.outlines.specs.Loops.{Traced}
use Rattle.promises.specs.Shut.{blank, counts}

-- a list with room for seven entries, every one 9; and one with room for three
abbrev seven : List ℕ
seven = replicate 7 9

abbrev brief : List ℕ
brief = replicate 3 9

-- a call on T that is lent these, answers r and leaves them so
abbrev Lists : ℕ → List ℕ → Traced → Buffers ℤ → List ℕ → Type 0
Lists l old r left new = OutlineCall l T-faces T-points (record { old = blank; new = left }) (record { old = old; new = new }) r

-- ---- what the definition computes to

abbrev Answers : ℕ → List ℕ → Outcome → Type 0
Answers l list o = outline_outcome (whole_room blank) (length list) l T-faces T-points ≡ o

T-0 : Answers 0 seven (counts 3 1 3)
unfolding nearest links fan refined cage moved new_positions limits finer levels positions shape_refusal range_refusal list_refusal fan_refusal size_refusal refusal outcome around outlines outline_outcome
T-0 = refl

T-1 : Answers 1 seven (counts 6 4 6)
unfolding nearest links fan refined cage moved new_positions limits finer levels positions shape_refusal range_refusal list_refusal fan_refusal size_refusal refusal outcome around outlines outline_outcome
T-1 = refl

T-brief : Answers 0 brief (Err (record { number = 20; place = 0 }))
unfolding nearest links fan refined cage moved new_positions limits finer levels positions shape_refusal range_refusal list_refusal fan_refusal size_refusal refusal outcome around outlines outline_outcome
T-brief = refl

T-0-loops : loops_of 0 T-faces T-points ≡ ((0 ∷ 1 ∷ 2 ∷ []) ∷ [])
unfolding nearest links fan refined cage moved new_positions limits finer levels positions around outlines
T-0-loops = refl

T-1-loops : loops_of 1 T-faces T-points ≡ ((0 ∷ 3 ∷ 1 ∷ 4 ∷ 2 ∷ 5 ∷ []) ∷ [])
unfolding nearest links fan refined cage moved new_positions limits finer levels positions around outlines
T-1-loops = refl

-- ---- one answer, one list

module _ (r : Traced) (left : Buffers ℤ) (new : List ℕ) where
  -- by the outcome and the loops that the definition computes
  known : (l : ℕ) (old : List ℕ) (o : Outcome) (rs : List (List ℕ)) → Lists l old r left new → Answers l old o → loops_of l T-faces T-points ≡ rs → (r ≡ traced o rs) × (new ≡ written o (listing rs) old)
  known l old o rs c e f = (
    c.answer ∙ ap {B = Traced} (λ (x : Outcome). traced x (loops_of l T-faces T-points)) (c.call.answer ∙ e) ∙ ap {B = Traced} (λ (x : List (List ℕ)). traced o x) f,
    c.left ∙ ap {B = List ℕ} (λ (x : Outcome). written x (listing (loops_of l T-faces T-points)) old) (c.call.answer ∙ e) ∙ ap {B = List ℕ} (λ (x : List (List ℕ)). written o (listing x) old) f,
  )

  at-0 : Lists 0 seven r left new → (r ≡ Ok (record { loops = 1; listed = 3 })) × (new ≡ 3 ∷ 0 ∷ 1 ∷ 2 ∷ 9 ∷ 9 ∷ 9 ∷ [])
  at-0 c = known 0 seven (counts 3 1 3) ((0 ∷ 1 ∷ 2 ∷ []) ∷ []) c T-0 T-0-loops

  at_1 : Lists 1 seven r left new → (r ≡ Ok (record { loops = 1; listed = 6 })) × (new ≡ 6 ∷ 0 ∷ 3 ∷ 1 ∷ 4 ∷ 2 ∷ 5 ∷ [])
  at_1 c = known 1 seven (counts 6 4 6) ((0 ∷ 3 ∷ 1 ∷ 4 ∷ 2 ∷ 5 ∷ []) ∷ []) c T-1 T-1-loops

  -- list room short: 20 at 0, and the list as it was
  pub brief-list : Lists 0 brief r left new → (r ≡ Err (record { number = 20; place = 0 })) × (new ≡ brief)
  brief-list c = known 0 brief (Err (record { number = 20; place = 0 })) ((0 ∷ 1 ∷ 2 ∷ []) ∷ []) c T-brief T-0-loops

  entry_of : (i : ℕ) (l : List ℕ) → new ≡ l → get_or new i 0 ≡ get_or l i 0
  entry_of i l e = ap (λ (z : List ℕ). get_or z i 0) e

  -- "no loops": the list left as it was lent
  pub no-loops : Lists 0 seven r left new → new ≢ seven
  no-loops c e = omega (arith, entry_of 0 _ (at-0 c).1, entry_of 0 _ e)

  -- a loop against the faces' direction
  pub reversed : Lists 0 seven r left new → get_or new 2 0 ≢ 2
  reversed c e = omega (arith, entry_of 2 _ (at-0 c).1, e)

  -- the loops of the control cage for those of the last level
  pub control-loops : Lists 1 seven r left new → get_or new 0 0 ≢ 3
  control-loops c e = omega (arith, entry_of 0 _ (at_1 c).1, e)

  -- a loop that does not begin at its lowest vertex
  pub later-start : Lists 0 seven r left new → get_or new 1 0 ≢ 1
  later-start c e = omega (arith, entry_of 1 _ (at-0 c).1, e)
