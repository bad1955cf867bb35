-- One line past the most, of either kind, is told at its letter, and a corner past the last vertex at the digit that takes it there, whatever the text before says. The texts are
-- too long for the table of specs/Cases.
use Prim.Native.Nat.{ℕ, suc, ◌+◌, ◌<◌}
use mathlib.Core.Path.{◌≡◌, refl, sym, ap, ◌∙◌}
use mathlib.Core.Bool.{Bool, true, false, ◌&&◌}
use mathlib.Core.List.{List, [], ◌∷◌, ◌++◌, append_assoc, append-nil}
use native.Mathlib.Omega.{arith}
use native.Mathlib.Nat.{add-zero, zero-add}
use lib.Dec.{eqb, ltb}
use lib.IntN.{ℤ}
use lib.ListN.{length, length-append}
use borrow.Author.Tests.{ne_eqb}
use Rattle.lists.specs.Lists.{pick}
use Rattle.obj.specs.Form.{obj_text, has_text}
use Rattle.spots.specs.Spots.{turn, is_stuck}
use Rattle.obj.specs.Reading.{Read, wrong, coord_by, corner_by, next, begin, read_from, read_obj}
use Rattle.spots.specs.declared.Spot.{Spot}
use Rattle.spots.specs.declared.Spot.TheVariants.{Line, AfterV, AfterF, Corner, Number, Stuck}
use Rattle.obj.proofs.Spelled.{at}
use Rattle.obj.proofs.Back.{after, after-append}
use Rattle.obj.proofs.Round.{fits, text-back, stuck-stays}

-- a text that is read as far as b, and no further
stops : (i : ℕ) (s : Read) (b rest : List ℕ) (c : ℕ) → is_stuck (after s b).spot ≡ false → is_stuck (next (after s b) c).spot ≡ true → read_from i s (b ++ (c ∷ rest)) ≡ wrong (i + length b)
unfolding after read_from
stops i s [] rest c h k = rw (k, add-zero i) refl
stops i s (d ∷ b) rest c h k = go (is_stuck (next s d).spot) refl (stops (i + 1) (next s d) b rest c h k)
  where
    go : (t : Bool) → is_stuck (next s d).spot ≡ t → read_from (i + 1) (next s d) (b ++ (c ∷ rest)) ≡ wrong (i + 1 + length b) → read_from i s (d ∷ (b ++ (c ∷ rest))) ≡ wrong (i + suc (length b))
    go true e q = absurd (let z : true ≡ false = sym (stuck-stays (next s d) b e) ∙ h in let y : ◌≡◌ {A = ℕ} 0 1 = cc in omega arith)
    go false e q = let z : i + 1 + length b ≡ i + suc (length b) = omega arith in rw (e, ← z) q

module _ (xs : List ℤ) (fs : List ℕ) (h : has_text xs fs ≡ true) (rest : List ℕ) where
  letter : (c : ℕ) → turn (length xs) (length fs) Line c ≡ Stuck → read_obj (obj_text xs fs ++ (c ∷ rest)) ≡ wrong (length (obj_text xs fs))
  unfolding read_obj next
  letter c e =
      let t = text-back xs fs (fits xs fs h) in
      stops 0 begin (obj_text xs fs) rest c
      (ap (λ (s : Read). is_stuck s.spot) t)
      (ap (λ (s : Read). is_stuck (next s c).spot) t ∙ ap is_stuck e)
      ∙ ap wrong (zero-add (length (obj_text xs fs)))

  -- after 32,768 vertices
  pub one-vertex-more : length xs ≡ 98304 → read_obj (obj_text xs fs ++ (118 ∷ rest)) ≡ wrong (length (obj_text xs fs))
  unfolding turn
  one-vertex-more e = letter 118 (rw e (go (eqb (length fs) 0)))
    where
      go : (t : Bool) → pick (t && false) AfterV Stuck ≡ Stuck
      go true = refl
      go false = refl

  -- after 32,768 faces
  pub one-face-more : length fs ≡ 98304 → read_obj (obj_text xs fs ++ (102 ∷ rest)) ≡ wrong (length (obj_text xs fs))
  unfolding turn
  one-face-more e = letter 102 (rw e (go (ltb 0 (length xs))))
    where
      go : (t : Bool) → pick (t && false) AfterF Stuck ≡ Stuck
      go true = refl
      go false = refl

  -- a vertex after a face
  pub vertex-too-late : 0 < length fs → read_obj (obj_text xs fs ++ (118 ∷ rest)) ≡ wrong (length (obj_text xs fs))
  unfolding turn
  vertex-too-late l = letter 118 (rw (ne_eqb (length fs) 0 (λ z. omega arith)) refl)

-- "f 32768 1 32769" after 32,768 vertices: its last digit
abbrev line : List ℕ
line = 102 ∷ 32 ∷ 51 ∷ 50 ∷ 55 ∷ 54 ∷ 56 ∷ 32 ∷ 49 ∷ 32 ∷ 51 ∷ 50 ∷ 55 ∷ 54 ∷ []

module _ (xs : List ℤ) (h : has_text xs [] ≡ true) (e : length xs ≡ 98304) (rest : List ℕ) where
  step : (fs gs : List ℕ) (p q : Spot) (c : ℕ) → coord_by p c ≡ [] → fs ++ corner_by p c ≡ gs → turn 98304 (length fs) p c ≡ q → next (at xs fs p) c ≡ at xs gs q
  unfolding next
  step fs gs p q c a b t = rw (e, a, b, t, append-nil xs) refl

  digit : (fs : List ℕ) (n m c : ℕ) → corner_by (Number n) c ≡ [] → turn 98304 (length fs) (Number n) c ≡ Number m → next (at xs fs (Number n)) c ≡ at xs fs (Number m)
  digit fs n m c b t = step fs fs (Number n) (Number m) c refl (rw b (append-nil fs)) t

  so_far : after (at xs [] Line) line ≡ at xs (32767 ∷ 0 ∷ []) (Number 3276)
  unfolding after turn
  so_far =
      rw (
        step [] [] Line AfterF 102 refl refl refl,
        step [] [] AfterF Corner 32 refl refl refl,
        step [] [] Corner (Number 3) 51 refl refl refl,
        digit [] 3 32 50 refl refl,
        digit [] 32 327 55 refl refl,
        digit [] 327 3276 54 refl refl,
        digit [] 3276 32768 56 refl refl,
        step [] (32767 ∷ []) (Number 32768) Corner 32 refl refl refl,
        step (32767 ∷ []) (32767 ∷ []) Corner (Number 1) 49 refl refl refl,
        step (32767 ∷ []) (32767 ∷ 0 ∷ []) (Number 1) Corner 32 refl refl refl,
        step (32767 ∷ 0 ∷ []) (32767 ∷ 0 ∷ []) Corner (Number 3) 51 refl refl refl,
        digit (32767 ∷ 0 ∷ []) 3 32 50 refl refl,
        digit (32767 ∷ 0 ∷ []) 32 327 55 refl refl,
        digit (32767 ∷ 0 ∷ []) 327 3276 54 refl refl,
      )
      refl

  pub corner-past-the-last : read_obj (obj_text xs [] ++ (line ++ (57 ∷ rest))) ≡ wrong (length (obj_text xs []) + 14)
  unfolding read_obj next turn
  corner-past-the-last =
      let t = text-back xs [] (fits xs [] h) in
      let s : after begin (obj_text xs [] ++ line) ≡ at xs (32767 ∷ 0 ∷ []) (Number 3276) = after-append begin (obj_text xs []) line ∙ ap (λ (s : Read). after s line) t ∙ so_far in
      ap read_obj (sym (append_assoc (obj_text xs []) line (57 ∷ rest)))
      ∙ stops 0 begin (obj_text xs [] ++ line) rest 57 (ap (λ (s : Read). is_stuck s.spot) s) (ap (λ (s : Read). is_stuck (next s 57).spot) s ∙ rw e refl)
      ∙ ap wrong (zero-add (length (obj_text xs [] ++ line)) ∙ length-append (obj_text xs []) line)
