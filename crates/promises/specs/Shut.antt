-- Wrong answers shut out by name: on T or H the promise of the whole call has no room for such an answer, since the definition computes to another.
use Rattle.std.specs.Prelude.{◌≡◌, refl, ◌≢◌, ℕ, List, [], ◌∷◌, get_or, take, replicate, ℤ, pos, nat_abs, Err, Ok}
use Rattle.std.proofs.Common.{sym, ap, ◌∙◌, arith, get_or-take}
use Rattle.whole.specs.Whole.{nearest}
use Rattle.rules.specs.Mesh.{links, fan, refined, cage}
use Rattle.rules.specs.Position.{whole}
use Rattle.rules.specs.Levels.{last, levels, finer, new_positions, limits, moved, positions}
use Rattle.rules.specs.Refusals.{refusal, shape_refusal, range_refusal, list_refusal, fan_refusal, size_refusal}
use Rattle.rules.specs.Answers.{answer, outcome, whole_rooms, written, zeroed, work_words, work_coords}
use Rattle.rules.specs.Cases.{T-faces, T-points, H-faces, H-points, anywhere}
use Rattle.rules.specs.declared.Refusal.{Refusal}
use Rattle.rules.specs.Outcome.{Outcome}
use Rattle.rules.specs.Calls.{Buffers, WholeCall}

-- room for T at two levels and for H at none, every entry 9
abbrev pub blank : Buffers ℤ
blank = record { positions = replicate 45 (pos 9); indices = replicate 48 9; words = replicate 376 9; work = replicate 90 (pos 9) }

-- a call that is lent these, answers r and leaves them so
abbrev Leaves : ℕ → List ℕ → List ℤ → Outcome → Buffers ℤ → Type 0
Leaves l fs xs r left = WholeCall l fs xs (record { old = blank; new = left }) r

abbrev pub counts : ℕ → ℕ → ℕ → Outcome
counts v f s = Ok (record { vertices = v; faces = f; rims = s })

-- vertices, as answered
abbrev vertices_of : Outcome → ℕ
vertices_of o = get_or (answer o) 2 0

-- ---- what the definition computes to

abbrev Answers : ℕ → List ℕ → List ℤ → Outcome → Type 0
Answers l fs xs o = outcome whole (whole_rooms 45 48 376 90) l fs xs ≡ o

T-0 : Answers 0 T-faces T-points (counts 3 1 3)
unfolding nearest links fan refined cage moved new_positions limits finer levels positions shape_refusal range_refusal list_refusal fan_refusal size_refusal refusal outcome
T-0 = refl

T-1 : Answers 1 T-faces T-points (counts 6 4 6)
unfolding nearest links fan refined cage moved new_positions limits finer levels positions shape_refusal range_refusal list_refusal fan_refusal size_refusal refusal outcome
T-1 = refl

T-2 : Answers 2 T-faces T-points (counts 15 16 12)
unfolding nearest links fan refined cage moved new_positions limits finer levels positions shape_refusal range_refusal list_refusal fan_refusal size_refusal refusal outcome
T-2 = refl

H-0 : Answers 0 H-faces H-points (counts 4 4 0)
unfolding nearest links fan refined cage moved new_positions limits finer levels positions shape_refusal range_refusal list_refusal fan_refusal size_refusal refusal outcome
H-0 = refl

flat-0 : Answers 0 T-faces (anywhere 3) (counts 3 1 3)
unfolding nearest links fan refined cage moved new_positions limits finer levels positions shape_refusal range_refusal list_refusal fan_refusal size_refusal refusal outcome
flat-0 = refl

-- the size of the first coordinate that is left, of the first of vertex 1, and the second index
abbrev first_of : List ℤ → ℕ
first_of ps = nat_abs (get_or ps 0 (pos 0))

abbrev second_x : List ℤ → ℕ
second_x ps = nat_abs (get_or ps 3 (pos 0))

abbrev second_of : List ℕ → ℕ
second_of is = get_or is 1 0

abbrev left_at : Outcome → ℕ → List ℕ → List ℤ → List ℤ
left_at o l fs xs = written o (positions whole (last whole l fs xs)) blank.positions

abbrev indices_at : Outcome → ℕ → List ℕ → List ℤ → List ℕ
indices_at o l fs xs = written o (last whole l fs xs).mesh.faces blank.indices

T-0-first : first_of (left_at (counts 3 1 3) 0 T-faces T-points) ≡ 1
unfolding nearest links fan refined cage moved new_positions limits finer levels positions shape_refusal range_refusal list_refusal fan_refusal size_refusal refusal outcome
T-0-first = refl

flat-0-first : first_of (left_at (counts 3 1 3) 0 T-faces (anywhere 3)) ≡ 0
unfolding nearest links fan refined cage moved new_positions limits finer levels positions shape_refusal range_refusal list_refusal fan_refusal size_refusal refusal outcome
flat-0-first = refl

T-1-x : second_x (left_at (counts 6 4 6) 1 T-faces T-points) ≡ 5
unfolding nearest links fan refined cage moved new_positions limits finer levels positions shape_refusal range_refusal list_refusal fan_refusal size_refusal refusal outcome
T-1-x = refl

T-2-x : second_x (left_at (counts 15 16 12) 2 T-faces T-points) ≡ 6
unfolding nearest links fan refined cage moved new_positions limits finer levels positions shape_refusal range_refusal list_refusal fan_refusal size_refusal refusal outcome
T-2-x = refl

T-0-second : second_of (indices_at (counts 3 1 3) 0 T-faces T-points) ≡ 1
unfolding nearest links fan refined cage moved new_positions limits finer levels positions shape_refusal range_refusal list_refusal fan_refusal size_refusal refusal outcome
T-0-second = refl

T-1-second : second_of (indices_at (counts 6 4 6) 1 T-faces T-points) ≡ 3
unfolding nearest links fan refined cage moved new_positions limits finer levels positions shape_refusal range_refusal list_refusal fan_refusal size_refusal refusal outcome
T-1-second = refl

T-2-second : second_of (indices_at (counts 15 16 12) 2 T-faces T-points) ≡ 6
unfolding nearest links fan refined cage moved new_positions limits finer levels positions shape_refusal range_refusal list_refusal fan_refusal size_refusal refusal outcome
T-2-second = refl

-- ---- "refusing all cages": T is not refused

pub refusing-all : (r : Refusal) (left : Buffers ℤ) → Leaves 0 T-faces T-points (Err r) left → ⊥
refusing-all r left c = let e : Err r ≡ counts 3 1 3 = c.answer ∙ T-0 in omega (arith, ap vertices_of e)

-- ---- "one fixed plate": not one answer for T and H, nor one list of positions for T and for three vertices at one point

pub one-fixed-answer : (r : Outcome) (left : Buffers ℤ) → Leaves 0 T-faces T-points r left → Leaves 0 H-faces H-points r left → ⊥
one-fixed-answer r left c d =
    let e : counts 3 1 3 ≡ counts 4 4 0 = sym (c.answer ∙ T-0) ∙ d.answer ∙ H-0 in
    omega (arith, ap vertices_of e)

pub one-fixed-plate : (r q : Outcome) (left : Buffers ℤ) (other : Buffers ℤ) → Leaves 0 T-faces T-points r left → Leaves 0 T-faces (anywhere 3) q other
    → left.positions ≢ other.positions
one-fixed-plate r q left other c d e =
    let a : first_of left.positions ≡ 1 = ap first_of c.positions ∙ ap (λ (o : Outcome). first_of (left_at o 0 T-faces T-points)) (c.answer ∙ T-0) ∙ T-0-first in
    let b : first_of other.positions ≡ 0 = ap first_of d.positions ∙ ap (λ (o : Outcome). first_of (left_at o 0 T-faces (anywhere 3))) (d.answer ∙ flat-0) ∙ flat-0-first in
    omega (arith, ap first_of e)

-- ---- "the control points handed back"

pub control-points-back : (r : Outcome) (left : Buffers ℤ) → Leaves 0 T-faces T-points r left → take 9 left.positions ≢ T-points
control-points-back r left c e =
    let a : first_of left.positions ≡ 1 = ap first_of c.positions ∙ ap (λ (o : Outcome). first_of (left_at o 0 T-faces T-points)) (c.answer ∙ T-0) ∙ T-0-first in
    let b : first_of (take 9 left.positions) ≡ first_of left.positions = ap nat_abs (get_or-take 9 left.positions 0 (pos 0) (omega arith)) in
    omega (arith, ap first_of e)

-- ---- "touching no buffer": each of the four is touched

pub record Touched (left : Buffers ℤ) : Type 0 where
  pub positions : left.positions ≢ blank.positions
  pub indices : left.indices ≢ blank.indices
  pub words : left.words ≢ blank.words
  pub work : left.work ≢ blank.work

pub touching-none : (r : Outcome) (left : Buffers ℤ) → Leaves 0 T-faces T-points r left → Touched left
touching-none r left c =
    let q = c.answer ∙ T-0 in
    record {
      positions = λ e.
          let a : first_of left.positions ≡ 1 = ap first_of c.positions ∙ ap (λ (o : Outcome). first_of (left_at o 0 T-faces T-points)) q ∙ T-0-first in
          omega (arith, ap first_of e);
      indices = λ e.
          let a : second_of left.indices ≡ 1 = ap second_of c.indices ∙ ap (λ (o : Outcome). second_of (indices_at o 0 T-faces T-points)) q ∙ T-0-second in
          omega (arith, ap second_of e);
      words = λ e.
          let a : second_of left.words ≡ 0 = ap second_of c.words ∙ ap (λ (o : Outcome). second_of (zeroed o 0 work_words blank.words)) q in
          omega (arith, ap second_of e);
      work = λ e.
          let a : first_of left.work ≡ 0 = ap first_of c.work ∙ ap (λ (o : Outcome). first_of (zeroed o (pos 0) work_coords blank.work)) q in
          omega (arith, ap first_of e);
    }

-- ---- "refining once and repeating that mesh for later levels": at level 2 neither the answer nor the faces nor the positions of T are those of level 1

pub record Further (r q : Outcome) (left later : Buffers ℤ) : Type 0 where
  pub answer : r ≢ q
  pub indices : left.indices ≢ later.indices
  pub positions : left.positions ≢ later.positions

pub refining-once : (r q : Outcome) (left later : Buffers ℤ) → Leaves 1 T-faces T-points r left → Leaves 2 T-faces T-points q later → Further r q left later
refining-once r q left later c d =
    let p = c.answer ∙ T-1 in
    let s = d.answer ∙ T-2 in
    record {
      answer = λ e. let z : counts 6 4 6 ≡ counts 15 16 12 = sym p ∙ e ∙ s in omega (arith, ap vertices_of z);
      indices = λ e.
          let a : second_of left.indices ≡ 3 = ap second_of c.indices ∙ ap (λ (o : Outcome). second_of (indices_at o 1 T-faces T-points)) p ∙ T-1-second in
          let b : second_of later.indices ≡ 6 = ap second_of d.indices ∙ ap (λ (o : Outcome). second_of (indices_at o 2 T-faces T-points)) s ∙ T-2-second in
          omega (arith, ap second_of e);
      positions = λ e.
          let a : second_x left.positions ≡ 5 = ap second_x c.positions ∙ ap (λ (o : Outcome). second_x (left_at o 1 T-faces T-points)) p ∙ T-1-x in
          let b : second_x later.positions ≡ 6 = ap second_x d.positions ∙ ap (λ (o : Outcome). second_x (left_at o 2 T-faces T-points)) s ∙ T-2-x in
          omega (arith, ap second_x e);
    }

-- ---- "invented vertex or rim counts": T at level 1 has 6 vertices, 4 faces and 6 rim sides, and no other answer passes

pub invented-counts : (r : Outcome) (left : Buffers ℤ) → Leaves 1 T-faces T-points r left → answer r ≡ 0 ∷ 0 ∷ 6 ∷ 4 ∷ 6 ∷ []
invented-counts r left c = ap {B = List ℕ} (λ o. answer o) (c.answer ∙ T-1)
