-- Wrong answers shut out by name, of the f32 call: as in Shut, on the same cages, with normals. Floats are told apart by their bits.
use Rattle.std.specs.Prelude.{◌≡◌, refl, ◌≢◌, ℕ, List, [], ◌∷◌, map, get_or, take, replicate, ℤ, Float, Err}
use Rattle.std.proofs.Common.{sym, ap, ◌∙◌, arith, get_or-take}
use Rattle.std.specs.Float.{binary32}
use Rattle.std.specs.Float.Ieee.{add, sub, mul, div, neg, of_int, of_bits, to_bits, le}
use Rattle.vectors.specs.Narrow.{narrowed}
use Rattle.turns.specs.Turns.{cos_number, sin_number, half_cosine, half_sine, cosine, sine}
use Rattle.rules.specs.Mesh.{links, fan, refined, cage}
use Rattle.rules.specs.Position.{single, f32}
use Rattle.rules.specs.Levels.{last, levels, finer, new_positions, limits, moved, positions}
use Rattle.rules.specs.Tangents.{normals, normal_at}
use Rattle.rules.specs.Refusals.{refusal, shape_refusal, range_refusal, list_refusal, fan_refusal, size_refusal}
use Rattle.rules.specs.Answers.{answer, outcome, single_rooms, written, zeroed, work_words, work_coords}
use Rattle.rules.specs.Cases.{T-faces, T-points, H-faces, H-points, anywhere}
use Rattle.rules.specs.declared.Refusal.{Refusal}
use Rattle.rules.specs.Outcome.{Outcome}
use Rattle.rules.specs.Calls.{Buffers, SingleCall}
use Rattle.promises.specs.Shut.{counts}

abbrev pub floats : List ℤ → List Float
floats xs = map (of_int binary32) xs

-- room for T at two levels, every entry 9
abbrev pub blanks : Buffers Float
blanks = record { positions = replicate 45 (f32 9); indices = replicate 48 9; words = replicate 376 9; work = replicate 90 (f32 9) }

abbrev pub no_normals : List Float
no_normals = replicate 45 (f32 9)

-- a call that is lent these, answers r and leaves them so
abbrev Leaves : ℕ → List ℕ → List Float → Outcome → Buffers Float → List Float → Type 0
Leaves l fs xs r left new = SingleCall l fs xs (record { old = blanks; new = left }) (record { old = no_normals; new = new }) r

abbrev Answers : ℕ → List ℕ → List ℤ → Outcome → Type 0
Answers l fs xs o = outcome single (single_rooms 45 45 48 376 90) l fs (floats xs) ≡ o

T-0 : Answers 0 T-faces T-points (counts 3 1 3)
unfolding links fan refined cage finer levels shape_refusal range_refusal list_refusal fan_refusal size_refusal refusal outcome of_int neg le
T-0 = refl

T-1 : Answers 1 T-faces T-points (counts 6 4 6)
unfolding links fan refined cage finer levels shape_refusal range_refusal list_refusal fan_refusal size_refusal refusal outcome of_int neg le
T-1 = refl

T-2 : Answers 2 T-faces T-points (counts 15 16 12)
unfolding links fan refined cage finer levels shape_refusal range_refusal list_refusal fan_refusal size_refusal refusal outcome of_int neg le
T-2 = refl

H-0 : Answers 0 H-faces H-points (counts 4 4 0)
unfolding links fan refined cage finer levels shape_refusal range_refusal list_refusal fan_refusal size_refusal refusal outcome of_int neg le
H-0 = refl

flat-0 : Answers 0 T-faces (anywhere 3) (counts 3 1 3)
unfolding links fan refined cage finer levels shape_refusal range_refusal list_refusal fan_refusal size_refusal refusal outcome of_int neg le
flat-0 = refl

-- vertices as answered; the bits of the first float, of the third and of the first of vertex 1; the second index
abbrev vertices_of : Outcome → ℕ
vertices_of o = get_or (answer o) 2 0

abbrev first_bits : List Float → ℕ
first_bits ps = to_bits binary32 (get_or ps 0 (f32 0))

abbrev third_bits : List Float → ℕ
third_bits ps = to_bits binary32 (get_or ps 2 (f32 0))

abbrev second_x : List Float → ℕ
second_x ps = to_bits binary32 (get_or ps 3 (f32 0))

abbrev second_of : List ℕ → ℕ
second_of is = get_or is 1 0

abbrev positions_at : Outcome → ℕ → List ℤ → List Float
positions_at o l xs = written o (positions single (last single l T-faces (floats xs))) blanks.positions

abbrev normals_at : Outcome → List Float
normals_at o = written o (normals (last single 0 T-faces (floats T-points))) no_normals

abbrev indices_at : Outcome → ℕ → List ℕ
indices_at o l = written o (last single l T-faces (floats T-points)).mesh.faces blanks.indices

nine-bits : first_bits blanks.positions ≡ 0x41100000 × (third_bits no_normals ≡ 0x41100000 × first_bits (floats T-points) ≡ 0)
unfolding links fan refined cage moved new_positions limits finer levels positions normal_at normals add sub mul div neg of_int of_bits to_bits narrowed cos_number sin_number half_cosine half_sine cosine sine
nine-bits = (refl, (refl, refl))

T-0-position : first_bits (positions_at (counts 3 1 3) 0 T-points) ≡ 0x3FCCCCCD
unfolding links fan refined cage moved new_positions limits finer levels positions normal_at normals add sub mul div neg of_int of_bits to_bits narrowed cos_number sin_number half_cosine half_sine cosine sine
T-0-position = refl

flat-0-position : first_bits (positions_at (counts 3 1 3) 0 (anywhere 3)) ≡ 0
unfolding links fan refined cage moved new_positions limits finer levels positions normal_at normals add sub mul div neg of_int of_bits to_bits narrowed cos_number sin_number half_cosine half_sine cosine sine
flat-0-position = refl

T-1-x : second_x (positions_at (counts 6 4 6) 1 T-points) ≡ 0x40A66667
unfolding links fan refined cage moved new_positions limits finer levels positions normal_at normals add sub mul div neg of_int of_bits to_bits narrowed cos_number sin_number half_cosine half_sine cosine sine
T-1-x = refl

T-2-x : second_x (positions_at (counts 15 16 12) 2 T-points) ≡ 0x40A9999A
unfolding links fan refined cage moved new_positions limits finer levels positions normal_at normals add sub mul div neg of_int of_bits to_bits narrowed cos_number sin_number half_cosine half_sine cosine sine
T-2-x = refl

T-0-normal : third_bits (normals_at (counts 3 1 3)) ≡ 0xC1A3D70B
unfolding links fan refined cage moved new_positions limits finer levels positions normal_at normals add sub mul div neg of_int of_bits to_bits narrowed cos_number sin_number half_cosine half_sine cosine sine
T-0-normal = refl

T-0-work : first_bits (zeroed (counts 3 1 3) (f32 0) work_coords blanks.work) ≡ 0
unfolding links fan refined cage moved new_positions limits finer levels positions normal_at normals add sub mul div neg of_int of_bits to_bits narrowed cos_number sin_number half_cosine half_sine cosine sine
T-0-work = refl

T-0-second : second_of (indices_at (counts 3 1 3) 0) ≡ 1
unfolding links fan refined cage moved new_positions limits finer levels positions normal_at normals add sub mul div neg of_int of_bits to_bits narrowed cos_number sin_number half_cosine half_sine cosine sine
T-0-second = refl

T-1-second : second_of (indices_at (counts 6 4 6) 1) ≡ 3
unfolding links fan refined cage moved new_positions limits finer levels positions normal_at normals add sub mul div neg of_int of_bits to_bits narrowed cos_number sin_number half_cosine half_sine cosine sine
T-1-second = refl

T-2-second : second_of (indices_at (counts 15 16 12) 2) ≡ 6
unfolding links fan refined cage moved new_positions limits finer levels positions normal_at normals add sub mul div neg of_int of_bits to_bits narrowed cos_number sin_number half_cosine half_sine cosine sine
T-2-second = refl

-- ---- "refusing all cages"

pub refusing-all : (r : Refusal) (left : Buffers Float) (new : List Float) → Leaves 0 T-faces (floats T-points) (Err r) left new → ⊥
refusing-all r left new c = let e : Err r ≡ counts 3 1 3 = c.call.answer ∙ T-0 in omega (arith, ap vertices_of e)

-- ---- "one fixed plate"

pub one-fixed-answer : (r : Outcome) (left : Buffers Float) (new : List Float) → Leaves 0 T-faces (floats T-points) r left new
    → Leaves 0 H-faces (floats H-points) r left new → ⊥
one-fixed-answer r left new c d =
    let e : counts 3 1 3 ≡ counts 4 4 0 = sym (c.call.answer ∙ T-0) ∙ d.call.answer ∙ H-0 in
    omega (arith, ap vertices_of e)

pub one-fixed-plate : (r q : Outcome) (left other : Buffers Float) (new newer : List Float) → Leaves 0 T-faces (floats T-points) r left new
    → Leaves 0 T-faces (floats (anywhere 3)) q other newer → left.positions ≢ other.positions
one-fixed-plate r q left other new newer c d e =
    let a : first_bits left.positions ≡ 0x3FCCCCCD = ap first_bits c.call.positions ∙ ap (λ (o : Outcome). first_bits (positions_at o 0 T-points)) (c.call.answer ∙ T-0) ∙ T-0-position in
    let b : first_bits other.positions ≡ 0 = ap first_bits d.call.positions ∙ ap (λ (o : Outcome). first_bits (positions_at o 0 (anywhere 3))) (d.call.answer ∙ flat-0) ∙ flat-0-position in
    omega (arith, ap first_bits e)

-- ---- T at level 0: "the control points handed back", "touching no buffer"

module _ (r : Outcome) (left : Buffers Float) (new : List Float) (c : Leaves 0 T-faces (floats T-points) r left new) where
  is : r ≡ counts 3 1 3
  is = c.call.answer ∙ T-0

  first-is : first_bits left.positions ≡ 0x3FCCCCCD
  first-is = ap first_bits c.call.positions ∙ ap (λ (o : Outcome). first_bits (positions_at o 0 T-points)) is ∙ T-0-position

  pub control-points-back : take 9 left.positions ≢ floats T-points
  control-points-back e =
      let b : first_bits (take 9 left.positions) ≡ first_bits left.positions = ap (to_bits binary32) (get_or-take 9 left.positions 0 (f32 0) (omega arith)) in
      omega (arith, ap first_bits e, first-is, nine-bits.1.1)

  pub record Touched : Type 0 where
    pub positions : left.positions ≢ blanks.positions
    pub normals : new ≢ no_normals
    pub indices : left.indices ≢ blanks.indices
    pub words : left.words ≢ blanks.words
    pub work : left.work ≢ blanks.work

  pub touching-none : Touched
  touching-none =
      record {
        positions = λ e. omega (arith, ap first_bits e, first-is, nine-bits.0);
        normals = λ e.
            let a : third_bits new ≡ 0xC1A3D70B = ap third_bits c.normals ∙ ap (λ (o : Outcome). third_bits (normals_at o)) is ∙ T-0-normal in
            omega (arith, ap third_bits e, nine-bits.1.0);
        indices = λ e.
            let a : second_of left.indices ≡ 1 = ap second_of c.call.indices ∙ ap (λ (o : Outcome). second_of (indices_at o 0)) is ∙ T-0-second in
            omega (arith, ap second_of e);
        words = λ e.
            let a : second_of left.words ≡ 0 = ap second_of c.call.words ∙ ap (λ (o : Outcome). second_of (zeroed o 0 work_words blanks.words)) is in
            omega (arith, ap second_of e);
        work = λ e.
            let a : first_bits left.work ≡ 0 = ap first_bits c.call.work ∙ ap (λ (o : Outcome). first_bits (zeroed o (f32 0) work_coords blanks.work)) is ∙ T-0-work in
            let b : first_bits blanks.work ≡ 0x41100000 = nine-bits.0 in
            omega (arith, ap first_bits e);
      }

-- ---- "refining once and repeating that mesh for later levels", "invented vertex or rim counts"

pub record Further (r q : Outcome) (left later : Buffers Float) : Type 0 where
  pub answer : r ≢ q
  pub indices : left.indices ≢ later.indices
  pub positions : left.positions ≢ later.positions

pub refining-once : (r q : Outcome) (left later : Buffers Float) (new newer : List Float) → Leaves 1 T-faces (floats T-points) r left new
    → Leaves 2 T-faces (floats T-points) q later newer → Further r q left later
refining-once r q left later new newer c d =
    let p = c.call.answer ∙ T-1 in
    let s = d.call.answer ∙ T-2 in
    record {
      answer = λ e. let z : counts 6 4 6 ≡ counts 15 16 12 = sym p ∙ e ∙ s in omega (arith, ap vertices_of z);
      indices = λ e.
          let a : second_of left.indices ≡ 3 = ap second_of c.call.indices ∙ ap (λ (o : Outcome). second_of (indices_at o 1)) p ∙ T-1-second in
          let b : second_of later.indices ≡ 6 = ap second_of d.call.indices ∙ ap (λ (o : Outcome). second_of (indices_at o 2)) s ∙ T-2-second in
          omega (arith, ap second_of e);
      positions = λ e.
          let a : second_x left.positions ≡ 0x40A66667 = ap second_x c.call.positions ∙ ap (λ (o : Outcome). second_x (positions_at o 1 T-points)) p ∙ T-1-x in
          let b : second_x later.positions ≡ 0x40A9999A = ap second_x d.call.positions ∙ ap (λ (o : Outcome). second_x (positions_at o 2 T-points)) s ∙ T-2-x in
          omega (arith, ap second_x e);
    }

pub invented-counts : (r : Outcome) (left : Buffers Float) (new : List Float) → Leaves 1 T-faces (floats T-points) r left new → answer r ≡ 0 ∷ 0 ∷ 6 ∷ 4 ∷ 6 ∷ []
invented-counts r left new c = ap {B = List ℕ} (λ o. answer o) (c.call.answer ∙ T-1)
